-- A library's state in the text format of Prometheus.
use Rattle.std.specs.Prelude.{ℕ, ◌+◌, ◌/◌, ◌%◌, List, [], ◌∷◌, ◌++◌, Option, Some, None, option_map}
use Rattle.std.specs.Prelude.{codes, decimal}
use Rattle.std.specs.List.{concat, flat_map}
use Rattle.hd_http.specs.declared.state.Health.{Health}
use Rattle.hd_http.specs.declared.state.Health.TheVariants.{Well, Shut, Full, Gone}
use Rattle.hd_http.specs.declared.state.Tally.{Tally}
use Rattle.hd_http.specs.declared.state.Turns.{Turns}
use Rattle.hd_http.specs.declared.state.State.{State}

-- a number that goes up and down: what it means, that it is one, and its value
unfoldable pub gauge_text : List ℕ → List ℕ → List ℕ → List ℕ
gauge_text name help value =
    concat (codes "# HELP " ∷ name ∷ codes " " ∷ help ∷ codes "\n# TYPE " ∷ name ∷ codes " gauge\n"
    ∷ name ∷ codes " " ∷ value ∷ codes "\n" ∷ [])

-- a gauge by its name and meaning, if the library has it
abbrev pub number_text : List ℕ × List ℕ × Option ℕ → List ℕ
number_text (name, help, None) = []
number_text (name, help, Some value) = gauge_text name help (decimal value)

-- 1 where a library can do its work, else 0
abbrev pub well : Health → ℕ
well Well = 1
well Shut = 0
well Full = 0
well Gone = 0

-- the gauges
unfoldable pub gauges : State → List (List ℕ × List ℕ × Option ℕ)
gauges s =
    (codes "holddesk_well", codes "1 if the server can do its work, else 0.", Some (well s.health))
    ∷ (
      codes "holddesk_journal_turns",
      codes "Turns of the journal; questions count until the next start.",
      option_map (λ j. j.turns) s.journal,
    )
    ∷ (codes "holddesk_last_number", codes "Number of the last command.", option_map (λ j. j.last_number) s.journal)
    ∷ (
      codes "holddesk_numbers_left",
      codes "Commands that the journal can still take.",
      option_map (λ j. j.numbers_left) s.journal,
    )
    ∷ (codes "holddesk_connections", codes "Open connections of terminals.", s.connections)
    ∷ (codes "holddesk_workers_busy", codes "Workers that serve a connection.", s.workers_busy)
    ∷ (codes "holddesk_journal_bytes", codes "Bytes of the journal's file and its log.", s.journal_bytes)
    ∷ []

-- the digit of a number at a power of ten
abbrev pub digit : ℕ → ℕ → ℕ
digit n power = 48 + n / power % 10

-- the point, and the last six digits of a number
abbrev pub fraction : ℕ → List ℕ
fraction n = 46 ∷ digit n 100000 ∷ digit n 10000 ∷ digit n 1000 ∷ digit n 100 ∷ digit n 10 ∷ digit n 1 ∷ []

-- so many microseconds in seconds, with six digits behind the point
unfoldable pub seconds_text : ℕ → List ℕ
seconds_text n = decimal (n / 1000000) ++ fraction n

-- the last commit's time, if there was one
abbrev pub commit_text : Option ℕ → List ℕ
commit_text None = []
commit_text (Some micros) =
    gauge_text (codes "holddesk_last_commit_seconds") (codes "Seconds that the last commit took.") (seconds_text micros)

-- a line of the turns of a kind that ended in one way: how many they are
unfoldable pub sample_text : List ℕ → List ℕ → List ℕ → List ℕ
sample_text kind outcome value =
    concat (codes "holddesk_turns_total{kind=\"" ∷ kind ∷ codes "\",outcome=\"" ∷ outcome ∷ codes "\"} "
    ∷ value ∷ codes "\n" ∷ [])

-- how many turns of a kind ended in which way
unfoldable pub kind_text : List ℕ × Tally → List ℕ
kind_text (kind, tally) =
    sample_text kind (codes "done") (decimal tally.done)
    ++ sample_text kind (codes "refused") (decimal tally.refused)
    ++ sample_text kind (codes "repeated") (decimal tally.repeated)

-- the kinds of turns
abbrev pub kinds : Turns → List (List ℕ × Tally)
kinds t =
    (codes "checkout", t.checkout)
    ∷ (codes "offline_checkout", t.off_line)
    ∷ (codes "checkin", t.checkin)
    ∷ (codes "renewal", t.renewal)
    ∷ (codes "hold", t.add)
    ∷ (codes "hold_deletion", t.delete)
    ∷ (codes "hold_change", t.change)
    ∷ (codes "cancellation", t.cancel)
    ∷ (codes "query", t.item)
    ∷ []

-- the turns by kind and outcome
unfoldable pub all_turns_text : Turns → List ℕ
all_turns_text turns =
    codes "# HELP holddesk_turns_total Turns since the program began, by kind and outcome.\n"
    ++ codes "# TYPE holddesk_turns_total counter\n" ++ flat_map kind_text (kinds turns)

-- the turns by kind and outcome, if they are counted
abbrev pub turns_text : Option Turns → List ℕ
turns_text None = []
turns_text (Some turns) = all_turns_text turns

-- the state
unfoldable pub metrics_text : State → List ℕ
metrics_text s = flat_map number_text (gauges s) ++ commit_text s.commit_micros ++ turns_text s.turns
