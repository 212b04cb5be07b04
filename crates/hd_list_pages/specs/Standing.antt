-- How a library stands.
use Rattle.std.specs.Prelude.{◌≡◌, ◌⊎◌, Option, Some, None, option_map, List}
use Rattle.hd_rules.specs.Journal.{Turn}
use Rattle.hd_journal.specs.Books.{Book}
use Rattle.hd_journal.specs.declared.fault.TurnFault.{TurnFault}
use Rattle.hd_hall.specs.Faults.{IsLookFault}
use Rattle.hd_list_rows.specs.Counted.{counts_of}
use Rattle.hd_list_rows.specs.declared.counts.Counts.{Counts}
use Rattle.hd_http.specs.declared.state.Health.{Health}
use Rattle.hd_http.specs.declared.state.Health.TheVariants.{Well, Shut}
use Rattle.hd_http.specs.declared.state.JournalCounts.{JournalCounts}
use Rattle.hd_http.specs.declared.state.State.{State}
use Rattle.hd_http.specs.declared.state.Turns.{Turns}

-- a look at a keeper's journal can fail so
abbrev pub MayShut : (TurnFault → Type 0) → Type 0
MayShut gives = (fault : TurnFault) × IsLookFault gives (λ front. ⊥) fault

-- what is counted of a journal, as a state tells it
abbrev pub told_of : Counts → JournalCounts
told_of counts = record {
  turns = counts.turns;
  last_number = counts.last_number;
  numbers_left = counts.numbers_left;
}

-- the state of a library whose journal is so, with what is counted of it and of its turns
abbrev pub state_of : Health → Option Counts → Option Turns → State
state_of health counts turns = record {
  health = health;
  turns = turns;
  journal = option_map told_of counts;
  connections = None;
  workers_busy = None;
  journal_bytes = None;
  commit_micros = None;
}

-- It is well where a journal is shown, and tells the counts of that one, and its turns' tallies; and else
-- shut, without any.
abbrev pub Tells : (Book → Type 0) → Type 0 → (List Turn → Option Turns → Type 0) → State → Type 0
Tells MayShow Closed MayTally state =
    ((book : Book) × MayShow book × (tallies : Option Turns) × MayTally book.turns tallies
    × (state ≡ state_of Well (Some (counts_of book)) tallies))
    ⊎ (Closed × (state ≡ state_of Shut None None))
