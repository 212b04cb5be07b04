-- A journal's turns, counted look by look.
use Rattle.std.specs.Prelude.{◌≡◌, ℕ, ◌+◌, ◌<◌, ◌≤◌, nat_lt, min, Option, Some, None, option_and_then, List}
use Rattle.std.specs.Prelude.{length, set, slice_index_or, if◌then◌else◌}
use Rattle.hd_rules.specs.Numbers.{TerminalNo}
use Rattle.hd_rules.specs.Messages.{is_query}
use Rattle.hd_rules.specs.Journal.{Turn}
use Rattle.hd_journal.specs.Books.{Book, turn_numbered}
use Rattle.hd_list_rows.specs.Counted.{counts_of}
use Rattle.hd_list_rows.specs.declared.counts.Counts.{Counts}
use Rattle.hd_http.specs.declared.state.Health.TheVariants.{Well}
use Rattle.hd_http.specs.declared.state.State.{State}
use Rattle.hd_http.specs.declared.state.Turns.{Turns}
use Rattle.hd_list_pages.specs.declared.state_reader.StateReader.{StateReader}
use Rattle.hd_list_pages.specs.declared.tallied.TheConstants.{MOST_TALLIED}
use Rattle.hd_list_pages.specs.declared.tallied.TurnTallies.{TurnTallies}
use Rattle.hd_list_pages.specs.Standing.{state_of}
use Rattle.hd_list_pages.specs.Tallies.{Counted, counted, counted_with}

-- the turns of these numbers, by terminal
abbrev pub last_in : List Turn → List (Option ℕ) → TerminalNo → Option Turn
last_in turns numbers terminal = option_and_then (turn_numbered turns) (slice_index_or numbers terminal None)

-- the numbers with that of a turn, unless it is a query
abbrev pub noted : List (Option ℕ) → Turn → ℕ → List (Option ℕ)
noted numbers turn n =
    if is_query turn.message.asked then numbers else set numbers turn.message.terminal (Some n)

-- There is room for the terminals of all turns.
abbrev pub HasRoom : List Turn → ℕ → Type 0
HasRoom turns room = (n : ℕ) (turn : Turn) → turn_numbered turns n ≡ Some turn → turn.message.terminal < room

-- what was counted of a journal that has these turns
abbrev pub seen_in : List Turn → TurnTallies → Counted
seen_in turns t = record { tallies = t.turns; last = last_in turns t.last.items }

-- The beginning of these turns was counted, and there is room for the terminals of all.
pub record IsOf (turns : List Turn) (t : TurnTallies) : Type 0 where
  pub within : t.place ≤ length turns
  pub room : HasRoom turns (length t.last.items)
  pub is : seen_in turns t ≡ counted t.begun turns t.place

-- The tallies when the turn of a number is counted too.
abbrev pub tallies_then : List Turn → TurnTallies → Turn → ℕ → Turns
tallies_then turns t turn n = (counted_with (nat_lt t.begun n) (seen_in turns t) (Some turn)).tallies

-- What was counted before of these turns has gone on in them, by as many as a look goes through.
pub record GoesOn (turns : List Turn) (old new : TurnTallies) : Type 0 where
  pub begun : new.begun ≡ old.begun
  pub on : IsOf turns old → IsOf turns new
  pub far : old.place ≤ length turns → new.place ≡ min (old.place + MOST_TALLIED) (length turns)

-- A reader has taken down the counts of a journal, and has gone on in its turns.
pub record HasCounted (old : StateReader) (book : Book) (new : StateReader) : Type 0 where
  pub counts : new.counts.counts ≡ Some (counts_of book)
  pub tallied : GoesOn book.turns old.tallied new.tallied

-- the state of a journal whose turns have all been gone through, by what a reader has taken down
abbrev pub IsEnded : StateReader → State → Type 0
IsEnded reader state =
    (counts : Counts) × (reader.counts.counts ≡ Some counts) × (counts.turns ≤ reader.tallied.place)
    × (state ≡ state_of Well (Some counts) (Some reader.tallied.turns))

-- Some tallies. Which ones isn't said where a state is told: a look shows that a journal is legal, and not
-- that it is an earlier one that has gone on. What each look adds to them *GoesOn* says.
abbrev pub AreTallied : List Turn → Option Turns → Type 0
AreTallied turns tallies = (some : Turns) × (tallies ≡ Some some)
