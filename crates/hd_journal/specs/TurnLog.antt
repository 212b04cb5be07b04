-- The turns, and what is kept of each terminal's last changing message.
use Rattle.std.specs.Prelude.{◌≡◌, ℕ, ◌<◌, Option, Some, None, List, length, slice_get, slice_index_or}
use Rattle.std.specs.Prelude.{if◌then◌else◌, ◌==◌}
use Rattle.hd_rules.specs.Turns.{Kept, kept_of}
use Rattle.hd_rules.specs.Journal.{Turn}
use Rattle.hd_rules.specs.Messages.{is_query}

-- The turns, by terminal the place of its last changing turn, and for how many turns there is room.
pub record TurnLog : Type 0 where
  pub turns : List Turn
  pub places : List (Option ℕ)
  pub room : ℕ

-- what is kept of a turn
abbrev pub kept_turn : Option Turn → Option Kept
kept_turn None = None
kept_turn (Some turn) = kept_of turn.message.line turn.message.asked turn.reply

abbrev pub kept_at : List Turn → Option ℕ → Option Kept
kept_at turns None = None
kept_at turns (Some i) = kept_turn (slice_get turns i)

-- what is kept, by terminal
abbrev pub kept_in : List Turn → List (Option ℕ) → ℕ → Option Kept
kept_in turns places = λ t. kept_at turns (slice_index_or places t None)

abbrev pub kept_by : TurnLog → ℕ → Option Kept
kept_by log = kept_in log.turns log.places

-- the same, where this turn is its terminal's last changing one
abbrev pub with_turn : Turn → (ℕ → Option Kept) → ℕ → Option Kept
with_turn turn kept =
    λ t. if t == turn.message.terminal
    then kept_of turn.message.line turn.message.asked turn.reply
    else kept t

-- the same after a turn that is no repeat: nothing is kept of a query
abbrev pub after_turn : Turn → (ℕ → Option Kept) → ℕ → Option Kept
after_turn turn kept = if is_query turn.message.asked then kept else with_turn turn kept

-- each place is that of a turn
abbrev pub AreTurns : List Turn → List (Option ℕ) → Type 0
AreTurns turns places = (t i : ℕ) → slice_index_or places t None ≡ Some i → i < length turns
