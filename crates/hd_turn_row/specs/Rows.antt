-- The row of a turn.
use Rattle.std.specs.Prelude.{◌≡◌, ℕ, List, [], ◌∷◌, Option, Some, None}
use Rattle.hd_catalogue.specs.Contents.{Contents}
use Rattle.hd_rules.specs.Journal.{Turn}
use Rattle.hd_rules.specs.Turns.{Message}
use Rattle.hd_rules.specs.declared.replies.TurnReply.{TurnReply}
use Rattle.hd_rules.specs.declared.turns.Asked.{Asked}
use Rattle.hd_catalogue.specs.Names.{number_of}
use Rattle.hd_day_text.specs.Days.{IsDayText}
use Rattle.hd_turn_row.specs.Columns.{AreShown, IsShown}
use Rattle.hd_ask_parts.specs.Parts.{asked_parts}
use Rattle.hd_turn_row.specs.Replies.{IsReplyColumn, number_column, outcome_word}
use Rattle.hd_turn_row.specs.declared.asked_columns.AskedColumns.{AskedColumns}
use Rattle.hd_turn_row.specs.declared.outcome.OutcomeColumns.{OutcomeColumns}
use Rattle.hd_ask_parts.specs.declared.parts.Parts.{Parts}
use Rattle.hd_turn_store.specs.Kept.{KeptTurn, new_format}

-- The row is that of a seat's message: the seat, the terminal's name, what the columns say, and the line.
pub record IsRowOf (k : Contents) (seat : ℕ) (message : Message) (row : KeptTurn) : Type 0 where
  pub seat_is : row.seat ≡ seat
  pub terminal : number_of k.terminals row.terminal ≡ Some message.terminal
  pub parts : Parts
  pub asked : asked_parts message.asked ≡ Some parts
  pub shown : AreShown k parts row
  pub line : row.line ≡ message.line

-- What a turn came to is what its row says. In the format before this one the reply's column was a text, of
-- which nothing is said.
pub record HasOutcome (format : ℕ) (reply : TurnReply) (row : KeptTurn) : Type 0 where
  pub outcome : row.outcome ≡ outcome_word reply
  pub number : row.number ≡ number_column reply
  pub told : format ≡ new_format → IsReplyColumn reply row.reply

-- It is the row of a turn in a format: what was asked, by the catalogue's names, and what that came to.
pub record IsTurnRow (k : Contents) (format : ℕ) (turn : Turn) (row : KeptTurn) : Type 0 where
  pub asked : IsRowOf k turn.seat turn.message row
  pub came : HasOutcome format turn.reply row

-- They are the rows of turns, one of each, in the same order.
abbrev pub AreTurnRows : Contents → ℕ → List Turn → List KeptTurn → Type 0
AreTurnRows k format [] [] = Unit {0}
AreTurnRows k format (turn ∷ turns) (row ∷ rows) =
    IsTurnRow k format turn row × AreTurnRows k format turns rows
AreTurnRows k format _ _ = ⊥

-- The columns are those of what is asked, and the texts those of its days.
pub record AreAskedColumns (asked : Asked) (columns : AskedColumns) : Type 0 where
  pub parts : asked_parts asked ≡ Some columns.parts
  pub day : IsShown IsDayText columns.parts.day columns.day
  pub until : IsShown IsDayText columns.parts.until columns.until

-- the text of a day, or nothing where there is none
abbrev pub text_or_empty : Option (List ℕ) → List ℕ
text_or_empty (Some text) = text
text_or_empty None = []

-- The columns are those of what a turn with this reply came to.
pub record AreColumnsOf (reply : TurnReply) (came : OutcomeColumns) : Type 0 where
  pub outcome : came.outcome.now ≡ outcome_word reply
  pub number : came.number ≡ number_column reply
  pub told : IsReplyColumn reply came.reply.items
