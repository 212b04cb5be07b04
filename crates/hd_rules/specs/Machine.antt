-- How the turn machine answers: the one reply and the one state of Turns.IsTurn (EachTurnIsDetermined).
use Rattle.std.specs.Prelude.{◌&&◌, if◌then◌else◌, ℕ, Result, Ok, Err, Option, Some, None, List}
use Rattle.hd_rules.specs.Words.{Survivor, Refusal, TurnReply, Asked}
use Rattle.hd_rules.specs.declared.turns.Asked.TheVariants as ask
use Rattle.hd_rules.specs.declared.replies.Refusal.TheVariants as refusal
use Rattle.hd_rules.specs.declared.replies.TurnReply.TheVariants.{Done as Accepted, Refused, Cancelled, Item}
use Rattle.hd_rules.specs.Numbers.{CommandNo}
use Rattle.hd_rules.specs.Facts.{Facts}
use Rattle.hd_rules.specs.Desk.{Desk, after}
use Rattle.hd_rules.specs.Ask.{Done}
use Rattle.hd_rules.specs.Same.{same_asked, same_line}
use Rattle.hd_rules.specs.Run.{outcome_of}
use Rattle.hd_rules.specs.Target.{Split}
use Rattle.hd_rules.specs.Searches.{target, first_dependent}
use Rattle.hd_rules.specs.Turns.{Message, Kept, State, Answered, keeping, item_view, next_survivor}
use Rattle.hd_rules.specs.Turns.{with_survivor, without}

-- what was replied, where the message is a repeat
abbrev pub kept_reply : Option Kept → Asked → Option (List ℕ) → Option TurnReply
kept_reply (Some kept) asked (Some line) =
    if same_asked kept.asked asked && same_line kept.line line then Some kept.reply else None
kept_reply _ asked _ = None

-- an answer that is kept
abbrev pub with_kept : Message → Answered → Answered
with_kept m answered = record answered { state = keeping m answered.reply answered.state }

module _ (s : State) where
  -- the reply that is kept of the message's terminal, to a repeat
  abbrev pub reply_again : Message → Option TurnReply
  reply_again m = kept_reply (s.kept m.terminal) m.asked m.line

  -- a command that ended so
  abbrev pub answered_command : Survivor → Result Done Refusal → Answered
  answered_command new (Ok done) =
      let desk : Desk = after done.changes s.desk in
      record { reply = Accepted new.number done.reply; state = with_survivor s new desk }
  answered_command new (Err r) = record { reply = Refused r; state = s }

module _ (k : Facts) (s : State) where
  -- a target on which this survivor is the first to depend, or none does
  abbrev pub answered_target : Split → Option CommandNo → Answered
  answered_target at (Some n) = record { reply = Refused (refusal.Depends n); state = s }
  answered_target at None = record { reply = Cancelled at.survivor.number; state = without k s at }

  -- a cancellation with this target
  abbrev pub answered_cancel : Option Split → Answered
  answered_cancel None = record { reply = Refused refusal.NothingToCancel; state = s }
  answered_cancel (Some at) = answered_target at (first_dependent k s.survivors at.survivor at.newer)

  -- the answer to a message that is no repeat
  abbrev pub answered_new : Message → Asked → Answered
  answered_new m (ask.Command command) =
      let new : Survivor = next_survivor s m.terminal command in
      with_kept m (answered_command s new (outcome_of k s.desk new))
  answered_new m (ask.Cancel what) = with_kept m (answered_cancel (target m.terminal what s.survivors))
  answered_new m (ask.Item c) = record { reply = Item (item_view k s.desk c); state = s }

  -- the answer to a repeat, or to a new message
  abbrev pub answered_unless : Message → Option TurnReply → Answered
  answered_unless m (Some reply) = record { reply = reply; state = s }
  answered_unless m None = answered_new m m.asked

  -- What the machine answers a message, and the state that it leaves.
  abbrev pub turn_of : Message → Answered
  turn_of m = answered_unless m (reply_again s m)
