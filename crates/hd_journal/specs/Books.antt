-- What a journal shows, and what it keeps.
use Rattle.std.specs.Prelude.{◌≡◌, ℕ, zero, suc, ◌+◌, ◌≤◌, Option, None, List, [], ◌∷◌, ◌++◌, length}
use Rattle.std.specs.Prelude.{slice_get}
use Rattle.hd_rules.specs.Facts.{Facts, AreInRange}
use Rattle.hd_rules.specs.Known.{IsKnown, IsKnownJournal}
use Rattle.hd_rules.specs.Turns.{Message, Kept, State, Answered}
use Rattle.hd_rules.specs.Machine.{reply_again, turn_of}
use Rattle.hd_rules.specs.Journal.{Turn, state_after, IsLegal, IsRunOfSurvivors}
use Rattle.hd_rules.specs.Headline.{Headline}
use Rattle.hd_rules.specs.Replies.{IsReplyTo}
use Rattle.hd_rules.specs.Run.{IsAmong}
use Rattle.hd_catalogue.specs.Contents.{Contents, facts_of}
use Rattle.hd_desk.specs.Desks.{Opens}
use Rattle.hd_meter.specs.Meter.{Counts}
use Rattle.hd_journal.specs.declared.turn.Turn.{Turn as Made}
use Rattle.hd_journal.specs.SurvivorRun.{SurvivorRun, state_at}
use Rattle.hd_journal.specs.Working.{IsWork, OnlyRise}

-- A journal is its catalogue, its turns, and the work that was counted. Desk, survivors and what is kept
-- follow from the turns.
pub record Book : Type 0 where
  pub contents : Contents
  pub turns : List Turn
  pub work : Counts

abbrev pub facts : Book → Facts
facts book = facts_of book.contents

-- the machine's state after the turns
abbrev pub state : Book → State
state book = state_after (facts book) book.turns

-- what the machine answers a message after the turns, and the state that this leaves
abbrev pub machine_answer : Book → Message → Answered
machine_answer book message = turn_of (facts book) (state book) message

-- the next turn: a seat's message, with the machine's reply
abbrev pub next_turn : Book → ℕ → Message → Turn
next_turn book seat message =
    record { seat = seat; message = message; reply = (machine_answer book message).reply }

-- the turn of a number, from 1
abbrev pub turn_numbered : List Turn → ℕ → Option Turn
turn_numbered turns zero = None
turn_numbered turns (suc n) = slice_get turns n

-- One turn was added: this message of this seat, with the machine's reply; its work is counted; and the state
-- is the one that it leaves.
pub record AddsTurn (old new : Book) (seat : ℕ) (message : Message) (made : Made) : Type 0 where
  pub contents : new.contents ≡ old.contents
  pub turns : new.turns ≡ old.turns ++ next_turn old seat message ∷ []
  pub work : IsWork (facts old) (state old) message.terminal message.asked (reply_again (state old) message)
      old.work new.work
  pub state : state new ≡ (machine_answer old message).state
  pub reply : made.reply ≡ (machine_answer old message).reply
  pub number : made.at ≡ length new.turns

-- No turn was made: catalogue and turns stay. Work that was begun stays counted.
pub record MakesNoTurn (old new : Book) : Type 0 where
  pub contents : new.contents ≡ old.contents
  pub turns : new.turns ≡ old.turns
  pub work : OnlyRise old.work new.work

-- The turns are legal, so the desk is the run of the survivors, each with the reply that it got, the headline
-- holds, each reply is one to its message, and all that the desk has and the replies say names things of the
-- catalogue.
pub record IsLegalBook (contents : Contents) (turns : List Turn) : Type 0 where
  pub legal : IsLegal (facts_of contents) turns
  pub run : IsRunOfSurvivors (facts_of contents) turns (state_after (facts_of contents) turns)
  pub headline : Headline (facts_of contents) turns
  pub replies : (turn : Turn) → IsAmong turn turns → IsReplyTo turn.message.asked turn.reply
  pub known : IsKnownJournal (facts_of contents) turns

-- each message names things of the catalogue
abbrev pub AskKnown : Facts → List Turn → Type 0
AskKnown k turns = (turn : Turn) → IsAmong turn turns → IsKnown k turn.message.asked

-- The journal may begin, its turns are legal, of messages that name things of the catalogue, the machine has
-- come to this state, and no more numbers are given than there are turns.
pub record IsKept (turns : List Turn) (r : SurvivorRun) (k : ℕ → Option Kept) : Type 0 where
  pub range : AreInRange (facts_of r.contents)
  pub opens : Opens (facts_of r.contents)
  pub known : AskKnown (facts_of r.contents) turns
  pub legal : IsLegal (facts_of r.contents) turns
  pub state : state_after (facts_of r.contents) turns ≡ state_at r k
  pub last : r.last ≤ (facts_of r.contents).opening.last + length turns
