-- What a command may ask of a desk, and a command as the questions that it asks, one after another.
use Rattle.std.specs.Prelude.{ℕ, Bool, nat_lt, Option, List, [], ◌∷◌, Result, Ok, Err}
use Rattle.hd_rules.specs.Words.{Hold, CopyState, CopyCell, HoldCell, Change, Question, ValueOf}
use Rattle.hd_rules.specs.Words.{Choice, Place, Room, Position, OnShelf, Refusal, Reply}
use Rattle.hd_rules.specs.Numbers.{PlaceNo}
use Rattle.hd_rules.specs.Facts.{Facts}
use Rattle.hd_rules.specs.Desk.{Desk}
use Rattle.hd_rules.specs.Find.{choice, place}
use Rattle.hd_rules.specs.Choose.{loans, position, on_shelf}

-- what kind of answer a question has (§ Numbers, cancellation and dependence)
abbrev pub AnswerTo : Question → Type 0
AnswerTo (ValueOf (CopyCell c)) = CopyState
AnswerTo (ValueOf (HoldCell t p)) = Option Hold
AnswerTo (Choice c b day) = Option Hold
AnswerTo (Place b) = PlaceNo
AnswerTo (Room p) = Bool
AnswerTo (Position t stamp) = ℕ
AnswerTo (OnShelf t kind pickup) = Bool

-- what an accepted command does and says
pub record Done : Type 0 where
  pub changes : List Change
  pub reply : Reply

-- A question, and how it goes on by the answer; or an end. Whatever a command does depends on nothing else.
pub data Plan : Type 0 where
  Ask : (q : Question) → (AnswerTo q → Plan) → Plan
  Refuse : Refusal → Plan
  Accept : Done → Plan

module _ (k : Facts) (d : Desk) where
  -- The answer that the desk gives: what a cell has (§ State), the first candidate (§ Choice), the least
  -- free place (§ Place), room for a loan (§ Room), the place in the queue (§ Position), and whether a
  -- copy stands on open shelves that the hold admits (§ Admits).
  abbrev pub answer : (q : Question) → AnswerTo q
  answer (ValueOf (CopyCell c)) = d.copy c
  answer (ValueOf (HoldCell t p)) = d.hold t p
  answer (Choice c b day) = choice k d c b day
  answer (Place b) = place k d b
  answer (Room p) = nat_lt (loans k d p) (k.loan_limit p)
  answer (Position t stamp) = position k d t stamp
  answer (OnShelf t kind pickup) = nat_lt 0 (on_shelf k d t kind pickup)

  -- how a plan ends at the desk
  abbrev pub outcome : Plan → Result Done Refusal
  outcome (Ask q rest) = outcome (rest (answer q))
  outcome (Refuse r) = Err r
  outcome (Accept done) = Ok done

  -- the questions that it comes to there, in order
  abbrev pub asks : Plan → List Question
  asks (Ask q rest) = q ∷ asks (rest (answer q))
  asks _ = []
