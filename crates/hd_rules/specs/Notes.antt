-- What a desk notes of its answer to a question, and the answer as it is told, by what is noted.
use Rattle.std.specs.Prelude.{nat_lt}
use Rattle.hd_rules.specs.Words.{Question, ValueOf, Choice, Place, Room, Position, OnShelf, Noted, Answer}
use Rattle.hd_rules.specs.declared.questions.Noted.TheVariants as noted
use Rattle.hd_rules.specs.declared.questions.Answer.TheVariants as answers
use Rattle.hd_rules.specs.Numbers.{Count}
use Rattle.hd_rules.specs.Facts.{Facts}
use Rattle.hd_rules.specs.Desk.{Desk, value}
use Rattle.hd_rules.specs.Choose.{loans, on_shelf}
use Rattle.hd_rules.specs.Ask.{answer}

module _ (k : Facts) where
  -- The answer that the desk gives: for room the number of loans,
  -- and for open shelves the number of copies that stand there.
  abbrev pub note : Desk → Question → Noted
  note d (ValueOf x) = noted.Value (value d x)
  note d (Choice c b day) = noted.Choice (answer k d (Choice c b day))
  note d (Place b) = noted.Place (answer k d (Place b))
  note d (Room p) = noted.Room (loans k d p)
  note d (Position t stamp) = noted.Position (answer k d (Position t stamp))
  note d (OnShelf t kind pickup) = noted.OnShelf (on_shelf k d t kind pickup)

  -- how many loans a question allows
  abbrev pub limit_of : Question → Count
  limit_of (Room p) = k.loan_limit p
  limit_of _ = 0

  -- the answer, by what is noted
  abbrev pub tell : Question → Noted → Answer
  tell q (noted.Value v) = answers.Value v
  tell q (noted.Choice h) = answers.Choice h
  tell q (noted.Place n) = answers.Place n
  tell q (noted.Room loans) = answers.Room (nat_lt loans (limit_of q))
  tell q (noted.Position n) = answers.Position n
  tell q (noted.OnShelf copies) = answers.OnShelf (nat_lt 0 copies)

  -- The answer that the desk gives, as it is told. CommandsRestOnTheirAnswers says that
  -- desks are told alike exactly where they answer alike.
  abbrev pub told_answer : Desk → Question → Answer
  told_answer d q = tell q (note d q)
