-- What an accepted command did and found.
use Rattle.std.specs.Prelude.{List}
use Rattle.hd_rules.specs.declared.cells.Change.{Change}
use Rattle.hd_rules.specs.declared.questions.Finding.{Finding}
use Rattle.hd_rules.specs.declared.replies.Reply.{Reply}
use Rattle.hd_rules.specs.Ask.{Done}

-- its changes, and the questions that it asked with their noted answers
pub record DoneValue : Type 0 where
  pub changes : List Change
  pub findings : List Finding

-- what it did, and what it says
abbrev pub done_of : DoneValue → Reply → Done
done_of done reply = record { changes = done.changes; reply = reply }
