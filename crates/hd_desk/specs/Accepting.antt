-- What is known of a command that a desk accepts.
use Rattle.std.specs.Prelude.{◌≡◌, ℕ, ◌+◌, List, Ok}
use Rattle.hd_rules.specs.declared.cells.Change.{Change}
use Rattle.hd_rules.specs.declared.commands.Command.{Command}
use Rattle.hd_rules.specs.declared.replies.Reply.{Reply}
use Rattle.hd_rules.specs.Facts.{Facts}
use Rattle.hd_rules.specs.Desk.{Desk, after}
use Rattle.hd_rules.specs.Ask.{asks}
use Rattle.hd_rules.specs.Record.{findings}
use Rattle.hd_rules.specs.Sound.{EachOnIsFit, Sound}
use Rattle.hd_rules.specs.Step.{plan}
use Rattle.hd_inverse.specs.Cells.{CanBeUndone}
use Rattle.hd_desk.specs.DeskValue.{DeskValue}
use Rattle.hd_desk.specs.Desks.{desk_of, facts, outcome_at}
use Rattle.hd_desk.specs.DoneValue.{DoneValue, done_of}

-- The changes of a command with this number can be made: each leaves a fit desk, and all of them a sound one.
-- They can be taken back there.
pub record CanBeMade (k : Facts) (d : Desk) (number : ℕ) (changes : List Change) : Type 0 where
  pub fit : EachOnIsFit k changes d
  pub sound : Sound k (number + 1) (after changes d)
  pub back : CanBeUndone k d (after changes d) changes

-- The desk accepts the command: this is its outcome with this reply, and this is what it asks. Its changes
-- can be made.
pub record IsAccepted (d : DeskValue) (number : ℕ) (command : Command) (done : DoneValue) (reply : Reply)
    : Type 0 where
  pub outcome : outcome_at d number command ≡ Ok (done_of done reply)
  pub findings : done.findings
      ≡ findings (facts d) (desk_of d) (asks (facts d) (desk_of d) (plan (facts d) number command))
  pub can : CanBeMade (facts d) (desk_of d) number done.changes

-- What an accepted command did: these are its findings, and its changes led from the first desk to the second,
-- where they can be taken back.
pub record IsDoneBy (d e : DeskValue) (number : ℕ) (command : Command) (done : DoneValue) : Type 0 where
  pub findings : done.findings
      ≡ findings (facts d) (desk_of d) (asks (facts d) (desk_of d) (plan (facts d) number command))
  pub after : desk_of e ≡ after done.changes (desk_of d)
  pub back : CanBeUndone (facts e) (desk_of d) (desk_of e) done.changes
