-- The desk of the rules that a desk stands for.
use Rattle.std.specs.Prelude.{◌≡◌, ℕ, nat_lt, true, false, Option, None, Some, Result}
use Rattle.hd_rules.specs.declared.commands.Command.{Command}
use Rattle.hd_rules.specs.declared.replies.Refusal.{Refusal}
use Rattle.hd_rules.specs.Facts.{Facts, AreInRange}
use Rattle.hd_rules.specs.Desk.{Desk}
use Rattle.hd_rules.specs.Ask.{Done, outcome}
use Rattle.hd_rules.specs.Known.{IsKnownDesk}
use Rattle.hd_rules.specs.Sound.{IsFit, MayOpen}
use Rattle.hd_rules.specs.Step.{plan, due_day, last_day}
use Rattle.hd_catalogue.specs.Contents.{Contents, facts_of}
use Rattle.hd_copies.specs.Standing.{standing}
use Rattle.hd_holds.specs.Held.{patron_hold}
use Rattle.hd_desk.specs.DeskValue.{DeskValue}

-- what its catalogue says
abbrev pub contents : DeskValue → Contents
contents d = d.copies.contents

abbrev pub facts : DeskValue → Facts
facts d = facts_of d.copies.contents

-- where each copy is, and each patron's hold of each title
unfoldable pub desk_of : DeskValue → Desk
desk_of d = record { copy = standing d.copies; hold = patron_hold d.holds }

-- What stays true of a desk: its catalogue keeps to the limits, its cells name things of the catalogue, and
-- it is fit.
pub record IsKeptDesk (k : Facts) (d : Desk) : Type 0 where
  pub range : AreInRange k
  pub known : IsKnownDesk k d
  pub fit : IsFit k d

-- A journal of the catalogue may begin: the desk that it opens with is sound, and names things of the
-- catalogue.
pub record Opens (k : Facts) : Type 0 where
  pub sound : MayOpen k
  pub known : IsKnownDesk k k.opening.desk

-- how a command with this number ends there
abbrev pub outcome_at : DeskValue → ℕ → Command → Result Done Refusal
outcome_at d number command = outcome (facts d) (desk_of d) (plan (facts d) number command)

-- the due day of a loan of the copy from this day on, where it is one
abbrev pub IsDue : Facts → ℕ → ℕ → Option ℕ → Type 0
IsDue k c day None = nat_lt last_day (due_day k c day) ≡ true
IsDue k c day (Some due) = (due ≡ due_day k c day) × (nat_lt last_day (due_day k c day) ≡ false)
