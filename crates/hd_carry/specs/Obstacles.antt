-- What is in the way of carrying a desk over: what the old desk needs, and the new catalogue lacks.
use Rattle.std.specs.Prelude.{ℕ, ◌+◌, ◌==◌, ◌++◌, nat_lt, if◌then◌else◌, zero, suc, Option, None, Some, List}
use Rattle.std.specs.Prelude.{[], ◌∷◌, flat_map}
use Rattle.hd_rules.specs.declared.holds.Hold.{Hold}
use Rattle.hd_rules.specs.declared.holds.HoldKind.{HoldKind}
use Rattle.hd_rules.specs.declared.copies.CopyState.{CopyState}
use Rattle.hd_rules.specs.declared.holds.HoldKind.TheVariants.{Any, One, AtBranch}
use Rattle.hd_rules.specs.declared.copies.CopyState.TheVariants.{Shelf, OnLoan, OnHoldShelf, InTransit}
use Rattle.hd_rules.specs.Numbers.{BranchNo, TitleNo, CopyNo, PatronNo, CommandNo, Count}
use Rattle.hd_rules.specs.declared.limits.TheConstants.{MOST_GIVEN}
use Rattle.hd_rules.specs.Facts.{Facts}
use Rattle.hd_rules.specs.Desk.{Desk}
use Rattle.hd_rules.specs.Carry.{Renumbering}
use Rattle.hd_carry.specs.declared.obstacle.Obstacle.{Obstacle}
use Rattle.hd_carry.specs.declared.obstacle.Obstacle.TheVariants.{MissingCopy, MissingBorrower, MissingHolder}
use Rattle.hd_carry.specs.declared.obstacle.Obstacle.TheVariants.{MissingTitle}
use Rattle.hd_carry.specs.declared.obstacle.Obstacle.TheVariants.{MissingBranch, MissingWayEnd, MissingPickup}
use Rattle.hd_carry.specs.declared.obstacle.Obstacle.TheVariants.{MissingOnlyCopy, NumbersUsedUp}

-- too few numbers are left for the commands of the new catalogue
abbrev pub number_obstacles : CommandNo → Facts → List Obstacle
number_obstacles last j = if nat_lt MOST_GIVEN (last + j.command_limit) then NumbersUsedUp ∷ [] else []

-- in the way, where there is no new number
abbrev pub where_lacking : Option ℕ → Obstacle → List Obstacle
where_lacking None obstacle = obstacle ∷ []
where_lacking (Some number) obstacle = []

module _ (r : Renumbering) where
  -- A copy that is gone is in the way, unless it stands on an open shelf; so is what its place names.
  abbrev pub shelf_obstacles : CopyNo → Option CopyNo → ℕ → List Obstacle
  shelf_obstacles c None b = []
  shelf_obstacles c (Some x) b = where_lacking (r.branch b) (MissingBranch b c)

  -- the branch that gets a copy, where another one sent it
  abbrev pub arrival_obstacles : CopyNo → (from to : BranchNo) → List Obstacle
  arrival_obstacles c from to = if to == from then [] else where_lacking (r.branch to) (MissingWayEnd to c)

  abbrev pub copy_obstacles : CopyNo → CopyState → List Obstacle
  copy_obstacles c (Shelf b) = shelf_obstacles c (r.copy c) b
  copy_obstacles c (OnLoan l) =
      where_lacking (r.copy c) (MissingCopy c (OnLoan l))
      ++ where_lacking (r.patron l.patron) (MissingBorrower c l.patron)
  copy_obstacles c (OnHoldShelf s) =
      where_lacking (r.copy c) (MissingCopy c (OnHoldShelf s))
      ++ where_lacking (r.branch s.branch) (MissingBranch s.branch c)
  copy_obstacles c (InTransit t) =
      where_lacking (r.copy c) (MissingCopy c (InTransit t))
      ++ where_lacking (r.branch t.from) (MissingWayEnd t.from c)
      ++ arrival_obstacles c t.from t.to

  -- a hold of the one copy that is gone
  abbrev pub kind_obstacles : TitleNo → PatronNo → HoldKind → List Obstacle
  kind_obstacles t p Any = []
  kind_obstacles t p (One c) = where_lacking (r.copy c) (MissingOnlyCopy t p c)
  kind_obstacles t p AtBranch = []

  -- all that a hold of the title names
  abbrev pub hold_obstacles : TitleNo → Hold → List Obstacle
  hold_obstacles t h =
      where_lacking (r.title t) (MissingTitle t h.patron)
      ++ where_lacking (r.patron h.patron) (MissingHolder t h.patron)
      ++ where_lacking (r.branch h.pickup) (MissingPickup h.pickup t h.patron)
      ++ kind_obstacles t h.patron h.kind

  -- those of the copies below a number, and of the holds of the titles below one
  abbrev pub copies_obstacles : Desk → Count → List Obstacle
  copies_obstacles d zero = []
  copies_obstacles d (suc c) = copies_obstacles d c ++ copy_obstacles c (d.copy c)

  abbrev pub titles_obstacles : (TitleNo → List Hold) → Count → List Obstacle
  titles_obstacles queues zero = []
  titles_obstacles queues (suc t) = titles_obstacles queues t ++ flat_map (hold_obstacles t) (queues t)

  -- all that is in the way, where the titles have these queues
  abbrev pub obstacles : Facts → Desk → (TitleNo → List Hold) → List Obstacle
  obstacles k d queues = copies_obstacles d k.copies ++ titles_obstacles queues k.titles
