-- What each obstacle says of the desk, and of the new catalogue.
use Rattle.std.specs.Prelude.{◌≡◌, ◌<◌, ◌+◌, ◌⊎◌, false, Option, None, Some}
use Rattle.hd_rules.specs.declared.holds.Hold.{Hold}
use Rattle.hd_rules.specs.declared.holds.HoldKind.TheVariants.{One}
use Rattle.hd_rules.specs.declared.copies.CopyState.{CopyState}
use Rattle.hd_rules.specs.declared.copies.CopyState.TheVariants.{Shelf, OnLoan, OnHoldShelf, InTransit}
use Rattle.hd_rules.specs.declared.limits.TheConstants.{MOST_GIVEN}
use Rattle.hd_rules.specs.Numbers.{BranchNo, TitleNo, CopyNo, PatronNo, CommandNo}
use Rattle.hd_rules.specs.Facts.{Facts}
use Rattle.hd_rules.specs.Desk.{Desk}
use Rattle.hd_rules.specs.Choose.{is_on_shelf}
use Rattle.hd_rules.specs.Carry.{Renumbering}
use Rattle.hd_carry.specs.declared.obstacle.Obstacle.{Obstacle}
use Rattle.hd_carry.specs.declared.obstacle.Obstacle.TheVariants.{MissingCopy, MissingBorrower, MissingHolder}
use Rattle.hd_carry.specs.declared.obstacle.Obstacle.TheVariants.{MissingTitle}
use Rattle.hd_carry.specs.declared.obstacle.Obstacle.TheVariants.{MissingBranch, MissingWayEnd, MissingPickup}
use Rattle.hd_carry.specs.declared.obstacle.Obstacle.TheVariants.{MissingOnlyCopy, NumbersUsedUp}

-- on loan to the patron
abbrev pub IsLentTo : PatronNo → CopyState → Type 0
IsLentTo p (OnLoan l) = l.patron ≡ p
IsLentTo p (Shelf b) = ⊥
IsLentTo p (OnHoldShelf s) = ⊥
IsLentTo p (InTransit t) = ⊥

-- on the branch's hold shelf; or on its open shelf, where the new catalogue has the copy
abbrev pub IsBranchOf : BranchNo → Option CopyNo → CopyState → Type 0
IsBranchOf b new (OnHoldShelf s) = s.branch ≡ b
IsBranchOf b (Some x) (Shelf a) = a ≡ b
IsBranchOf b None (Shelf a) = ⊥
IsBranchOf b new (OnLoan l) = ⊥
IsBranchOf b new (InTransit t) = ⊥

-- on the way from the branch, or to it
abbrev pub IsOnWay : BranchNo → CopyState → Type 0
IsOnWay b (InTransit t) = (t.from ≡ b) ⊎ (t.to ≡ b)
IsOnWay b (Shelf a) = ⊥
IsOnWay b (OnLoan l) = ⊥
IsOnWay b (OnHoldShelf s) = ⊥

module _ (k j : Facts) (r : Renumbering) (d : Desk) (last : CommandNo) where
  -- the patron has a hold of the title
  abbrev pub Holds : TitleNo → PatronNo → Type 0
  Holds t p = (h : Hold) × (d.hold t p ≡ Some h)

  -- It is so, and the new catalogue lacks what it names; or too few numbers are left for its commands.
  abbrev pub IsInTheWay : Obstacle → Type 0
  IsInTheWay (MissingCopy c s) = (c < k.copies) × (d.copy c ≡ s) × (is_on_shelf s ≡ false) × (r.copy c ≡ None)
  IsInTheWay (MissingBorrower c p) = (c < k.copies) × IsLentTo p (d.copy c) × (r.patron p ≡ None)
  IsInTheWay (MissingHolder t p) = Holds t p × (r.patron p ≡ None)
  IsInTheWay (MissingTitle t p) = Holds t p × (r.title t ≡ None)
  IsInTheWay (MissingBranch b c) = (c < k.copies) × IsBranchOf b (r.copy c) (d.copy c) × (r.branch b ≡ None)
  IsInTheWay (MissingWayEnd b c) = (c < k.copies) × IsOnWay b (d.copy c) × (r.branch b ≡ None)
  IsInTheWay (MissingPickup b t p) = (h : Hold) × (d.hold t p ≡ Some h) × (h.pickup ≡ b) × (r.branch b ≡ None)
  IsInTheWay (MissingOnlyCopy t p c) =
      (h : Hold) × (d.hold t p ≡ Some h) × (h.kind ≡ One c) × (r.copy c ≡ None)
  IsInTheWay NumbersUsedUp = MOST_GIVEN < last + j.command_limit
