-- What holds of every desk that commands lead to.
use Rattle.std.specs.Prelude.{◌≡◌, ◌<◌, ◌≤◌, Option, Some, None, List, [], ◌∷◌}
use Rattle.hd_rules.specs.Words.{Change, Hold, HoldPlace, CopyState, OnHoldShelf, InTransit}
use Rattle.hd_rules.specs.Numbers.{BranchNo, TitleNo, CopyNo, PatronNo, HoldStamp}
use Rattle.hd_rules.specs.Facts.{Facts, first_number}
use Rattle.hd_rules.specs.Desk.{Desk, put, take_back}

-- the hold has this copy, and this pickup
abbrev pub Has : Option Hold → CopyNo → BranchNo → Type 0
Has None c b = ⊥
Has (Some h) c b = (h.copy ≡ Some c) × (h.pickup ≡ b)

-- the copy is kept for the patron at this branch, or is on the way there
abbrev pub Tied : CopyState → PatronNo → BranchNo → Type 0
Tied (OnHoldShelf s) p b = (s.patron ≡ p) × (s.branch ≡ b)
Tied (InTransit t) p b = (t.patron ≡ Some p) × (t.to ≡ b)
Tied _ p b = ⊥

-- A hold has a copy exactly where that copy, one of its title, is tied to its patron at its pickup (§ State).
pub record Tie (k : Facts) (d : Desk) : Type 0 where
  pub tied : (t : TitleNo) (p : PatronNo) (c : CopyNo) (b : BranchNo) →
      Has (d.hold t p) c b → (k.title_of c ≡ t) × Tied (d.copy c) p b
  pub has : (p : PatronNo) (c : CopyNo) (b : BranchNo) →
      Tied (d.copy c) p b → Has (d.hold (k.title_of c) p) c b

-- each hold stands under its own patron
abbrev pub AreNamed : (TitleNo → PatronNo → Option Hold) → Type 0
AreNamed holds = (t : TitleNo) (p : PatronNo) (h : Hold) → holds t p ≡ Some h → h.patron ≡ p

-- no two holds of a title have one stamp
abbrev pub StampsApart : (TitleNo → PatronNo → Option Hold) → Type 0
StampsApart holds =
    (t : TitleNo) (p q : PatronNo) (g h : Hold) → holds t p ≡ Some g → holds t q ≡ Some h →
    g.stamp ≡ h.stamp → p ≡ q

-- and each stamp is below n
pub record HoldsFit (n : HoldStamp) (holds : TitleNo → PatronNo → Option Hold) : Type 0 where
  pub named : AreNamed holds
  pub stamped : (t : TitleNo) (p : PatronNo) (h : Hold) → holds t p ≡ Some h → h.stamp < n
  pub apart : StampsApart holds

-- Places are numbered from 1, and no two of the catalogue's copies share a place of a branch.
pub record PlacesFit (k : Facts) (copies : CopyNo → CopyState) : Type 0 where
  pub from_one : (c : CopyNo) (s : HoldPlace) → copies c ≡ OnHoldShelf s → 1 ≤ s.place
  pub apart : (x y : CopyNo) (s r : HoldPlace) → x < k.copies → y < k.copies → copies x ≡ OnHoldShelf s
      → copies y ≡ OnHoldShelf r → s.branch ≡ r.branch → s.place ≡ r.place → x ≡ y

-- a fit desk
pub record IsFit (k : Facts) (d : Desk) : Type 0 where
  pub named : AreNamed d.hold
  pub stamps : StampsApart d.hold
  pub places : PlacesFit k d.copy

-- the desk is fit and sound, and n is above every stamp
pub record Sound (k : Facts) (n : HoldStamp) (d : Desk) : Type 0 where
  pub holds : HoldsFit n d.hold
  pub places : PlacesFit k d.copy
  pub tie : Tie k d

-- A journal may begin so: the desk is sound, and no stamp is above the last number given before.
abbrev pub MayOpen : Facts → Type 0
MayOpen k = Sound k (first_number k) k.opening.desk

-- every desk on the way of taking these changes back, the last one first, is fit
abbrev pub EachBackIsFit : Facts → List Change → Desk → Type 0
EachBackIsFit k [] d = Unit {0}
EachBackIsFit k (change ∷ changes) d = EachBackIsFit k changes d × IsFit k (take_back (change ∷ changes) d)

-- every desk on the way of making these changes, in order, is fit
abbrev pub EachOnIsFit : Facts → List Change → Desk → Type 0
EachOnIsFit k [] d = Unit {0}
EachOnIsFit k (change ∷ changes) d =
    IsFit k (put d change.cell change.new) × EachOnIsFit k changes (put d change.cell change.new)
