-- The rows of an opening, put on a desk one after another: which may not stand, and why.
use Rattle.std.specs.Prelude.{◌≡◌, ◌≢◌, ◌⊎◌, ℕ, Some, None, List, slice_get, take}
use Rattle.hd_rules.specs.declared.rows.OpeningRow.{OpeningRow}
use Rattle.hd_rules.specs.declared.rows.OpeningRow.TheVariants as row
use Rattle.hd_rules.specs.declared.holds.Hold.{Hold}
use Rattle.hd_rules.specs.declared.copies.CopyState.{CopyState}
use Rattle.hd_rules.specs.declared.copies.CopyState.TheVariants.{Shelf}
use Rattle.hd_rules.specs.declared.cells.Cell.TheVariants.{Copy as CopyCell, Hold as HoldCell}
use Rattle.hd_rules.specs.declared.cells.Value.TheVariants.{Copy as CopyHas, Hold as HoldHas}
use Rattle.hd_rules.specs.Numbers.{BranchNo, CopyNo, PatronNo, PlaceNo}
use Rattle.hd_rules.specs.Facts.{Facts, first_number}
use Rattle.hd_rules.specs.Desk.{Desk, at_home, put}
use Rattle.hd_rules.specs.Known.{IsKnownHold}
use Rattle.hd_rules.specs.Rows.{EachMayStand, IsHome, MayStand, with_rows}
use Rattle.hd_rules.specs.Settle.{with_copy}
use Rattle.hd_rules.specs.Sound.{IsFit, Sound}
use Rattle.hd_catalogue.specs.Contents.{Contents, facts_of}
use Rattle.hd_copies.specs.Standing.{StandsAt}
use Rattle.hd_holds.specs.Held.{IsStampOf}
use Rattle.hd_inverse.specs.Cells.{MayHave}
use Rattle.hd_desk.specs.declared.open_fault.OpenFault.{OpenFault}
use Rattle.hd_desk.specs.declared.open_fault.OpenFault.TheVariants as fault
use Rattle.hd_desk.specs.declared.open_fault.RowFault.{RowFault}
use Rattle.hd_desk.specs.declared.open_fault.RowFault.TheVariants.{Twice, NoHold}

module _ (k : Facts) (d : Desk) where
  -- a row has placed the copy
  abbrev pub IsPlaced : CopyNo → Type 0
  IsPlaced c = d.copy c ≢ Shelf (k.home c)

  -- a copy stands at this place of the branch's hold shelf
  abbrev pub IsTaken : BranchNo → PlaceNo → Type 0
  IsTaken b place = (c : CopyNo) × StandsAt k d.copy b place c

  -- the patron has a hold of the copy's title, and the copy is placed, or the hold has one, or this is so of the hold
  abbrev pub IsGivenTwice : CopyNo → PatronNo → (Hold → Type 0) → Type 0
  IsGivenTwice c p other =
      (h : Hold) × (d.hold (k.title_of c) p ≡ Some h) × (IsPlaced c ⊎ ((h.copy ≢ None) ⊎ other h))

  -- The row places a copy twice, or at its home, adds a second hold of the pair, gives a stamp of the title twice,
  -- gives a hold a second copy, or gives a place of the branch twice.
  abbrev pub SaysTwice : OpeningRow → Type 0
  SaysTwice (row.Loan c l) = IsPlaced c
  SaysTwice (row.OpenShelf c b) = IsPlaced c ⊎ (b ≡ k.home c)
  SaysTwice (row.Hold t h) = (d.hold t h.patron ≢ None) ⊎ IsStampOf h.stamp (d.hold t)
  SaysTwice (row.HoldShelf c p place) = IsGivenTwice c p (λ h. IsTaken h.pickup place)
  SaysTwice (row.HoldTransit c p from) = IsGivenTwice c p (λ h. ⊥)
  SaysTwice (row.Transit c from to) = IsPlaced c

  -- the copy of the row is for a patron who has no hold of its title
  abbrev pub LacksHold : OpeningRow → Type 0
  LacksHold (row.HoldShelf c p place) = d.hold (k.title_of c) p ≡ None
  LacksHold (row.HoldTransit c p from) = d.hold (k.title_of c) p ≡ None
  LacksHold _ = ⊥

  -- why a row may not stand
  abbrev pub IsCause : OpeningRow → RowFault → Type 0
  IsCause r Twice = SaysTwice r
  IsCause r NoHold = LacksHold r

  -- why the copy may not be placed
  abbrev pub IsCauseOfCopy : CopyNo → RowFault → Type 0
  IsCauseOfCopy c Twice = IsPlaced c
  IsCauseOfCopy c NoHold = ⊥

  -- and why a copy may not be for the patron's hold of its title, wherever it is
  abbrev pub IsCauseOfPair : CopyNo → PatronNo → RowFault → Type 0
  IsCauseOfPair c p Twice = IsGivenTwice c p (λ h. ⊥)
  IsCauseOfPair c p NoHold = d.hold (k.title_of c) p ≡ None

  -- the copy may be for this hold, which is the patron's of its title
  pub record IsPair (c : CopyNo) (p : PatronNo) (h : Hold) : Type 0 where
    pub home : IsHome k d c
    pub is : d.hold (k.title_of c) p ≡ Some h
    pub waits : h.copy ≡ None
    pub known : IsKnownHold k h

  -- The copy can go there, and then its hold get it: both write cells of the catalogue, and leave a fit desk.
  pub record CanBeGiven (c : CopyNo) (p : PatronNo) (state : CopyState) (h : Hold) : Type 0 where
    pub copy : MayHave k (CopyCell c) (CopyHas state)
    pub hold : MayHave k (HoldCell (k.title_of c) p) (HoldHas (Some (with_copy (Some c) h)))
    pub first : IsFit k (put d (CopyCell c) (CopyHas state))
    pub both : IsFit k (put (put d (CopyCell c) (CopyHas state)) (HoldCell (k.title_of c) p)
        (HoldHas (Some (with_copy (Some c) h))))

-- Each of the rows may stand, from a desk on, and they tell this desk, which is sound.
pub record AreTold (k : Facts) (d : Desk) (rows : List OpeningRow) (e : Desk) : Type 0 where
  pub each : EachMayStand k (first_number k) d rows
  pub desk : e ≡ with_rows k.title_of d rows
  pub sound : Sound k (first_number k) e

-- The first row that may not stand has this index, and may not for this cause; those before it may.
pub record IsFirstStuck (k : Facts) (d : Desk) (rows : List OpeningRow) (at : ℕ)
    (why : RowFault) : Type 0 where
  pub row : OpeningRow
  pub there : slice_get rows at ≡ Some row
  pub before : EachMayStand k (first_number k) d (take at rows)
  pub stuck : MayStand k (with_rows k.title_of d (take at rows)) (first_number k) row → ⊥
  pub cause : IsCause k (with_rows k.title_of d (take at rows)) row why

-- why the rows aren't put, but for memory
abbrev pub IsOpenFault : Facts → Desk → List OpeningRow → OpenFault → Type 0
IsOpenFault k d rows fault.Memory = Unit {0}
IsOpenFault k d rows (fault.Row at why) = IsFirstStuck k d rows at why

-- each of a catalogue's rows may stand, from the desk with each copy at home on
abbrev pub RowsMayStand : Contents → Type 0
RowsMayStand x = EachMayStand (facts_of x) (first_number (facts_of x)) (at_home (facts_of x).home)
    x.opening.rows

-- and why its desk isn't opened
abbrev pub IsRefused : Contents → OpenFault → Type 0
IsRefused x = IsOpenFault (facts_of x) (at_home (facts_of x).home) x.opening.rows
