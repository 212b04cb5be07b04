-- The desk that a journal opens with, as a file tells it: row by row, from the desk with each copy at home.
use Rattle.std.specs.Prelude.{◌≡◌, ◌≢◌, ◌<◌, ◌≤◌, Option, Some, None, List, [], ◌∷◌}
use Rattle.hd_rules.specs.Words.{OpeningRow, Hold, HoldPlace, CopyState, Shelf, OnLoan, OnHoldShelf}
use Rattle.hd_rules.specs.Words.{InTransit, CopyCell, HoldCell, CopyHas, HoldHas}
use Rattle.hd_rules.specs.declared.rows.OpeningRow.TheVariants as row
use Rattle.hd_rules.specs.Numbers.{BranchNo, TitleNo, CopyNo, PatronNo, PlaceNo, HoldStamp}
use Rattle.hd_rules.specs.Facts.{Facts}
use Rattle.hd_rules.specs.Desk.{Desk, put}
use Rattle.hd_rules.specs.Settle.{with_copy}

-- kept for the patron's hold at its pickup, or on the way there
abbrev pub kept_at : PatronNo → PlaceNo → Hold → CopyState
kept_at p place h = OnHoldShelf (record { branch = h.pickup; place = place; patron = p })

abbrev pub sent_from : PatronNo → BranchNo → Hold → CopyState
sent_from p from h = InTransit (record { from = from; to = h.pickup; patron = Some p })

module _ (title_of : CopyNo → TitleNo) (d : Desk) where
  -- the copy goes where it is kept for the patron's hold of its title, which gets it
  abbrev pub given : CopyNo → PatronNo → (Hold → CopyState) → Option Hold → Desk
  given c p goes None = d
  given c p goes (Some h) =
      put (put d (CopyCell c) (CopyHas (goes h))) (HoldCell (title_of c) p)
      (HoldHas (Some (with_copy (Some c) h)))

  -- the desk with what a row says
  abbrev pub with_row : OpeningRow → Desk
  with_row (row.Loan c l) = put d (CopyCell c) (CopyHas (OnLoan l))
  with_row (row.OpenShelf c b) = put d (CopyCell c) (CopyHas (Shelf b))
  with_row (row.Hold t h) = put d (HoldCell t h.patron) (HoldHas (Some h))
  with_row (row.HoldShelf c p place) = given c p (kept_at p place) (d.hold (title_of c) p)
  with_row (row.HoldTransit c p from) = given c p (sent_from p from) (d.hold (title_of c) p)
  with_row (row.Transit c from to) =
      put d (CopyCell c) (CopyHas (InTransit (record { from = from; to = to; patron = None })))

module _ (k : Facts) (d : Desk) where
  -- no row has placed the copy so far
  abbrev pub IsHome : CopyNo → Type 0
  IsHome c = d.copy c ≡ Shelf (k.home c)

  -- the patron's hold of the copy's title waits for a copy
  pub record Waits (c : CopyNo) (p : PatronNo) : Type 0 where
    pub hold : Hold
    pub is : d.hold (k.title_of c) p ≡ Some hold
    pub none : hold.copy ≡ None

  -- a new hold of the title, which waits for a copy
  pub record MayWait (n : HoldStamp) (t : TitleNo) (h : Hold) : Type 0 where
    pub new : d.hold t h.patron ≡ None
    pub none : h.copy ≡ None
    pub stamp : h.stamp < n
    pub apart : (p : PatronNo) (g : Hold) → d.hold t p ≡ Some g → g.stamp ≡ h.stamp → ⊥

  -- a place from 1, which no copy has, at the pickup of a hold that waits
  pub record MayKeep (c : CopyNo) (p : PatronNo) (place : PlaceNo) : Type 0 where
    pub home : IsHome c
    pub waits : Waits c p
    pub from_one : 1 ≤ place
    pub free : (x : CopyNo) (s : HoldPlace) → x < k.copies → d.copy x ≡ OnHoldShelf s →
        s.branch ≡ waits.hold.pickup → s.place ≡ place → ⊥

  -- the row says nothing that is so without it, and nothing of a hold that isn't there
  abbrev pub MayStand : HoldStamp → OpeningRow → Type 0
  MayStand n (row.Loan c l) = IsHome c
  MayStand n (row.OpenShelf c b) = IsHome c × (b ≢ k.home c)
  MayStand n (row.Hold t h) = MayWait n t h
  MayStand n (row.HoldShelf c p place) = MayKeep c p place
  MayStand n (row.HoldTransit c p from) = IsHome c × Waits c p
  MayStand n (row.Transit c from to) = IsHome c

-- The stamp of a hold is below n, and its copy is told by the copy's own row; a place is from 1.
abbrev pub IsInBounds : HoldStamp → OpeningRow → Type 0
IsInBounds n (row.Hold t h) = (h.stamp < n) × (h.copy ≡ None)
IsInBounds n (row.HoldShelf c p place) = 1 ≤ place
IsInBounds n _ = Unit {0}

-- the desk with what the rows say, one after another, where the copies are of these titles
abbrev pub with_rows : (CopyNo → TitleNo) → Desk → List OpeningRow → Desk
with_rows title_of d [] = d
with_rows title_of d (r ∷ rows) = with_rows title_of (with_row title_of d r) rows

-- each may stand behind those before it
abbrev pub EachMayStand : Facts → HoldStamp → Desk → List OpeningRow → Type 0
EachMayStand k n d [] = Unit {0}
EachMayStand k n d (r ∷ rows) = MayStand k d n r × EachMayStand k n (with_row k.title_of d r) rows
