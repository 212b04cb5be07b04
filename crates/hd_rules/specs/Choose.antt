-- Which hold a copy is for, which place is free, and what a desk counts. How
-- the first two are found stands in Find.
use Rattle.std.specs.Prelude.{◌≡◌, ℕ, ◌+◌, ◌≤◌, ◌<◌, Bool, true, false, ◌&&◌, not, ◌==◌, nat_lt, Option}
use Rattle.std.specs.Prelude.{Some, None, is_none, if◌then◌else◌, zero, suc}
use Rattle.hd_rules.specs.Words.{Hold, HoldKind, Any, One, AtBranch, CopyState, Shelf, OnLoan, OnHoldShelf}
use Rattle.hd_rules.specs.Numbers.{BranchNo, TitleNo, CopyNo, PatronNo, Day, HoldStamp, PlaceNo, Count}
use Rattle.hd_rules.specs.Facts.{Facts}
use Rattle.hd_rules.specs.Desk.{Desk}

-- the last day lies before this one (§ Choice)
abbrev pub has_expired : Option Day → Day → Bool
has_expired None day = false
has_expired (Some expiry) day = nat_lt expiry day

-- at this branch, for a title with priority, holds that are picked up there come first (§ Choice)
abbrev pub is_local : Bool → BranchNo → Hold → Bool
is_local priority b h = priority && (h.pickup == b)

-- g comes before h: a local hold before the others, and else the smaller stamp. The
-- rule of priority is stated here and nowhere else (§ Choice).
abbrev pub precedes : Bool → BranchNo → Hold → Hold → Bool
precedes priority b g h =
    if is_local priority b g then (if is_local priority b h then nat_lt g.stamp h.stamp else true)
    else if is_local priority b h then false else nat_lt g.stamp h.stamp

module _ (k : Facts) where
  -- any copy of the title, the named one, or those whose home is the pickup (§ Admits)
  abbrev pub admits : HoldKind → BranchNo → CopyNo → Bool
  admits Any pickup c = true
  admits (One x) pickup c = x == c
  admits AtBranch pickup c = (k.home c) == pickup

  -- the hold waits for a copy, and may have this one on that day (§ Choice)
  abbrev pub may_have : CopyNo → Day → Hold → Bool
  may_have c day h = is_none h.copy && (admits h.kind h.pickup c && not (has_expired h.expiry day))

  -- the hold, where it may have the copy
  abbrev pub candidate : CopyNo → Day → Option Hold → Option Hold
  candidate c day None = None
  candidate c day (Some h) = if may_have c day h then Some h else None

  -- The hold that the copy is for, at a branch on a day (§ Choice): none where none of the
  -- catalogue's patrons has a candidate, else a candidate that no other comes before.
  abbrev pub FirstCandidate : Desk → CopyNo → BranchNo → Day → Option Hold → Type 0
  FirstCandidate d c b day None =
      (p : PatronNo) → p < k.patrons → candidate c day (d.hold (k.title_of c) p) ≡ None
  FirstCandidate d c b day (Some h) =
      ((p : PatronNo) × (p < k.patrons) × (candidate c day (d.hold (k.title_of c) p) ≡ Some h))
      × ((p : PatronNo) (g : Hold) → p < k.patrons → candidate c day (d.hold (k.title_of c) p) ≡ Some g
      → precedes (k.priority (k.title_of c)) b g h ≡ false)

-- how many of the numbers below n pass
abbrev pub count_below : (ℕ → Bool) → ℕ → Count
count_below test zero = 0
count_below test (suc n) = (if test n then 1 else 0) + count_below test n

-- on this place of the branch's hold shelf
abbrev pub stands_at : BranchNo → PlaceNo → CopyState → Bool
stands_at b place (OnHoldShelf s) = (s.branch == b) && (s.place == place)
stands_at b place _ = false

-- on loan to the patron
abbrev pub is_lent_to : PatronNo → CopyState → Bool
is_lent_to p (OnLoan l) = l.patron == p
is_lent_to p _ = false

-- a hold with a smaller stamp
abbrev pub is_before : HoldStamp → Option Hold → Bool
is_before stamp None = false
is_before stamp (Some h) = nat_lt h.stamp stamp

-- on an open shelf
abbrev pub is_on_shelf : CopyState → Bool
is_on_shelf (Shelf b) = true
is_on_shelf _ = false

module _ (k : Facts) (d : Desk) where
  -- The branch's free place (§ Place): the least number from 1 at
  -- which no copy of the catalogue stands on its hold shelf.
  pub record LeastFree (b : BranchNo) (f : PlaceNo) : Type 0 where
    pub from_one : 1 ≤ f
    pub free : (c : CopyNo) → c < k.copies → stands_at b f (d.copy c) ≡ false
    pub least : (g : PlaceNo) → 1 ≤ g → g < f →
        (c : CopyNo) × (c < k.copies) × (stands_at b g (d.copy c) ≡ true)

  -- how many copies are on loan to the patron (§ Room)
  abbrev pub loans : PatronNo → Count
  loans p = count_below (λ n. is_lent_to p (d.copy n)) k.copies

  -- one more than the number of holds of the title with a smaller stamp (§ Position)
  abbrev pub position : TitleNo → HoldStamp → ℕ
  position t stamp = count_below (λ n. is_before stamp (d.hold t n)) k.patrons + 1

  -- how many copies of the title stand on open shelves that such a hold admits (§ Admits)
  abbrev pub on_shelf : TitleNo → HoldKind → BranchNo → Count
  on_shelf t kind pickup =
      count_below (λ n. let c : ℕ = n in
      ((k.title_of c) == t) && (admits k kind pickup c && is_on_shelf (d.copy c))) k.copies
