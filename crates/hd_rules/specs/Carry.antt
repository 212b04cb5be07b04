-- What of a desk goes over to a journal of another catalogue, by names.
use Rattle.std.specs.Prelude.{◌≡◌, ℕ, ◌<◌, ◌⊎◌, true, Option, Some, None}
use Rattle.hd_rules.specs.Words.{Hold, HoldKind, Any, One, AtBranch, CopyState, Shelf, OnLoan, OnHoldShelf}
use Rattle.hd_rules.specs.Words.{InTransit}
use Rattle.hd_rules.specs.Numbers.{BranchNo, TitleNo, CopyNo, PatronNo}
use Rattle.hd_rules.specs.Facts.{Facts}
use Rattle.hd_rules.specs.Desk.{Desk}
use Rattle.hd_rules.specs.Choose.{is_on_shelf}

-- The number that each name has in another catalogue, where it is there. A copy is the
-- same where its own name and its title's are.
pub record Renumbering : Type 0 where
  pub branch : BranchNo → Option BranchNo
  pub title : TitleNo → Option TitleNo
  pub copy : CopyNo → Option CopyNo
  pub patron : PatronNo → Option PatronNo

-- no two get one number
abbrev pub IsOneToOne : (ℕ → Option ℕ) → Type 0
IsOneToOne to = (x y z : ℕ) → to x ≡ Some z → to y ≡ Some z → x ≡ y

-- each name keeps to itself, and a copy to its title
pub record IsByNames (k j : Facts) (r : Renumbering) : Type 0 where
  pub branches : IsOneToOne r.branch
  pub titles : IsOneToOne r.title
  pub copies : IsOneToOne r.copy
  pub patrons : IsOneToOne r.patron
  pub known : (c x : CopyNo) → r.copy c ≡ Some x → c < k.copies
  pub new_branch : (b a : BranchNo) → r.branch b ≡ Some a → a < j.branches
  pub new_copy : (c x : CopyNo) → r.copy c ≡ Some x → x < j.copies
  pub new_patron : (p q : PatronNo) → r.patron p ≡ Some q → q < j.patrons
  pub title_of : (c x : CopyNo) → r.copy c ≡ Some x → r.title (k.title_of c) ≡ Some (j.title_of x)

module _ (r : Renumbering) where
  -- the same patron, or none
  abbrev pub IsSamePatron : Option PatronNo → Option PatronNo → Type 0
  IsSamePatron None None = Unit {0}
  IsSamePatron (Some p) (Some q) = r.patron p ≡ Some q
  IsSamePatron _ _ = ⊥

  -- the same copy, or none
  abbrev pub IsSameCopy : Option CopyNo → Option CopyNo → Type 0
  IsSameCopy None None = Unit {0}
  IsSameCopy (Some c) (Some x) = r.copy c ≡ Some x
  IsSameCopy _ _ = ⊥

  -- the same kind of hold
  abbrev pub IsSameKind : HoldKind → HoldKind → Type 0
  IsSameKind Any Any = Unit {0}
  IsSameKind (One c) (One x) = r.copy c ≡ Some x
  IsSameKind AtBranch AtBranch = Unit {0}
  IsSameKind _ _ = ⊥

  -- the same place, with its patron, its due day and all else
  abbrev pub IsSamePlace : CopyState → CopyState → Type 0
  IsSamePlace (Shelf b) (Shelf a) = r.branch b ≡ Some a
  IsSamePlace (OnLoan l) (OnLoan m) =
      (r.patron l.patron ≡ Some m.patron) × (m.due ≡ l.due) × (m.renewals ≡ l.renewals)
  IsSamePlace (OnHoldShelf s) (OnHoldShelf z) =
      (r.branch s.branch ≡ Some z.branch) × (z.place ≡ s.place) × (r.patron s.patron ≡ Some z.patron)
  IsSamePlace (InTransit t) (InTransit u) =
      (r.branch t.from ≡ Some u.from) × (r.branch t.to ≡ Some u.to) × IsSamePatron t.patron u.patron
  IsSamePlace _ _ = ⊥

  -- the same hold, with its stamp
  pub record IsSameHold (g h : Hold) : Type 0 where
    pub patron : r.patron g.patron ≡ Some h.patron
    pub stamp : h.stamp ≡ g.stamp
    pub kind : IsSameKind g.kind h.kind
    pub pickup : r.branch g.pickup ≡ Some h.pickup
    pub expiry : h.expiry ≡ g.expiry
    pub copy : IsSameCopy g.copy h.copy

  -- the same, or none
  abbrev pub IsSameHeld : Option Hold → Option Hold → Type 0
  IsSameHeld None None = Unit {0}
  IsSameHeld (Some g) (Some h) = IsSameHold g h
  IsSameHeld _ _ = ⊥

  -- a copy that was there before, and stands where it stood
  pub record Stayed (k : Facts) (d e : Desk) (x : CopyNo) : Type 0 where
    pub copy : CopyNo
    pub same : r.copy copy ≡ Some x
    pub place : IsSamePlace (d.copy copy) (e.copy x)

  -- a copy that wasn't there before, and is at home
  pub record IsAdded (j : Facts) (e : Desk) (x : CopyNo) : Type 0 where
    pub none : (c : CopyNo) → r.copy c ≡ Some x → ⊥
    pub home : e.copy x ≡ Shelf (j.home x)

  -- a title and a patron that were there before
  pub record Pair (u : TitleNo) (q : PatronNo) : Type 0 where
    pub title : TitleNo
    pub patron : PatronNo
    pub same_title : r.title title ≡ Some u
    pub same_patron : r.patron patron ≡ Some q

  -- a title and a patron that are still there
  pub record Later (t : TitleNo) (p : PatronNo) : Type 0 where
    pub title : TitleNo
    pub patron : PatronNo
    pub same_title : r.title t ≡ Some title
    pub same_patron : r.patron p ≡ Some patron

  -- Each copy and each hold has at the new desk what it had at the old one, by names. What is new is at home
  -- and isn't held; a copy that is gone was on an open shelf; no hold is lost.
  pub record IsCarriedOver (k j : Facts) (d e : Desk) : Type 0 where
    pub copies : (x : CopyNo) → Stayed k d e x ⊎ IsAdded j e x
    pub gone : (c : CopyNo) → c < k.copies → r.copy c ≡ None → is_on_shelf (d.copy c) ≡ true
    pub holds : (t u : TitleNo) (p q : PatronNo) → r.title t ≡ Some u → r.patron p ≡ Some q →
        IsSameHeld (d.hold t p) (e.hold u q)
    pub older : (u : TitleNo) (q : PatronNo) (h : Hold) → e.hold u q ≡ Some h → Pair u q
    pub kept : (t : TitleNo) (p : PatronNo) (h : Hold) → d.hold t p ≡ Some h → Later t p
