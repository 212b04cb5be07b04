-- Writing a cell of a fit desk.
use Rattle.std.proofs.Common.{◌≡◌, ◌≢◌, refl, sym, ◌∙◌, ap, subst, ℕ, ◌+◌, ◌<◌, Bool, true, false, cond, ◌==◌}
use Rattle.std.proofs.Common.{◌&&◌, Option}
use Rattle.std.proofs.Common.{Some, None, List, [], ◌∷◌, length, drop, get_or, add-one, drop-cons, eq-eqb}
use Rattle.std.proofs.Common.{inl, inr}
use Rattle.std.proofs.lemmas.Bool.{and_parts, eqb-true, ne_eqb}
use Rattle.hd_rules.specs.declared.holds.Hold.{Hold}
use Rattle.hd_rules.specs.declared.copies.HoldPlace.{HoldPlace}
use Rattle.hd_rules.specs.declared.copies.CopyState.{CopyState}
use Rattle.hd_rules.specs.declared.copies.CopyState.TheVariants.{Shelf, OnLoan, OnHoldShelf, InTransit}
use Rattle.hd_rules.specs.declared.cells.Cell.{Cell}
use Rattle.hd_rules.specs.declared.cells.Cell.TheVariants.{Copy as CopyCell, Hold as HoldCell}
use Rattle.hd_rules.specs.declared.cells.Value.{Value}
use Rattle.hd_rules.specs.declared.cells.Value.TheVariants.{Copy as CopyHas, Hold as HoldHas}
use Rattle.hd_rules.specs.declared.cells.Change.{Change}
use Rattle.hd_rules.specs.Facts.{Facts}
use Rattle.hd_rules.specs.Desk.{Desk, put, value}
use Rattle.hd_rules.specs.Choose.{stands_at}
use Rattle.hd_rules.specs.Known.{IsKnownCell, IsKnownValue, IsKnownDesk}
use Rattle.hd_rules.specs.Run.{IsAmong, AreChanges, Fits}
use Rattle.hd_rules.specs.Sound.{IsFit, EachOnIsFit}
use Rattle.hd_rules.specs.Same.{same_value}
use Rattle.hd_rules.specs.Laws.{TestsAreExact}
use Rattle.hd_copies.specs.Standing.{IsWelcome}
use Rattle.hd_holds.specs.Held.{IsWelcome as IsWelcomeHold}
use Rattle.hd_inverse.specs.Cells.{AreApart, AreKnownChanges, IsFromOne, MayHave}
use Rattle.hd_lemmas.proofs.Rules.{copy_there}

-- what is put in a copy's cell is there
here : (c : ℕ) (s v : CopyState) → cond (c == c) s v ≡ s
here c s v = rw (eq-eqb c c refl) refl

pub at-place : (b place : ℕ) (v : CopyState) → stands_at b place v ≡ true
    → (r : HoldPlace) × (v ≡ OnHoldShelf r) × (b ≡ r.branch)
    × (place ≡ r.place)
at-place b place (OnHoldShelf r) is = (
  r,
  refl,
  sym (eqb-true r.branch b (and_parts _ _ is).0),
  sym
      (eqb-true r.place place (and_parts _ _ is).1),
)
at-place b place (Shelf x) is = cc
at-place b place (OnLoan l) is = cc
at-place b place (InTransit t) is = cc

not-same : (c x : ℕ) → x ≢ c → (c == x) ≡ false
not-same c x other = ne_eqb c x (λ e. other (sym e))

-- a copy that makes a fit desk has its place alone
pub copy-welcome : (k : Facts) (d : Desk) (c : ℕ) (s : CopyState) → c < k.copies
    → IsFit k (put d (CopyCell c) (CopyHas s)) →
    IsWelcome k d.copy c s
copy-welcome k d c (Shelf b) below fit = tt
copy-welcome k d c (OnLoan l) below fit = tt
copy-welcome k d c (InTransit t) below fit = tt
copy-welcome k d c (OnHoldShelf s) below fit = record {
  from_one = fit.places.from_one c s (here c (OnHoldShelf s) (d.copy c));
  alone = λ x in_x other. by_test x in_x other (stands_at s.branch s.place (d.copy x)) refl;
}
  where
    by_test : (x : ℕ) → x < k.copies → x ≢ c → (b : Bool) → stands_at s.branch s.place (d.copy x) ≡ b → b
        ≡ false
    by_test x in_x other false is = refl
    by_test x in_x other true is =
        let r : (r : HoldPlace) × (d.copy x ≡ OnHoldShelf r) × (s.branch ≡ r.branch) × (s.place ≡ r.place) =
        at-place s.branch s.place (d.copy x) is in
        let same : c ≡ x =
        fit.places.apart c x s r.0 below in_x (here c (OnHoldShelf s) (d.copy c))
        (copy_there c x (OnHoldShelf s) (d.copy x) (not-same c x other) ∙ r.1) r.2 r.3 in
        absurd (other (sym same))

hold-here : (t p : ℕ) (o v : Option Hold) → cond ((t == t) && (p == p)) o v ≡ o
hold-here t p o v = rw (eq-eqb t t refl, eq-eqb p p refl) refl

hold-there : (t p q : ℕ) (o v : Option Hold) → (p == q) ≡ false → cond ((t == t) && (p == q)) o v ≡ v
hold-there t p q o v other = rw (eq-eqb t t refl, other) refl

-- a hold that makes a fit desk is its patron's own, and its stamp is no other's
pub hold-welcome : (k : Facts) (d : Desk) (t p : ℕ) (o : Option Hold)
    → IsFit k (put d (HoldCell t p) (HoldHas o)) →
    IsWelcomeHold d.hold t p o
hold-welcome k d t p None fit = tt
hold-welcome k d t p (Some h) fit = (
  fit.named t p h (hold-here t p (Some h) (d.hold t p)),
  λ q g has same. by_test q g has same (p == q)
      refl,
)
  where
    by_test : (q : ℕ) (g : Hold) → d.hold t q ≡ Some g → g.stamp ≡ h.stamp → (b : Bool) → (p == q) ≡ b → q ≡ p
    by_test q g has same true is = sym (eqb-true p q is)
    by_test q g has same false is =
        fit.stamps t q p g h (hold-there t p q (Some h) (d.hold t q) is ∙ has)
        (hold-here t p (Some h) (d.hold t p)) same

-- a place that makes a fit desk counts from 1
from-one : (k : Facts) (d : Desk) (cell : Cell) (v : Value) → Fits cell v → IsFit k (put d cell v)
    → IsFromOne v
from-one k d (CopyCell c) (CopyHas (OnHoldShelf s)) kind fit =
    fit.places.from_one c s (here c (OnHoldShelf s) (d.copy c))
from-one k d (CopyCell c) (CopyHas (Shelf b)) kind fit = tt
from-one k d (CopyCell c) (CopyHas (OnLoan l)) kind fit = tt
from-one k d (CopyCell c) (CopyHas (InTransit t)) kind fit = tt
from-one k d (CopyCell c) (HoldHas o) kind fit = absurd kind
from-one k d (HoldCell t p) (CopyHas s) kind fit = absurd kind
from-one k d (HoldCell t p) (HoldHas o) kind fit = tt

-- a cell of a fit desk may have what it has
pub own-value : (k : Facts) (d : Desk) (x : Cell) → IsKnownDesk k d → IsFit k d → IsKnownCell k x
    → MayHave k x (value d x)
own-value k d (CopyCell c) known fit in_c = record {
  cell = in_c;
  kind = tt;
  known = known.copies c in_c;
  from_one = placed (d.copy c) refl;
}
  where
    placed : (s : CopyState) → d.copy c ≡ s → IsFromOne (CopyHas s)
    placed (OnHoldShelf s) is = fit.places.from_one c s is
    placed (Shelf b) is = tt
    placed (OnLoan l) is = tt
    placed (InTransit t) is = tt
own-value k d (HoldCell t p) known fit in_x = record {
  cell = in_x;
  kind = tt;
  known = known.holds t p in_x.0 in_x.1;
  from_one = tt;
}

-- changes of a fit desk's cells that name things of the catalogue and lead through fit desks can be made, and
-- taken back
pub record Begin (k : Facts) (start : Desk) (cs : List Change) : Type 0 where
  pub known : (c : Change) → IsAmong c cs → IsKnownCell k c.cell × IsKnownValue k c.new
  pub old : (c : Change) → IsAmong c cs → value start c.cell ≡ c.old

pub are-known : (k : Facts) (start d : Desk) (cs : List Change) → IsKnownDesk k start → IsFit k start
    → AreChanges cs →
    Begin k start cs → EachOnIsFit k cs d → AreKnownChanges k cs
are-known k start d [] desk fit are begin on = tt
are-known k start d (c ∷ cs) desk fit are begin on =
    let first : IsKnownCell k c.cell × IsKnownValue k c.new = begin.known c (inl refl) in (
      subst (MayHave k c.cell) (begin.old c (inl refl)) (own-value k start c.cell desk fit first.0),
      record {
        cell = first.0;
        kind = are.1;
        known = first.1;
        from_one =
            from-one k d c.cell c.new are.1 on.0;
      },
      are-known k start (put d c.cell c.new) cs desk fit are.3 (record {
        known = λ x among. begin.known x (inr among);
        old = λ x among. begin.old x (inr among);
      }) on.1,
    )

pub are-apart : (cs : List Change) → AreChanges cs → AreApart cs
are-apart [] are = tt
are-apart (c ∷ cs) are = (are.2, are-apart cs are.3)

-- what stands at an index
drop_from : (cs : List Change) (i : ℕ) (c : Change) → i < length cs → drop i cs
    ≡ get_or cs i c ∷ drop (i + 1) cs
drop_from cs i c below = rw (add-one, drop-cons cs i c below) refl

pub drop_at : (cs : List Change) (i : ℕ) (c : Change) → i < length cs → c ≡ get_or cs i c → drop i cs
    ≡ c ∷ drop (i + 1) cs
drop_at cs i c below is = drop_from cs i c below ∙ ap (λ (x : Change). x ∷ drop (i + 1) cs) (sym is)

-- values that the test tells apart
pub are-two : TestsAreExact → (v w : Value) (r : Bool) → r ≡ same_value v w → r ≡ false → v ≢ w
are-two exact v w r test is same = let yes : r ≡ true = test ∙ (exact.values v w).1 same in cc
