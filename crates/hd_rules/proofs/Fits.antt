-- Stamps and places stay fit.
use Rattle.std.proofs.Common.{arith, ◌≡◌, refl, sym, ◌∙◌, ap, subst, ℕ, ◌+◌, ◌<◌, ◌≤◌, false, ◌==◌, ◌&&◌}
use Rattle.std.proofs.Common.{cond, Option, Some, None}
use Rattle.hd_rules.specs.Words.{Hold, HoldPlace, CopyState, OnHoldShelf}
use Rattle.hd_rules.specs.Facts.{Facts}
use Rattle.hd_rules.specs.Desk.{Desk}
use Rattle.hd_rules.specs.Settle.{with_copy}
use Rattle.hd_rules.specs.Sound.{HoldsFit, PlacesFit, IsFit}
use Rattle.hd_rules.proofs.Puts.{copy_cases, hold_cases}
use Rattle.hd_rules.proofs.Tests.{number_not, some_is}

-- a desk whose holds and places fit
pub fit_of : (k : Facts) (n : ℕ) (d : Desk) → HoldsFit n d.hold → PlacesFit k d.copy → IsFit k d
fit_of k n d holds places = record { named = holds.named; stamps = holds.apart; places = places }

-- the hold was there before, with the same patron and stamp
pub record Follows (v : Option Hold) (h : Hold) : Type 0 where
  pub before : Hold
  pub was : v ≡ Some before
  pub patron : h.patron ≡ before.patron
  pub stamp : h.stamp ≡ before.stamp

pub follows_itself : (v : Option Hold) (h : Hold) → v ≡ Some h → Follows v h
follows_itself v h e = record { before = h; was = e; patron = refl; stamp = refl }

pub none_follows : (v : Option Hold) (h : Hold) → (let o : Option Hold = None in o ≡ Some h) → Follows v h
none_follows v h e = cc

-- with another copy, or none
pub follows_with : (c : Option ℕ) (v : Option Hold) (g h : Hold) → v ≡ Some g
    → (let o : Option Hold = Some (with_copy c g) in o ≡ Some h)
    → Follows v h
follows_with c v g h was is = let e : with_copy c g ≡ h = cc in record {
  before = g;
  was = was;
  patron = ap (λ (x : Hold). x.patron) (sym e);
  stamp = ap (λ (x : Hold). x.stamp) (sym e);
}

pub holds_follow : (n : ℕ) (f g : ℕ → ℕ → Option Hold) → HoldsFit n f
    → ((t : ℕ) (p : ℕ) (h : Hold) → g t p ≡ Some h → Follows (f t p) h) → HoldsFit n g
holds_follow n f g fit from = record {
  named = λ t p h e. let w : Follows (f t p) h = from t p h e in w.patron ∙ fit.named t p w.before w.was;
  stamped = λ t p h e. let w : Follows (f t p) h = from t p h e in
      subst (λ x. x < n) (sym w.stamp) (fit.stamped t p w.before w.was);
  apart = λ t p q x y e i same.
      let w : Follows (f t p) x = from t p x e in
      let v : Follows (f t q) y = from t q y i in
      fit.apart t p q w.before v.before w.was v.was (sym w.stamp ∙ same ∙ v.stamp);
}

-- a hold ends, or goes on with its stamp
pub holds_put : (n : ℕ) (d : Desk) (t : ℕ) (p : ℕ) (o : Option Hold)
    → HoldsFit n d.hold → ((h : Hold) → o ≡ Some h → Follows (d.hold t p) h)
    → HoldsFit n (λ u q. cond ((t == u) && (p == q)) o (d.hold u q))
holds_put n d t p o fit from = holds_follow n d.hold _ fit
    (λ u q h. hold_cases (λ v. v ≡ Some h → Follows (d.hold u q) h) t u p q o (d.hold u q)
    (λ e f is. subst (λ (x : ℕ). Follows (d.hold x q) h) e
    (subst (λ (x : ℕ). Follows (d.hold t x) h) f (from h is)))
    (λ other is. follows_itself (d.hold u q) h is))

pub holds_end : (n : ℕ) (d : Desk) (t : ℕ) (p : ℕ) → HoldsFit n d.hold
    → HoldsFit n (λ u q. cond ((t == u) && (p == q)) None (d.hold u q))
holds_end n d t p fit = holds_put n d t p None fit (λ h e. cc)

pub holds_later : (n m : ℕ) (f : ℕ → ℕ → Option Hold) → n ≤ m → HoldsFit n f → HoldsFit m f
holds_later n m f le fit = record {
  named = fit.named;
  stamped = λ t p h e. let lt : h.stamp < n = fit.stamped t p h e in omega arith;
  apart = fit.apart;
}

-- a hold begins with the stamp n
pub holds_begin : (n : ℕ) (d : Desk) (t : ℕ) (p : ℕ) (h : Hold) → HoldsFit n d.hold → h.patron ≡ p
    → h.stamp ≡ n → HoldsFit (n + 1) (λ u q. cond ((t == u) && (p == q)) (Some h) (d.hold u q))
holds_begin n d t p h fit name stamp = record {
  named = λ u q g. hold_cases (λ v. v ≡ Some g → g.patron ≡ q) t u p q (Some h) (d.hold u q)
      (λ e f is. ap (λ (x : Hold). x.patron) (sym (some_is h g is)) ∙ name ∙ f)
      (λ other is. fit.named u q g is);
  stamped = λ u q g. hold_cases (λ v. v ≡ Some g → g.stamp < n + 1) t u p q (Some h) (d.hold u q)
      (λ e f is. let same : g.stamp ≡ h.stamp = ap (λ (x : Hold). x.stamp) (sym (some_is h g is)) in
      omega arith)
      (λ other is. let lt : g.stamp < n = fit.stamped u q g is in omega arith);
  apart = λ u q r x y. hold_cases
      (λ v. v ≡ Some x → cond ((t == u) && (p == r)) (Some h) (d.hold u r) ≡ Some y → x.stamp ≡ y.stamp
      → q ≡ r) t u p q (Some h) (d.hold u q)
      (λ e f is. hold_cases (λ v. v ≡ Some y → x.stamp ≡ y.stamp → q ≡ r) t u p r (Some h) (d.hold u r)
      (λ i j _ _. sym f ∙ j)
      (λ other was same.
      let lt : y.stamp < n = fit.stamped u r y was in
      let at : x.stamp ≡ h.stamp = ap (λ (z : Hold). z.stamp) (sym (some_is h x is)) in
      absurd (let no : ⊥ = omega arith in no)))
      (λ other was. hold_cases (λ v. v ≡ Some y → x.stamp ≡ y.stamp → q ≡ r) t u p r (Some h) (d.hold u r)
      (λ i j is same.
      let lt : x.stamp < n = fit.stamped u q x was in
      let at : y.stamp ≡ h.stamp = ap (λ (z : Hold). z.stamp) (sym (some_is h y is)) in
      absurd (let no : ⊥ = omega arith in no))
      (λ apart is same. fit.apart u q r x y was is same));
}

-- the place is at least 1, and no other of the catalogue's copies stands there
pub record Welcome (k : Facts) (copies : ℕ → CopyState) (c : ℕ) (s : HoldPlace) : Type 0 where
  pub from_one : 1 ≤ s.place
  pub alone : (x : ℕ) (r : HoldPlace) → c < k.copies → x < k.copies → (c == x) ≡ false
      → copies x ≡ OnHoldShelf r → s.branch ≡ r.branch → s.place ≡ r.place → ⊥

pub places_put : (k : Facts) (d : Desk) (c : ℕ) (v : CopyState) → PlacesFit k d.copy
    → ((s : HoldPlace) → v ≡ OnHoldShelf s → Welcome k d.copy c s)
    → PlacesFit k (λ x. cond (c == x) v (d.copy x))
places_put k d c v fit welcome = record {
  from_one = λ x s. copy_cases (λ w. w ≡ OnHoldShelf s → 1 ≤ s.place) c x v (d.copy x)
      (λ e is. (welcome s is).from_one) (λ other is. fit.from_one x s is);
  apart = λ x y s r in_x in_y. copy_cases
      (λ w. w ≡ OnHoldShelf s → cond (c == y) v (d.copy y) ≡ OnHoldShelf r → s.branch ≡ r.branch
      → s.place ≡ r.place → x ≡ y) c x v (d.copy x)
      (λ e is. copy_cases
      (λ w. w ≡ OnHoldShelf r → s.branch ≡ r.branch → s.place ≡ r.place → x ≡ y) c y v (d.copy y)
      (λ f _ _ _. sym e ∙ f)
      (λ other was branch place.
      absurd ((welcome s is).alone y r
      (subst (λ (z : ℕ). z < k.copies) (sym e) in_x) in_y other was branch place)))
      (λ other was. copy_cases
      (λ w. w ≡ OnHoldShelf r → s.branch ≡ r.branch → s.place ≡ r.place → x ≡ y) c y v (d.copy y)
      (λ f is branch place.
      absurd ((welcome r is).alone x s (subst (λ (z : ℕ). z < k.copies) (sym f) in_y) in_x other was
      (sym branch) (sym place)))
      (λ apart is branch place. fit.apart x y s r in_x in_y was is branch place));
}

-- the place that the copy itself has
pub keeps_place : (k : Facts) (d : Desk) (c : ℕ) (w s : HoldPlace) → PlacesFit k d.copy
    → d.copy c ≡ OnHoldShelf w → s.branch ≡ w.branch → s.place ≡ w.place → Welcome k d.copy c s
keeps_place k d c w s fit was branch place = record {
  from_one = subst (λ (n : ℕ). 1 ≤ n) (sym place) (fit.from_one c w was);
  alone = λ x r in_c in_x other is b p. number_not c x other
      (fit.apart c x w r in_c in_x was is (sym branch ∙ b) (sym place ∙ p));
}
