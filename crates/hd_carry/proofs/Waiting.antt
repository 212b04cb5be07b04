-- A hold's row may stand, and puts the hold there.
use Rattle.std.proofs.Common.{◌≡◌, refl, sym, ◌∙◌, ap, subst, ℕ, ◌<◌, ◌⊎◌, inl, inr, Some, None}
use Rattle.std.proofs.lemmas.Option.{same_Some}
use Rattle.hd_rules.specs.declared.holds.Hold.{Hold}
use Rattle.hd_rules.specs.declared.cells.Cell.TheVariants.{Hold as HoldCell}
use Rattle.hd_rules.specs.declared.cells.Value.TheVariants.{Hold as HoldHas}
use Rattle.hd_rules.specs.Desk.{Desk, put}
use Rattle.hd_rules.specs.Facts.{Facts}
use Rattle.hd_rules.specs.Sound.{HoldsFit}
use Rattle.hd_rules.specs.Carry.{Renumbering, IsByNames, IsSameHold}
use Rattle.hd_rules.specs.Rows.{MayWait}
use Rattle.hd_rules.specs.Settle.{with_copy}
use Rattle.hd_carry.proofs.Numbers.{copy_below, below_zero, is_none_by, hold_cases, hold_here, hold_there}
use Rattle.hd_carry.proofs.Gone.{hold_below, Came, Went, Gone, same_with, no_copy}

-- this one too
abbrev pub Also : (ℕ → ℕ → Type 0) → ℕ → ℕ → ℕ → ℕ → Type 0
Also Told t p u q = Told u q ⊎ ((u ≡ t) × (q ≡ p))

module _ (k j : Facts) (r : Renumbering) (d : Desk) (n : ℕ) (names : IsByNames k j r)
    (fit : HoldsFit n d.hold)
    (Told : ℕ → ℕ → Type 0) (e : Desk) (gone : Gone r d Told 0 e) (t p : ℕ) (g : Hold)
    (is : d.hold t p ≡ Some g)
    (new : Told t p → ⊥) (u : ℕ) (h : Hold) (title : r.title t ≡ Some u)
    (same : IsSameHold r (with_copy None g) h) where
  patron_is : r.patron p ≡ Some h.patron
  patron_is = subst (λ (x : ℕ). r.patron x ≡ Some h.patron) (fit.named t p g is) same.patron

  untold : (v q : ℕ) → v ≡ t → q ≡ p → Told v q → ⊥
  untold v q e f told = new (subst (λ (x : ℕ). Told t x) f (subst (λ (y : ℕ). Told y q) e told))

  nobody : (x : Hold) → Came r d Told 0 u h.patron x → ⊥
  nobody x came =
      untold came.title came.patron (names.titles came.title t u came.same_title title)
      (names.patrons came.patron p h.patron came.same_patron patron_is) came.told

  alone : (q : ℕ) (x : Hold) → e.hold u q ≡ Some x → x.stamp ≡ h.stamp → ⊥
  alone q x at stamp =
      let came : Came r d Told 0 u q x = gone.from u q x at in
      let one : came.title ≡ t = names.titles came.title t u came.same_title title in
      let two : came.patron ≡ p =
      fit.apart t came.patron p came.hold g
      (subst (λ (y : ℕ). d.hold y came.patron ≡ Some came.hold) one came.is) is
      (sym came.same.stamp ∙ stamp ∙ same.stamp) in
      untold came.title came.patron one two came.told

  pub may_wait : MayWait j e n u h
  may_wait = record {
    new = is_none_by (e.hold u h.patron) (λ x at. nobody x (gone.from u h.patron x at));
    none = no_copy r h.copy same.copy;
    stamp = subst (λ (s : ℕ). s < n) (sym same.stamp) (fit.stamped t p g is);
    apart = alone;
  }

  same_so_far : IsSameHold r (hold_below 0 g) h
  same_so_far = same_with r g h None (copy_below 0 g.copy) (sym (below_zero g.copy)) same

  came_now : (v q : ℕ) (x : Hold) → u ≡ v → h.patron ≡ q → Some h ≡ Some x → Came r d (Also Told t p) 0 v q x
  came_now v q x e f is_x = record {
    title = t;
    patron = p;
    hold = g;
    told = inr (refl, refl);
    is = is;
    same_title = title ∙ ap (λ (y : ℕ). Some y) e;
    same_patron = patron_is ∙ ap (λ (y : ℕ). Some y) f;
    same = subst (λ (y : Hold). IsSameHold r (hold_below 0 g) y) (same_Some h x is_x) same_so_far;
  }

  came_before : (v q : ℕ) (x : Hold) → Came r d Told 0 v q x → Came r d (Also Told t p) 0 v q x
  came_before v q x came = record {
    title = came.title;
    patron = came.patron;
    hold = came.hold;
    told = inl came.told;
    is = came.is;
    same_title = came.same_title;
    same_patron = came.same_patron;
    same = came.same;
  }

  went_now : (v q : ℕ) (x : Hold) → v ≡ t → q ≡ p → d.hold v q ≡ Some x
      → Went r (put e (HoldCell u h.patron) (HoldHas (Some h))) 0 v q x
  went_now v q x one two at = record {
    title = u;
    patron = h.patron;
    hold = h;
    same_title = subst (λ (y : ℕ). r.title y ≡ Some u) (sym one) title;
    same_patron = subst (λ (y : ℕ). r.patron y ≡ Some h.patron) (sym two) patron_is;
    is = hold_here u u h.patron h.patron (Some h) (e.hold u h.patron) refl refl;
    same = subst (λ (y : Hold). IsSameHold r (hold_below 0 y) h)
        (same_Some g x (sym is
        ∙ subst (λ (y : ℕ). d.hold y p ≡ Some x) one (subst (λ (y : ℕ). d.hold v y ≡ Some x) two at)))
        same_so_far;
  }

  went_before : (v q : ℕ) (x : Hold) → Told v q → Went r e 0 v q x
      → Went r (put e (HoldCell u h.patron) (HoldHas (Some h))) 0 v q x
  went_before v q x told went = record {
    title = went.title;
    patron = went.patron;
    hold = went.hold;
    same_title = went.same_title;
    same_patron = went.same_patron;
    is = hold_there u went.title h.patron went.patron (Some h) (e.hold went.title went.patron)
        (λ one two. untold v q
        (names.titles v t u (went.same_title ∙ ap (λ (y : ℕ). Some y) (sym one)) title)
        (names.patrons q p h.patron (went.same_patron ∙ ap (λ (y : ℕ). Some y) (sym two)) patron_is)
        told) ∙ went.is;
    same = went.same;
  }

  pub more_gone : Gone r d (Also Told t p) 0 (put e (HoldCell u h.patron) (HoldHas (Some h)))
  more_gone = record {
    from = λ v q x. hold_cases (λ o. o ≡ Some x → Came r d (Also Told t p) 0 v q x) u v h.patron q (Some h)
        (e.hold v q)
        (λ one two is_x. came_now v q x one two is_x)
        (λ apart at. came_before v q x (gone.from v q x at));
    to = λ v q x also at. by_told v q x at also;
  }
    where
      by_told : (v q : ℕ) (x : Hold) → d.hold v q ≡ Some x → Also Told t p v q
          → Went r (put e (HoldCell u h.patron) (HoldHas (Some h))) 0 v q x
      by_told v q x at (inl told) = went_before v q x told (gone.to v q x told at)
      by_told v q x at (inr this) = went_now v q x this.0 this.1 at
