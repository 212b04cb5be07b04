-- A copy that is tied to a hold goes there, and the hold gets it.
use Rattle.std.proofs.Common.{◌≡◌, refl, sym, ◌∙◌, ap, subst, ℕ, suc, ◌⊎◌, inl, inr, Option, Some, None}
use Rattle.std.proofs.lemmas.Option.{same_Some}
use Rattle.hd_rules.specs.declared.holds.Hold.{Hold}
use Rattle.hd_rules.specs.declared.copies.CopyState.{CopyState}
use Rattle.hd_rules.specs.declared.copies.CopyState.TheVariants.{Shelf, OnLoan, OnHoldShelf, InTransit}
use Rattle.hd_rules.specs.declared.cells.Cell.TheVariants.{Copy as CopyCell, Hold as HoldCell}
use Rattle.hd_rules.specs.declared.cells.Value.TheVariants.{Copy as CopyHas, Hold as HoldHas}
use Rattle.hd_rules.specs.Desk.{Desk, put}
use Rattle.hd_rules.specs.Facts.{Facts}
use Rattle.hd_rules.specs.Settle.{with_copy}
use Rattle.hd_rules.specs.Sound.{Has, Tied, Tie}
use Rattle.hd_rules.specs.Carry.{Renumbering, IsByNames, IsSamePlace, IsSameHold}
use Rattle.hd_rules.specs.Rows.{Waits, given}
use Rattle.hd_carry.proofs.Numbers.{same_or_apart, hold_cases, hold_here, hold_there, copy_here}
use Rattle.hd_carry.proofs.Numbers.{copy_below, below_other, below_this, below_next_this}
use Rattle.hd_lemmas.proofs.Options.{one_new}
use Rattle.hd_lemmas.proofs.Rules.{copy_there}
use Rattle.hd_carry.proofs.Gone.{Came, Went, Gone, hold_below, same_with, copy_as, no_copy}
use Rattle.hd_carry.proofs.Places.{Each, Placed, present}

-- tied to one patron
tied_one : (s : CopyState) (p q a b : ℕ) → Tied s p a → Tied s q b → p ≡ q
tied_one (OnHoldShelf s) p q a b one two = sym one.0 ∙ two.0
tied_one (InTransit t) p q a b one two = same_number (sym one.0 ∙ two.0)
  where
    same_number : {p q : ℕ} → Some p ≡ Some q → p ≡ q
    same_number e = cc
tied_one (Shelf x) p q a b one two = absurd one
tied_one (OnLoan l) p q a b one two = absurd one

-- the hold that has a copy
pub record Holder (k : Facts) (d : Desk) (n p b : ℕ) : Type 0 where
  pub hold : Hold
  pub is : d.hold (k.title_of n) p ≡ Some hold
  pub copy : hold.copy ≡ Some n
  pub pickup : hold.pickup ≡ b

holder : (k : Facts) (d : Desk) → Tie k d → (n p b : ℕ) → Tied (d.copy n) p b → Holder k d n p b
holder k d tie n p b tied = by_case (d.hold (k.title_of n) p) refl (tie.has p n b tied)
  where
    by_case : (o : Option Hold) → d.hold (k.title_of n) p ≡ o → Has o n b → Holder k d n p b
    by_case None is has = absurd has
    by_case (Some g) is has = record { hold = g; is = is; copy = has.0; pickup = has.1 }

-- the old hold, and where it is now
pub record Kept (k j : Facts) (r : Renumbering) (d : Desk) (n : ℕ) (e : Desk) (x p b : ℕ) : Type 0 where
  pub old : Hold
  pub was : d.hold (k.title_of n) p ≡ Some old
  pub copy : old.copy ≡ Some n
  pub patron : ℕ
  pub hold : Hold
  pub same_patron : r.patron p ≡ Some patron
  pub is : e.hold (j.title_of x) patron ≡ Some hold
  pub none : hold.copy ≡ None
  pub same : IsSameHold r (hold_below n old) hold
  pub pickup : r.branch b ≡ Some hold.pickup

module _ (k j : Facts) (r : Renumbering) (d : Desk) (names : IsByNames k j r) (tie : Tie k d) (n : ℕ)
    (e : Desk) (state : Placed r j d n e)
    (x : ℕ) (same : r.copy n ≡ Some x) (p b : ℕ) (tied : Tied (d.copy n) p b) where
  pub kept : Kept k j r d n e x p b
  kept =
      let was : Holder k d n p b = holder k d tie n p b tied in
      let went : Went r e n (k.title_of n) p was.hold = state.holds.to (k.title_of n) p was.hold tt was.is in
      let title : went.title ≡ j.title_of x =
      one_new r.title (k.title_of n) went.title (j.title_of x) went.same_title (names.title_of n x same) in
      record {
        old = was.hold;
        was = was.is;
        copy = was.copy;
        patron = went.patron;
        hold = went.hold;
        same_patron = went.same_patron;
        is = subst (λ (u : ℕ). e.hold u went.patron ≡ Some went.hold) title went.is;
        none = no_copy r went.hold.copy
            (copy_as r (copy_below n was.hold.copy) None went.hold.copy (below_this n was.hold.copy was.copy)
            went.same.copy);
        same = went.same;
        pickup = subst (λ (a : ℕ). r.branch a ≡ Some went.hold.pickup) was.pickup went.same.pickup;
      }

  only : (t q : ℕ) (g : Hold) → d.hold t q ≡ Some g → g.copy ≡ Some n → (k.title_of n ≡ t) × (p ≡ q)
  only t q g is has =
      let other : (k.title_of n ≡ t) × Tied (d.copy n) q g.pickup =
      tie.tied t q n g.pickup (subst (λ (o : Option Hold). Has o n g.pickup) (sym is) (has, refl)) in
      (other.0, tied_one (d.copy n) p q b g.pickup tied other.1)

  module _ (to : Kept k j r d n e x p b) (place : CopyState) where
    abbrev now : Desk
    now =
        put (put e (CopyCell x) (CopyHas place)) (HoldCell (j.title_of x) to.patron)
        (HoldHas (Some (with_copy (Some x) to.hold)))

    same_now : IsSameHold r (hold_below (suc n) to.old) (with_copy (Some x) to.hold)
    same_now = record {
      patron = to.same.patron;
      stamp = to.same.stamp;
      kind = to.same.kind;
      pickup = to.same.pickup;
      expiry = to.same.expiry;
      copy = copy_as r (Some n) (copy_below (suc n) to.old.copy) (Some x)
          (sym (below_next_this n to.old.copy to.copy)) same;
    }

    came_now : (u q : ℕ) (y : Hold) → j.title_of x ≡ u → to.patron ≡ q → Some (with_copy (Some x) to.hold)
        ≡ Some y
        → Came r d Each (suc n) u q y
    came_now u q y one two is = record {
      title = k.title_of n;
      patron = p;
      hold = to.old;
      told = tt;
      is = to.was;
      same_title = names.title_of n x same ∙ ap (λ (m : ℕ). Some m) one;
      same_patron = to.same_patron ∙ ap (λ (m : ℕ). Some m) two;
      same = subst (λ (h : Hold). IsSameHold r (hold_below (suc n) to.old) h)
          (same_Some (with_copy (Some x) to.hold) y is) same_now;
    }

    came_before : (u q : ℕ) (y : Hold) → (j.title_of x ≡ u → to.patron ≡ q → ⊥) → Came r d Each n u q y
        → Came r d Each (suc n) u q y
    came_before u q y apart came = record {
      title = came.title;
      patron = came.patron;
      hold = came.hold;
      told = tt;
      is = came.is;
      same_title = came.same_title;
      same_patron = came.same_patron;
      same = same_with r came.hold y (copy_below n came.hold.copy) (copy_below (suc n) came.hold.copy)
          (sym (below_other n came.hold.copy other)) came.same;
    }
      where
        other : came.hold.copy ≡ Some n → ⊥
        other has =
            let this : (k.title_of n ≡ came.title) × (p ≡ came.patron) =
            only came.title came.patron came.hold came.is has in
            apart
            (one_new r.title came.title (j.title_of x) u
            (subst (λ (t : ℕ). r.title t ≡ Some (j.title_of x)) this.0 (names.title_of n x same))
            came.same_title)
            (one_new r.patron came.patron to.patron q
            (subst (λ (m : ℕ). r.patron m ≡ Some to.patron) this.1 to.same_patron) came.same_patron)

    went_now : Went r now (suc n) (k.title_of n) p to.old
    went_now = record {
      title = j.title_of x;
      patron = to.patron;
      hold = with_copy (Some x) to.hold;
      same_title = names.title_of n x same;
      same_patron = to.same_patron;
      is = hold_here (j.title_of x) (j.title_of x) to.patron to.patron (Some (with_copy (Some x) to.hold))
          (e.hold (j.title_of x) to.patron) refl refl;
      same = same_now;
    }

    went_before : (t q : ℕ) (g : Hold) → d.hold t q ≡ Some g → (went : Went r e n t q g)
        → (j.title_of x ≡ went.title → to.patron ≡ went.patron → ⊥) → Went r now (suc n) t q g
    went_before t q g is went apart = record {
      title = went.title;
      patron = went.patron;
      hold = went.hold;
      same_title = went.same_title;
      same_patron = went.same_patron;
      is = hold_there (j.title_of x) went.title to.patron went.patron (Some (with_copy (Some x) to.hold))
          (e.hold went.title went.patron) apart ∙ went.is;
      same = same_with r g went.hold (copy_below n g.copy) (copy_below (suc n) g.copy)
          (sym (below_other n g.copy other)) went.same;
    }
      where
        other : g.copy ≡ Some n → ⊥
        other has =
            let this : (k.title_of n ≡ t) × (p ≡ q) = only t q g is has in
            apart
            (one_new r.title t (j.title_of x) went.title
            (subst (λ (m : ℕ). r.title m ≡ Some (j.title_of x)) this.0 (names.title_of n x same))
            went.same_title)
            (one_new r.patron q to.patron went.patron
            (subst (λ (m : ℕ). r.patron m ≡ Some to.patron) this.1 to.same_patron) went.same_patron)

    goes_now : (t q : ℕ) (g : Hold) → d.hold t q ≡ Some g → (went : Went r e n t q g)
        → ((j.title_of x ≡ went.title) × (to.patron ≡ went.patron)) ⊎
        (j.title_of x ≡ went.title → to.patron ≡ went.patron → ⊥)
        → Went r now (suc n) t q g
    goes_now t q g is went (inl one) =
        let title : k.title_of n ≡ t =
        names.titles (k.title_of n) t went.title (names.title_of n x same ∙ ap (λ (m : ℕ). Some m) one.0)
        went.same_title in
        let patron : p ≡ q =
        names.patrons p q went.patron (to.same_patron ∙ ap (λ (m : ℕ). Some m) one.1) went.same_patron in
        let hold : to.old ≡ g =
        same_Some to.old g
        (sym to.was ∙ subst (λ (m : ℕ). d.hold m p ≡ Some g) (sym title)
        (subst (λ (m : ℕ). d.hold t m ≡ Some g) (sym patron) is)) in
        subst (λ (m : ℕ). Went r now (suc n) m q g) title
        (subst (λ (m : ℕ). Went r now (suc n) (k.title_of n) m g) patron
        (subst (λ (h : Hold). Went r now (suc n) (k.title_of n) p h) hold went_now))
    goes_now t q g is went (inr apart) = went_before t q g is went apart

    holds_now : Gone r d Each (suc n) now
    holds_now = record {
      from = λ u q y. hold_cases (λ o. o ≡ Some y → Came r d Each (suc n) u q y) (j.title_of x) u to.patron q
          (Some (with_copy (Some x) to.hold)) (e.hold u q)
          (λ one two is. came_now u q y one two is)
          (λ apart is. came_before u q y apart (state.holds.from u q y is));
      to = λ t q g told is.
          let went : Went r e n t q g = state.holds.to t q g tt is in
          goes_now t q g is went (same_or_apart (j.title_of x) went.title to.patron went.patron);
    }

    placed_now : IsSamePlace r (d.copy n) place → Placed r j d (suc n) now
    placed_now is_same =
        present k j r d names tie n e state x same now holds_now
        (subst (λ (s : CopyState). IsSamePlace r (d.copy n) s) (sym (copy_here x x place (e.copy x) refl))
        is_same)
        (λ y apart. copy_there x y place (e.copy y) apart)

  -- the hold waits for the copy
  abbrev pub waits : (to : Kept k j r d n e x p b) → Waits j e x to.patron
  waits to = record { hold = to.hold; is = to.is; none = to.none }

  -- and gets it
  pub placed_given : (to : Kept k j r d n e x p b) (goes : Hold → CopyState)
      → IsSamePlace r (d.copy n) (goes to.hold)
      → Placed r j d (suc n) (given j.title_of e x to.patron goes (e.hold (j.title_of x) to.patron))
  placed_given to goes is_same =
      subst (λ (o : Option Hold). Placed r j d (suc n) (given j.title_of e x to.patron goes o)) (sym to.is)
      (placed_now to (goes to.hold) is_same)
