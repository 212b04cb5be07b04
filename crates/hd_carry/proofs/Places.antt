-- Where the old copies have gone so far.
use Rattle.std.proofs.Common.{◌≡◌, refl, sym, ◌∙◌, ap, subst, ℕ, suc, ◌<◌, ◌==◌, ◌⊎◌, inl, inr, Bool, true}
use Rattle.std.proofs.Common.{false, Option, Some, None}
use Rattle.std.proofs.Common.{List, eqb-true}
use Rattle.hd_rules.specs.declared.holds.Hold.{Hold}
use Rattle.hd_rules.specs.declared.copies.CopyState.{CopyState}
use Rattle.hd_rules.specs.declared.copies.CopyState.TheVariants.{Shelf, OnLoan, OnHoldShelf, InTransit}
use Rattle.hd_rules.specs.declared.cells.Cell.TheVariants.{Copy as CopyCell}
use Rattle.hd_rules.specs.declared.cells.Value.TheVariants.{Copy as CopyHas}
use Rattle.hd_rules.specs.declared.rows.OpeningRow.{OpeningRow}
use Rattle.hd_rules.specs.Desk.{Desk, put}
use Rattle.hd_rules.specs.Facts.{Facts}
use Rattle.hd_rules.specs.Choose.{is_on_shelf}
use Rattle.hd_rules.specs.Sound.{Has, Tied, Tie}
use Rattle.hd_rules.specs.Carry.{Renumbering, IsByNames, IsSamePlace}
use Rattle.hd_rules.specs.Rows.{EachMayStand}
use Rattle.hd_carry.proofs.Numbers.{not_less, below_or_this, below_next, this_below_next, none_number}
use Rattle.hd_carry.proofs.Numbers.{copy_below, below_other, copy_here}
use Rattle.hd_lemmas.proofs.Options.{one_new}
use Rattle.hd_lemmas.proofs.Rules.{copy_there}
use Rattle.hd_lemmas.proofs.Tests.{number_not}
use Rattle.hd_carry.proofs.Rows.{rows_from, AreKnown}
use Rattle.hd_carry.proofs.Gone.{Came, Went, Gone, same_with}

-- all have been told
abbrev pub Each : ℕ → ℕ → Type 0
Each t p = Unit {0}

-- an old copy, with a number below n, that stands there as it stood
pub record Stood (r : Renumbering) (d : Desk) (n : ℕ) (e : Desk) (x : ℕ) : Type 0 where
  pub copy : ℕ
  pub below : copy < n
  pub same : r.copy copy ≡ Some x
  pub place : IsSamePlace r (d.copy copy) (e.copy x)

-- no such copy so far
pub record Free (r : Renumbering) (j : Facts) (n : ℕ) (e : Desk) (x : ℕ) : Type 0 where
  pub none : (c : ℕ) → c < n → r.copy c ≡ Some x → ⊥
  pub home : e.copy x ≡ Shelf (j.home x)

-- the copies below n stand as they stood, with the holds that they are tied to
pub record Placed (r : Renumbering) (j : Facts) (d : Desk) (n : ℕ) (e : Desk) : Type 0 where
  pub holds : Gone r d Each n e
  pub copies : (x : ℕ) → Stood r d n e x ⊎ Free r j n e x
  pub gone : (c : ℕ) → c < n → r.copy c ≡ None → is_on_shelf (d.copy c) ≡ true

-- the rows of the copy n may stand, and place it
pub record Moved (r : Renumbering) (j : Facts) (d : Desk) (stamp n : ℕ) (e : Desk)
    (rows : List OpeningRow) : Type 0 where
  pub each : EachMayStand j stamp e rows
  pub known : AreKnown j rows
  pub placed : Placed r j d (suc n) (rows_from j e rows)

-- tied to nobody
abbrev pub Untied : CopyState → Type 0
Untied s = (p b : ℕ) → Tied s p b → ⊥

pub shelf_untied : (s : CopyState) → is_on_shelf s ≡ true → Untied s
shelf_untied (Shelf b) is p a tied = tied
shelf_untied (OnLoan l) is p a tied = tied
shelf_untied (OnHoldShelf s) is p a tied = let never : false ≡ true = is in cc
shelf_untied (InTransit t) is p a tied = let never : false ≡ true = is in cc

module _ (k j : Facts) (r : Renumbering) (d : Desk) (names : IsByNames k j r) (tie : Tie k d) (n : ℕ)
    (e : Desk) (state : Placed r j d n e) where
  -- a copy that is tied to nobody is no hold's
  no_hold_has : Untied (d.copy n) → (t p : ℕ) (g : Hold) → d.hold t p ≡ Some g → g.copy ≡ Some n → ⊥
  no_hold_has free t p g is has =
      let tied : (k.title_of n ≡ t) × Tied (d.copy n) p g.pickup =
      tie.tied t p n g.pickup (subst (λ (o : Option Hold). Has o n g.pickup) (sym is) (has, refl)) in
      free p g.pickup tied.1

  holds_stay : Untied (d.copy n) → (f : Desk) → ((t p : ℕ) → f.hold t p ≡ e.hold t p)
      → Gone r d Each (suc n) f
  holds_stay free f stays = record {
    from = λ u q h is.
        let came : Came r d Each n u q h = state.holds.from u q h (sym (stays u q) ∙ is) in
        record {
          title = came.title;
          patron = came.patron;
          hold = came.hold;
          told = tt;
          is = came.is;
          same_title = came.same_title;
          same_patron = came.same_patron;
          same = same_with r came.hold h (copy_below n came.hold.copy) (copy_below (suc n) came.hold.copy)
              (sym (below_other n came.hold.copy (no_hold_has free came.title came.patron came.hold came.is)))
              came.same;
        };
    to = λ t p g told is.
        let went : Went r e n t p g = state.holds.to t p g tt is in
        record {
          title = went.title;
          patron = went.patron;
          hold = went.hold;
          same_title = went.same_title;
          same_patron = went.same_patron;
          is = stays went.title went.patron ∙ went.is;
          same = same_with r g went.hold (copy_below n g.copy) (copy_below (suc n) g.copy)
              (sym (below_other n g.copy (no_hold_has free t p g is))) went.same;
        };
  }

  -- a copy that is gone
  pub missing : r.copy n ≡ None → is_on_shelf (d.copy n) ≡ true → Placed r j d (suc n) e
  missing none shelf = record {
    holds = holds_stay (shelf_untied (d.copy n) shelf) e (λ t p. refl);
    copies = λ x. by_case x (state.copies x);
    gone = λ c l at. gone c at (below_or_this c n l);
  }
    where
      by_case : (x : ℕ) → Stood r d n e x ⊎ Free r j n e x → Stood r d (suc n) e x ⊎ Free r j (suc n) e x
      by_case x (inl stood) = inl (record {
        copy = stood.copy;
        below = below_next stood.copy n stood.below;
        same = stood.same;
        place = stood.place;
      })
      by_case x (inr free) =
          inr (record { none = λ c l at. by_number c at (below_or_this c n l); home = free.home })
        where
          by_number : (c : ℕ) → r.copy c ≡ Some x → (c < n) ⊎ (c ≡ n) → ⊥
          by_number c at (inl l) = free.none c l at
          by_number c at (inr this) =
              none_number x (r.copy n) none (subst (λ (m : ℕ). r.copy m ≡ Some x) this at)

      gone : (c : ℕ) → r.copy c ≡ None → (c < n) ⊎ (c ≡ n) → is_on_shelf (d.copy c) ≡ true
      gone c at (inl l) = state.gone c l at
      gone c at (inr this) = subst (λ (m : ℕ). is_on_shelf (d.copy m) ≡ true) (sym this) shelf

  module _ (x : ℕ) (same : r.copy n ≡ Some x) where
    -- no row has placed it so far
    pub at_its_home : e.copy x ≡ Shelf (j.home x)
    at_its_home = by_case (state.copies x)
      where
        by_case : Stood r d n e x ⊎ Free r j n e x → e.copy x ≡ Shelf (j.home x)
        by_case (inl stood) =
            absurd (not_less n (subst (λ (c : ℕ). c < n) (names.copies stood.copy n x stood.same same)
            stood.below))
        by_case (inr free) = free.home

    -- a desk where it stands as it stood, and the other copies too
    pub present : (f : Desk) → Gone r d Each (suc n) f → IsSamePlace r (d.copy n) (f.copy x)
        → ((y : ℕ) → (x == y) ≡ false → f.copy y ≡ e.copy y) → Placed r j d (suc n) f
    present f holds place others = record {
      holds = holds;
      copies = λ y. by_test y (x == y) refl (state.copies y);
      gone = λ c l at. gone c at (below_or_this c n l);
    }
      where
        by_test : (y : ℕ) (b : Bool) → (x == y) ≡ b → Stood r d n e y ⊎ Free r j n e y
            → Stood r d (suc n) f y ⊎ Free r j (suc n) f y
        by_test y true is before =
            let one : x ≡ y = eqb-true x y is in
            inl (record {
              copy = n;
              below = this_below_next n;
              same = same ∙ ap (λ (m : ℕ). Some m) one;
              place = subst (λ (m : ℕ). IsSamePlace r (d.copy n) (f.copy m)) one place;
            })
        by_test y false is (inl stood) = inl (record {
          copy = stood.copy;
          below = below_next stood.copy n stood.below;
          same = stood.same;
          place = subst (λ (s : CopyState). IsSamePlace r (d.copy stood.copy) s) (sym (others y is))
              stood.place;
        })
        by_test y false is (inr free) = inr (record {
          none = λ c l at. by_number c at (below_or_this c n l);
          home = others y is ∙ free.home;
        })
          where
            by_number : (c : ℕ) → r.copy c ≡ Some y → (c < n) ⊎ (c ≡ n) → ⊥
            by_number c at (inl l) = free.none c l at
            by_number c at (inr this) =
                number_not x y is (one_new r.copy n x y same (subst (λ (m : ℕ). r.copy m ≡ Some y) this at))

        gone : (c : ℕ) → r.copy c ≡ None → (c < n) ⊎ (c ≡ n) → is_on_shelf (d.copy c) ≡ true
        gone c at (inl l) = state.gone c l at
        gone c at (inr this) =
            absurd (none_number x (r.copy n) (subst (λ (m : ℕ). r.copy m ≡ None) this at) same)

    -- it is at home, and tied to nobody
    pub stays : Untied (d.copy n) → IsSamePlace r (d.copy n) (Shelf (j.home x)) → Placed r j d (suc n) e
    stays free place =
        present e (holds_stay free e (λ t p. refl))
        (subst (λ (s : CopyState). IsSamePlace r (d.copy n) s) (sym at_its_home) place) (λ y apart. refl)

    -- it goes where it is tied to nobody
    pub goes : Untied (d.copy n) → (v : CopyState) → IsSamePlace r (d.copy n) v
        → Placed r j d (suc n) (put e (CopyCell x) (CopyHas v))
    goes free v place =
        present (put e (CopyCell x) (CopyHas v))
        (holds_stay free (put e (CopyCell x) (CopyHas v)) (λ t p. refl))
        (subst (λ (s : CopyState). IsSamePlace r (d.copy n) s) (sym (copy_here x x v (e.copy x) refl)) place)
        (λ y apart. copy_there x y v (e.copy y) apart)
