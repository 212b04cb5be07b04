-- The states of copies, before and after one copy goes somewhere else.
use Rattle.std.proofs.Common.{◌≡◌, ℕ, ◌<◌, ◌≤◌, ◌==◌, true, false, cond, nat_lt, List, Some, length, get_or}
use Rattle.std.proofs.Common.{refl, ap, sym, ◌∙◌}
use Rattle.std.proofs.Common.{subst, inl, inr, arith, eq-eqb}
use Rattle.std.proofs.Math.ListN.{set, length-set}
use Rattle.std.proofs.lemmas.Bool.{and_from, eqb-true, eqb-false, cases_Bool, cases_lt, cond_both, le-ltb}
use Rattle.std.proofs.lemmas.List.{get_or-set_same, get_or-set_other, get_or_past}
use Rattle.std.proofs.lemmas.Option.{slice_get-get_or, slice_get_past}
use Rattle.std.proofs.lemmas.Bool.Decides.{nat_tests}
use Rattle.std.specs.List.{slice_get}
use Rattle.hd_rules.specs.declared.copies.HoldPlace.{HoldPlace}
use Rattle.hd_rules.specs.declared.copies.CopyState.{CopyState}
use Rattle.hd_rules.specs.declared.copies.CopyState.TheVariants.{Shelf, OnHoldShelf}
use Rattle.hd_rules.specs.Facts.{AreInRange, Facts}
use Rattle.hd_rules.specs.Choose.{stands_at}
use Rattle.hd_rules.specs.Known.{IsKnownState}
use Rattle.hd_rules.specs.Sound.{PlacesFit}
use Rattle.hd_catalogue.specs.declared.facts.CopyFacts.{CopyFacts}
use Rattle.hd_catalogue.specs.Contents.{Contents, facts_of, fact_of}
use Rattle.hd_copies.specs.Indexing.{each_at_home}
use Rattle.hd_copies.specs.Standing.{IsAlone, IsWelcome, AreStates, AreAtHome, state_in}

-- one entry of the list is written
pub state_in-set : (states : List CopyState) (i c : ℕ) (v : CopyState) → i ≡ c → c < length states →
    state_in (set states i v) ≡ (λ x. cond (c == x) v (state_in states x))
state_in-set states i c v at l = λ j. λ x. each x j
  where
    each : (x : ℕ) → state_in (set states i v) x ≡ cond (c == x) v (state_in states x)
    each x = elim (cases_Bool (c == x)) [
      | inl b ↦ (let e : c ≡ x = eqb-true c x b in
          rw b (ap (λ (u : ℕ). get_or (set states u v) x (Shelf 0)) (at ∙ e)
          ∙ get_or-set_same states x v (Shelf 0) (let lt : x < length states = omega arith in lt)))
      | inr b ↦ rw b (get_or-set_other states i x v (Shelf 0)
          (λ e. let s : (c == x) ≡ true = eq-eqb c x (sym at ∙ sym e) in cc))
    ]

-- a copy goes somewhere else
pub known-put : (k : Facts) (f : ℕ → CopyState) (c : ℕ) (v : CopyState)
    → ((x : ℕ) → x < k.copies → IsKnownState k (f x)) → IsKnownState k v → (x : ℕ) → x < k.copies
    → IsKnownState k (cond (c == x) v (f x))
known-put k f c v all here x l = cond_both (c == x) v (f x) (IsKnownState k) (λ e. here) (λ other. all x l)

-- the place is at least 1, and no other of the catalogue's copies stands there
record Placed (k : Facts) (f : ℕ → CopyState) (c : ℕ) (s : HoldPlace) : Type 0 where
  pub from_one : 1 ≤ s.place
  pub alone : (x : ℕ) (r : HoldPlace) → x < k.copies → (c == x) ≡ false → f x ≡ OnHoldShelf r
      → s.branch ≡ r.branch → s.place ≡ r.place → ⊥

placed-at : (k : Facts) (f : ℕ → CopyState) (c : ℕ) (v : CopyState) → IsWelcome k f c v → (s : HoldPlace)
    → v ≡ OnHoldShelf s → Placed k f c s
placed-at k f c v welcome s is = placed (subst (IsWelcome k f c) is welcome)
  where
    placed : IsAlone k f c s → Placed k f c s
    placed a = record {
      from_one = a.from_one;
      alone = λ x r in_x other at branch place.
          let no : stands_at s.branch s.place (f x) ≡ false =
          a.alone x in_x (λ e. eqb-false c x other (sym e)) in
          let there : stands_at s.branch s.place (f x) ≡ true =
          ap (stands_at s.branch s.place) at
          ∙ and_from _ _ (eq-eqb r.branch s.branch (sym branch)) (eq-eqb r.place s.place (sym place)) in
          let none : ⊥ = cc in none;
    }

pub places-put : (k : Facts) (f : ℕ → CopyState) (c : ℕ) (v : CopyState) → PlacesFit k f → IsWelcome k f c v →
    PlacesFit k (λ x. cond (c == x) v (f x))
places-put k f c v fit welcome = record {
  from_one = λ x s. cond_both (c == x) v (f x) (λ w. w ≡ OnHoldShelf s → 1 ≤ s.place)
      (λ e is. (placed-at k f c v welcome s is).from_one) (λ other is. fit.from_one x s is);
  apart = λ x y s r in_x in_y. cond_both (c == x) v (f x)
      (λ w. w ≡ OnHoldShelf s → cond (c == y) v (f y) ≡ OnHoldShelf r → s.branch ≡ r.branch
      → s.place ≡ r.place → x ≡ y)
      (λ e is. cond_both (c == y) v (f y)
      (λ w. w ≡ OnHoldShelf r → s.branch ≡ r.branch → s.place ≡ r.place → x ≡ y)
      (λ same _ _ _. sym (eqb-true c x e) ∙ eqb-true c y same)
      (λ other was branch place.
      absurd ((placed-at k f c v welcome s is).alone y r in_y other was branch place)))
      (λ other was. cond_both (c == y) v (f y)
      (λ w. w ≡ OnHoldShelf r → s.branch ≡ r.branch → s.place ≡ r.place → x ≡ y)
      (λ same is branch place.
      absurd ((placed-at k f c v welcome r is).alone x s in_x other was (sym branch) (sym place)))
      (λ apart is branch place. fit.apart x y s r in_x in_y was is branch place));
}

pub states-put : (k : Facts) (states : List CopyState) (i c : ℕ) (v : CopyState) → AreStates k states → i ≡ c
    → c < k.copies → IsKnownState k v → IsWelcome k (state_in states) c v → AreStates k (set states i v)
states-put k states i c v is at l fact_of welcome =
    let there : c < length states = omega (arith, is.copies) in
    let e : (λ x. cond (c == x) v (state_in states x)) ≡ state_in (set states i v) =
    sym (state_in-set states i c v at there) in
    record {
      copies = length-set states i v ∙ is.copies;
      known = subst (λ (f : ℕ → CopyState). (x : ℕ) → x < k.copies → IsKnownState k (f x)) e
          (known-put k (state_in states) c v is.known fact_of);
      places = subst (PlacesFit k) e (places-put k (state_in states) c v is.places welcome);
    }

-- a number past the last copy
pub state_past : (states : List CopyState) (c : ℕ) → length states ≤ c → state_in states c ≡ Shelf 0
state_past states c l = get_or_past states c (Shelf 0) l

not_there : (v : CopyState) (b : ℕ) (s : HoldPlace) → v ≡ Shelf b → v ≡ OnHoldShelf s → ⊥
not_there v b s e is = cc

pub home_past : (copies : List (List ℕ × CopyFacts)) (c : ℕ) → length copies ≤ c
    → fact_of (λ (copy : CopyFacts). copy.home) 0 copies c ≡ 0
home_past copies c l = rw (slice_get_past copies c l) refl

-- each copy that there is, and no other one, stands where its home is
pub standing-home : (k : Contents) (states : List CopyState) → AreAtHome (facts_of k) states →
    state_in states ≡ (λ c. Shelf ((facts_of k).home c))
unfolding facts_of
standing-home k states home = λ i. λ c. each c i
  where
    each : (c : ℕ) → state_in states c ≡ Shelf (fact_of (λ (copy : CopyFacts). copy.home) 0 k.copies c)
    each c = elim (cases_lt c (length k.copies)) [
      | inl below ↦ home.home c below
      | inr above ↦ state_past states c (omega (arith, home.copies))
          ∙ ap Shelf (sym (home_past k.copies c above))
    ]

-- each copy at home
pub states-home : (k : Facts) (states : List CopyState) → AreInRange k → AreAtHome k states
    → AreStates k states
states-home k states range home = record {
  copies = home.copies;
  known = λ c l. subst (IsKnownState k) (sym (home.home c l)) (range.home c l);
  places = record {
    from_one = λ c s is. elim (cases_lt c k.copies) [
      | inl below ↦ absurd (not_there (state_in states c) (k.home c) s (home.home c below) is)
      | inr above ↦ absurd
          (not_there (state_in states c) 0 s (state_past states c (omega (arith, home.copies))) is)
    ];
    apart = λ x y s r in_x in_y is_x is_y branch place.
        absurd (not_there (state_in states x) (k.home x) s (home.home x in_x) is_x);
  };
}

-- the list has what each copy at home has
pub found-home : (k : Facts) (states : List CopyState) → AreAtHome k states
    → slice_get states ≡ each_at_home k
found-home k states home = λ i. λ c. each c i
  where
    each : (c : ℕ) → slice_get states c ≡ each_at_home k c
    each c = elim (cases_lt c k.copies) [
      | inl below ↦ (let lt : nat_lt c k.copies ≡ true = grind (arith, nat_tests) in
          slice_get-get_or states c (Shelf 0) (omega (arith, home.copies))
          ∙ ap (λ (s : CopyState). Some s) (home.home c below)
          ∙ sym (rw lt refl))
      | inr above ↦ (let not_lt : nat_lt c k.copies ≡ false = le-ltb c k.copies above in
          slice_get_past states c (omega (arith, home.copies)) ∙ sym (rw not_lt refl))
    ]
