-- The stamps of the holds of a title, by patron, and the holds that stand at their places.
use Rattle.std.proofs.Common.{◌≡◌, ℕ, ◌+◌, Bool, true, false, cond, ◌==◌, List, [], ◌∷◌, Option, None}
use Rattle.std.proofs.Common.{Some}
use Rattle.std.proofs.Common.{refl, ap, sym, subst, ◌∙◌, inl, inr, arith}
use Rattle.std.specs.Prelude.{◌≤◌, ◌||◌, option_map, slice_get}
use Rattle.std.specs.Option.{option_map_or}
use Rattle.std.proofs.lemmas.Bool.Decides.{nat_tests}
use Rattle.std.proofs.lemmas.Bool.{cases_Bool, cases_lt}
use Rattle.std.proofs.lemmas.Grind.{common_steps}
use Rattle.hd_rules.specs.declared.holds.Hold.{Hold}
use Rattle.hd_queue.specs.Holds.{AllAfter, IsInOrder, count_before, has_stamp, hold_of, with_hold, without}
use Rattle.hd_queue.specs.StampsValue.{StampsValue, stamp_of}
use Rattle.hd_queue.proofs.HoldsLemmas.{AllAfter-hold_of, count_before-after, count_before-first}
use Rattle.hd_queue.proofs.HoldsLemmas.{count_before-less, hold_of-first, hold_of-later, hold_of-with_hold}

-- the hold that stands at the place of its stamp

slice_get-first : (h : Hold) (hs : List Hold) (n : ℕ) → n ≡ 0 → slice_get (h ∷ hs) n ≡ Some h
slice_get-first h hs n e = rw e

slice_get-later : (h : Hold) (hs : List Hold) (n m : ℕ) → n ≡ m + 1 → slice_get (h ∷ hs) n ≡ slice_get hs m
slice_get-later h hs n m e = grind (arith, common_steps, e)

pub at_stamp : (hs : List Hold) (patron : ℕ) (x : Hold) → IsInOrder hs → hold_of hs patron ≡ Some x →
    slice_get hs (count_before hs x.stamp) ≡ Some x
at_stamp [] patron x o e = absurd (cc e)
at_stamp (h ∷ hs) patron x o e = elim (cases_Bool (h.patron == patron)) [
  | inl t ↦
      let same : h ≡ x = hold_of-first h x hs patron t e
      in let at : count_before (h ∷ hs) x.stamp ≡ 0 =
      subst (λ (k : Hold). count_before (h ∷ hs) k.stamp ≡ 0) same (count_before-first h hs o.0)
      in slice_get-first h hs _ at ∙ ap Some same
  | inr t ↦
      let later : hold_of hs patron ≡ Some x = hold_of-later h x hs patron t e
      in let at : count_before (h ∷ hs) x.stamp ≡ count_before hs x.stamp + 1 =
      count_before-less h hs x.stamp (AllAfter-hold_of h.stamp hs patron x o.0 later)
      in slice_get-later h hs _ _ at ∙ at_stamp hs patron x o.1 later
]

-- a patron's hold has its stamp
pub hold_has_stamp : (hs : List Hold) (patron : ℕ) (x : Hold) → hold_of hs patron ≡ Some x
    → has_stamp hs x.stamp ≡ true
hold_has_stamp [] patron x e = absurd (cc e)
hold_has_stamp (h ∷ hs) patron x e = elim (cases_Bool (h.patron == patron)) [
  | inl t ↦
      let same : h ≡ x = hold_of-first h x hs patron t e in
      subst (λ (k : Hold). has_stamp (h ∷ hs) k.stamp ≡ true) same (grind (arith, nat_tests))
  | inr t ↦ grind (arith, nat_tests, hold_has_stamp hs patron x (hold_of-later h x hs patron t e))
]

-- whether a hold has a stamp is seen at the place of that stamp

pub no_stamp-after : (s t : ℕ) (hs : List Hold) → AllAfter s hs → t ≤ s → has_stamp hs t ≡ false
no_stamp-after s t [] a l = refl
no_stamp-after s t (h ∷ hs) a l = grind (arith, nat_tests, no_stamp-after s t hs a.1 l, a.0)

pub stamp_there : (hs : List Hold) (stamp : ℕ) → IsInOrder hs →
    has_stamp hs stamp ≡ option_map_or (λ (h : Hold). h.stamp == stamp) (slice_get hs (count_before hs stamp))
    false
stamp_there [] stamp o = refl
stamp_there (h ∷ hs) stamp o = elim (cases_lt h.stamp stamp) [
  | inl l ↦
      let at : count_before (h ∷ hs) stamp ≡ count_before hs stamp + 1 = count_before-less h hs stamp l
      in let other : (h.stamp == stamp) ≡ false = grind (arith, nat_tests, l)
      in rw other (stamp_there hs stamp o.1
      ∙ ap (λ (x : Option Hold). option_map_or (λ (y : Hold). y.stamp == stamp) x false)
      (sym (slice_get-later h hs _ _ at)))
  | inr l ↦
      let none : count_before (h ∷ hs) stamp
      ≡ 0 = grind (arith, nat_tests, count_before-after h.stamp stamp hs o.0 l)
      in let later : has_stamp hs stamp ≡ false = no_stamp-after h.stamp stamp hs o.0 l
      in rw later (or-false (h.stamp == stamp)
      ∙ ap (λ (x : Option Hold). option_map_or (λ (y : Hold). y.stamp == stamp) x false)
      (sym (slice_get-first h hs _ none)))
]
  where
    or-false : (b : Bool) → (b || false) ≡ b
    or-false true = refl
    or-false false = refl

-- the stamp of the patron's hold, in each of two cases
option_map-stamp : (b : Bool) (o p : Option Hold) →
    option_map (λ (h : Hold). h.stamp) (cond b o p)
    ≡ cond b (option_map (λ (h : Hold). h.stamp) o) (option_map (λ (h : Hold). h.stamp) p)
option_map-stamp true o p = refl
option_map-stamp false o p = refl

-- putting a hold in
pub stamped-with_hold : (old new : StampsValue) (hs : List Hold) (x : Hold) → hold_of hs x.patron ≡ None →
    ((p : ℕ) → stamp_of old p ≡ option_map (λ h. h.stamp) (hold_of hs p)) →
    ((p : ℕ) → stamp_of new p ≡ cond (x.patron == p) (Some x.stamp) (stamp_of old p)) →
    (p : ℕ) → stamp_of new p ≡ option_map (λ h. h.stamp) (hold_of (with_hold hs x) p)
stamped-with_hold old new hs x none was is p =
    is p ∙ ap (cond (x.patron == p) (Some x.stamp)) (was p)
    ∙ sym (option_map-stamp (x.patron == p) (Some x) (hold_of hs p))
    ∙ ap (option_map (λ (h : Hold). h.stamp)) (sym (hold_of-with_hold hs x p none))

-- taking a hold out
hold_of-without : (hs : List Hold) (patron p : ℕ) → hold_of (without hs patron) p
    ≡ cond (patron == p) None (hold_of hs p)
hold_of-without [] patron p = elim (cases_Bool (patron == p)) [ inl t ↦ rw t | inr t ↦ rw t ]
hold_of-without (h ∷ hs) patron p = grind (arith, nat_tests, common_steps, hold_of-without hs patron p)

pub stamped-without : (old new : StampsValue) (hs : List Hold) (patron : ℕ) →
    ((p : ℕ) → stamp_of old p ≡ option_map (λ h. h.stamp) (hold_of hs p)) →
    ((p : ℕ) → stamp_of new p ≡ cond (patron == p) None (stamp_of old p)) →
    (p : ℕ) → stamp_of new p ≡ option_map (λ h. h.stamp) (hold_of (without hs patron) p)
stamped-without old new hs patron was is p =
    is p ∙ ap (cond (patron == p) None) (was p) ∙ sym (option_map-stamp (patron == p) None (hold_of hs p))
    ∙ ap (option_map (λ (h : Hold). h.stamp)) (sym (hold_of-without hs patron p))
