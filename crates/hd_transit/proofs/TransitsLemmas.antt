-- What sending and arriving keep, and how the copies bound for a branch follow one another.
use Rattle.std.proofs.Common.{◌≡◌, ℕ, zero, suc, ◌+◌, ◌-◌, ◌<◌, ◌≤◌, Bool, true, cond, Option, None, Some}
use Rattle.std.proofs.Common.{◌∷◌, ap, refl, arith, inl}
use Rattle.std.proofs.Common.{inr}
use Rattle.std.specs.Prelude.{eqb, nat_lt, ◌&&◌}
use Rattle.std.specs.List.{filter, range_with_len, list_any}
use Rattle.std.specs.List.Sorted.{IsStrictlyIncreasing}
use Rattle.std.proofs.lemmas.Bool.Decides.{nat_tests}
use Rattle.std.proofs.lemmas.Bool.{cases_lt, cases_Bool}
use Rattle.std.proofs.lemmas.List.Kept.{IsStrictlyIncreasing-filter}
use Rattle.std.proofs.lemmas.List.FromFn.{length-range_with_len, get_or-range_with_len}
use Rattle.std.proofs.lemmas.Map.Views.{any-filter_same}
use Rattle.std.specs.Option.{SomeIff}
use Rattle.std.specs.Ordering.{nat_cmp}
use Rattle.std.specs.FinMap.{FinMap, get, insert, remove, empty, get-empty}
use Rattle.hd_lemmas.proofs.Maps.{get-insert_number, get-remove_number}
use Rattle.hd_rules.specs.declared.copies.Transit.{Transit}
use Rattle.hd_rules.specs.declared.limits.TheConstants.{MOST_COPIES}
use Rattle.hd_transit.specs.TransitsValue.{AreBelow, AreCopies}
use Rattle.hd_transit.specs.Bound.{is_bound_for, bound_from}

-- no copy is on its way where there are no transits
nothing_in_empty : (copy : ℕ) (t : Transit) → get {R = nat_cmp} empty copy ≡ Some t → ⊥
nothing_in_empty copy t e = let none = get-empty {X = Transit} nat_cmp copy in cc

-- without transits there is nothing to keep
pub AreCopies-empty : (n : ℕ) → AreCopies empty n
AreCopies-empty n = record {
  below = λ copy t e. absurd (nothing_in_empty copy t e);
  known = λ copy t e. absurd (nothing_in_empty copy t e);
}

below-insert : (m : FinMap nat_cmp Transit) (n k : ℕ) (t : Transit) → AreBelow m n → k < n
    → AreBelow (insert m k t) n
below-insert m n k t a small =
    λ copy other e. grind (arith, nat_tests, get-insert_number m k t copy, a copy other)

-- a copy with room may be sent
pub AreCopies-insert : (m : FinMap nat_cmp Transit) (n k : ℕ) (t : Transit) → AreCopies m n → k < n
    → k < MOST_COPIES → AreCopies (insert m k t) n
AreCopies-insert m n k t a small known = record {
  below = below-insert m n k t a.below small;
  known = below-insert m MOST_COPIES k t a.known known;
}

below-remove : (m : FinMap nat_cmp Transit) (n k : ℕ) → AreBelow m n → AreBelow (remove m k) n
below-remove m n k a = λ copy other e. grind (arith, nat_tests, get-remove_number m k copy, a copy other)

-- and may arrive
pub AreCopies-remove : (m : FinMap nat_cmp Transit) (n k : ℕ) → AreCopies m n → AreCopies (remove m k) n
AreCopies-remove m n k a = record {
  below = below-remove m n k a.below;
  known = below-remove m MOST_COPIES k a.known;
}

filter_of-step : (p : ℕ → Bool) (first n m : ℕ) → n ≡ suc m →
    filter p (range_with_len first n) ≡ cond (p first) (first ∷ filter p (range_with_len (first + 1) m))
    (filter p (range_with_len (first + 1) m))
filter_of-step p first n m e = ap (λ k. filter p (range_with_len first k)) e

-- the first copy is one of them or is not, and the others come after it
pub bound_from-step : (m : FinMap nat_cmp Transit) (copies to first : ℕ)
    → first < copies → bound_from m copies to first ≡ cond (is_bound_for to (get m first))
    (first ∷ bound_from m copies to (first + 1)) (bound_from m copies to (first + 1))
bound_from-step m copies to first l =
    filter_of-step (λ copy. is_bound_for to (get m copy)) first (copies - first) (copies - (first + 1))
    (omega arith)

-- numbers in a row rise
rising : (first n : ℕ) → IsStrictlyIncreasing (range_with_len first n)
rising first n =
    λ k l. omega (
      arith,
      length-range_with_len first n,
      get_or-range_with_len first n k 0,
      get_or-range_with_len first n (k + 1) 0,
    )

-- so those that are bound rise too
pub bound_from-rising : (m : FinMap nat_cmp Transit) (copies to first : ℕ)
    → IsStrictlyIncreasing (bound_from m copies to first)
bound_from-rising m copies to first =
    IsStrictlyIncreasing-filter (λ copy. is_bound_for to (get m copy)) (range_with_len first (copies - first))
    (rising first (copies - first))

-- the numbers in a row are those from the first on and below the last
in_row : (c first n : ℕ) → first ≤ c → list_any (eqb c) (range_with_len first n) ≡ nat_lt c (first + n)
in_row c first zero l = grind (arith, nat_tests)
in_row c first (suc n) l = elim (cases_lt first c) [
  | inl above ↦ grind (arith, nat_tests, in_row c (first + 1) n (omega arith))
  | inr here ↦ grind (arith, nat_tests)
]

-- a copy that is bound for a branch has room
bound_is_below : (m : FinMap nat_cmp Transit) (copies to c : ℕ) → AreBelow m copies
    → is_bound_for to (get m c) ≡ true → c < copies
bound_is_below m copies to c below is = some (get m c) refl is
  where
    some : (o : Option Transit) → get m c ≡ o → is_bound_for to o ≡ true → c < copies
    some None e b = absurd (cc b)
    some (Some t) e b = below c t e

-- a copy is among them exactly where it is bound for the branch
pub bound_from-exact : (m : FinMap nat_cmp Transit) (copies to c : ℕ) → AreBelow m copies →
    list_any (eqb c) (bound_from m copies to 0) ≡ is_bound_for to (get m c)
bound_from-exact m copies to c below =
    let bound : Bool = is_bound_for to (get m c)
    in let kept : list_any (eqb c) (bound_from m copies to 0)
    ≡ (bound && list_any (eqb c) (range_with_len 0 (copies - 0))) =
    any-filter_same (eqb c) (λ copy. is_bound_for to (get m copy)) bound (λ k e. grind (arith, nat_tests))
    (range_with_len 0 (copies - 0))
    in let row : list_any (eqb c) (range_with_len 0 (copies - 0)) ≡ nat_lt c (0 + (copies - 0)) =
    in_row c 0 (copies - 0) (omega arith)
    in elim (cases_Bool bound) [
      | inl is ↦ let small : c < copies = bound_is_below m copies to c below is in
          grind (arith, nat_tests, kept, row, is, small)
      | inr not_bound ↦ grind (arith, nat_tests, kept, not_bound)
    ]

-- what is given where the condition holds
pub some_where : (o : Option ℕ) (P : Type 0) (v : ℕ) → SomeIff o P v → P → o ≡ Some v
some_where None P v none p = absurd (none p)
some_where (Some x) P v is p = ap Some is.1
