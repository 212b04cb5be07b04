-- A shelf with no free place among the first n holds n copies, so n is at most their number.
use Rattle.std.proofs.Common.{◌≡◌, ◌≢◌, ℕ, zero, suc, ◌+◌, ◌<◌, ◌≤◌, true, false, List, [], Option, None}
use Rattle.std.proofs.Common.{Some, refl, arith, ◌∙◌, length}
use Rattle.std.proofs.lemmas.Bool.Decides.{nat_tests}
use Rattle.std.proofs.lemmas.Map.Steps.{length-le_from_distinct_below}
use Rattle.std.specs.List.{IsDistinct, AllByRecursion, list_any, cons_option}
use Rattle.std.specs.Prelude.{IsSome}
use Rattle.std.specs.Ordering.{nat_cmp}
use Rattle.std.specs.FinMap.{FinMap, get}
use Rattle.std.proofs.Math.Dec.{eqb}
use Rattle.hd_rules.specs.declared.limits.TheConstants.{MOST_COPIES}
use Rattle.hd_shelf.specs.Shelf.{IsShelf}

-- the copies at the places from n down to 1
abbrev copies_to : FinMap nat_cmp ℕ → ℕ → List ℕ
copies_to m zero = []
copies_to m (suc n) = cons_option (get m (suc n)) (copies_to m n)

-- a taken place adds one copy
length-step : (o : Option ℕ) (cs : List ℕ) → IsSome o → length (cons_option o cs) ≡ length cs + 1
length-step None cs h = absurd (cc h)
length-step (Some c) cs h = grind arith

-- where all places are taken, there are as many copies
length-copies_to : (m : FinMap nat_cmp ℕ) (n : ℕ) → ((p : ℕ) → 1 ≤ p → p < n + 1 → IsSome (get m p))
    → length (copies_to m n) ≡ n
length-copies_to m zero h = refl
length-copies_to m (suc n) h =
    length-step (get m (suc n)) (copies_to m n) (h (suc n) (omega arith) (omega arith))
    ∙ omega (arith, length-copies_to m n (λ p one l. h p one (omega arith)))

step_other : (o : Option ℕ) (cs : List ℕ) (c : ℕ) → o ≢ Some c → AllByRecursion (λ y. eqb c y ≡ false) cs →
    AllByRecursion (λ y. eqb c y ≡ false) (cons_option o cs)
step_other None cs c ne a = a
step_other (Some x) cs c ne a = (grind (arith, nat_tests), a)

others : (m : FinMap nat_cmp ℕ) (n c : ℕ) → ((p : ℕ) → p ≤ n → get m p ≢ Some c)
    → AllByRecursion (λ y. eqb c y ≡ false) (copies_to m n)
others m zero c h = tt
others m (suc n) c h = step_other (get m (suc n)) (copies_to m n) c (h (suc n) (omega arith))
    (others m n c (λ p l. h p (omega arith)))

step_distinct : (o : Option ℕ) (cs : List ℕ)
    → ((c : ℕ) → o ≡ Some c → AllByRecursion (λ y. eqb c y ≡ false) cs) → IsDistinct eqb cs
    → IsDistinct eqb (cons_option o cs)
unfolding IsDistinct
step_distinct None cs h d = d
step_distinct (Some x) cs h d = (h x refl, d)

-- they are distinct
distinct : (m : FinMap nat_cmp ℕ) (n : ℕ) → IsShelf m → IsDistinct eqb (copies_to m n)
unfolding IsDistinct
distinct m zero s = tt
distinct m (suc n) s =
    step_distinct (get m (suc n)) (copies_to m n)
    (λ c e. others m n c (λ p l f. let same : p ≡ suc n = s.apart p (suc n) c f e in omega arith))
    (distinct m n s)

step_known : (o : Option ℕ) (cs : List ℕ) (q : ℕ) → ((c : ℕ) → o ≡ Some c → c < MOST_COPIES)
    → (list_any (eqb q) cs ≡ true → q < MOST_COPIES) → list_any (eqb q) (cons_option o cs) ≡ true
    → q < MOST_COPIES
step_known None cs q h k e = k e
step_known (Some x) cs q h k e = grind (arith, nat_tests, h x refl)

-- and below the limit of copies
known : (m : FinMap nat_cmp ℕ) (n : ℕ) → IsShelf m → (q : ℕ) → list_any (eqb q) (copies_to m n) ≡ true
    → q < MOST_COPIES
known m zero s q e = grind arith
known m (suc n) s q e =
    step_known (get m (suc n)) (copies_to m n) q (λ c f. s.known (suc n) c f) (known m n s q) e

-- so there are no more such places than copies
pub taken_places : (m : FinMap nat_cmp ℕ) (n : ℕ) → IsShelf m
    → ((p : ℕ) → 1 ≤ p → p < n + 1 → IsSome (get m p)) → n ≤ MOST_COPIES
taken_places m n s h =
    rw (← length-copies_to m n h)
    (length-le_from_distinct_below (copies_to m n) MOST_COPIES (distinct m n s) (known m n s))

pub taken_below : (m : FinMap nat_cmp ℕ) (n : ℕ) → IsShelf m → ((p : ℕ) → 1 ≤ p → p < n → IsSome (get m p))
    → n ≤ MOST_COPIES + 1
taken_below m zero s h = omega arith
taken_below m (suc n) s h = omega (arith, taken_places m n s (λ p one l. h p one (omega arith)))
