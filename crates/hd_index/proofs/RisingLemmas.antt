-- Rising lists: what a search finds in them, and what edits keep.
use Rattle.std.proofs.Common.{◌≡◌, ℕ, zero, suc, ◌<◌, ◌≤◌, ◌==◌, Bool, true, false, not, nat_lt, List, []}
use Rattle.std.proofs.Common.{◌∷◌, ◌++◌, length, get_or}
use Rattle.std.proofs.Common.{drop, refl, ap, arith, inl, inr}
use Rattle.std.proofs.lemmas.Bool.{cases_Bool, cases_lt}
use Rattle.std.proofs.lemmas.Bool.Decides.{nat_tests}
use Rattle.std.proofs.lemmas.List.Elements.{All-from_recursion}
use Rattle.std.specs.List.{AllByRecursion, filter, remove}
use Rattle.hd_index.specs.Rising.{AreBelow, IsRising, above, without}

later_above : (n : ℕ) (ns : List ℕ) (i : ℕ) → AllByRecursion (λ m. n < m) ns → i < length ns
    → n < get_or ns i 0
later_above n ns i all l = All-from_recursion (λ m. n < m) ns all i 0 l

-- a rising list doesn't fall
pub no_fall : (ns : List ℕ) → IsRising ns → (i j : ℕ) → i ≤ j → j < length ns → get_or ns i 0 ≤ get_or ns j 0
no_fall [] up i j le l = absurd (omega arith)
no_fall (n ∷ ns) up zero zero le l = omega arith
no_fall (n ∷ ns) up zero (suc j) le l = omega (arith, later_above n ns j up.0 (omega arith))
no_fall (n ∷ ns) up (suc i) zero le l = absurd (omega arith)
no_fall (n ∷ ns) up (suc i) (suc j) le l = no_fall ns up.1 i j (omega arith) (omega arith)

-- what all numbers are, those that pass a test are
pub all_filter : (P : ℕ → Type 0) (p : ℕ → Bool) (ns : List ℕ) → AllByRecursion P ns
    → AllByRecursion P (filter p ns)
all_filter P p [] h = tt
all_filter P p (n ∷ ns) h = elim (cases_Bool (p n)) [
  | inl e ↦ rw e (h.0, all_filter P p ns h.1)
  | inr e ↦ rw e (all_filter P p ns h.1)
]

-- what a test leaves of a rising list rises
pub rising_filter : (p : ℕ → Bool) (ns : List ℕ) → IsRising ns → IsRising (filter p ns)
rising_filter p [] up = tt
rising_filter p (n ∷ ns) up = elim (cases_Bool (p n)) [
  | inl e ↦ rw e (all_filter (λ m. n < m) p ns up.0, rising_filter p ns up.1)
  | inr e ↦ rw e (rising_filter p ns up.1)
]

all_push : (P : ℕ → Type 0) (ns : List ℕ) (n : ℕ) → AllByRecursion P ns → P n
    → AllByRecursion P (ns ++ n ∷ [])
all_push P [] n all h = (h, tt)
all_push P (m ∷ ns) n all h = (all.0, all_push P ns n all.1 h)

-- so does a list behind which a greater number is put
pub rising_push : (ns : List ℕ) (n : ℕ) → IsRising ns → AreBelow n ns → IsRising (ns ++ n ∷ [])
rising_push [] n up below = (tt, tt)
rising_push (m ∷ ns) n up below = (all_push (λ k. m < k) ns n up.0 below.0, rising_push ns n up.1 below.1)

-- a test that all pass leaves the list
pub filter_all : (p : ℕ → Bool) (ns : List ℕ) → ((k : ℕ) → k < length ns → p (get_or ns k 0) ≡ true)
    → filter p ns ≡ ns
filter_all p [] h = refl
filter_all p (n ∷ ns) h =
    rw (h 0 (omega arith)) (ap (λ xs. n ∷ xs) (filter_all p ns (λ k l. h (suc k) (omega arith))))

-- one that those from a place on pass leaves these
pub filter_drop : (p : ℕ → Bool) (ns : List ℕ) (i : ℕ)
    → ((k : ℕ) → k < i → k < length ns → p (get_or ns k 0) ≡ false) →
    ((k : ℕ) → i ≤ k → k < length ns → p (get_or ns k 0) ≡ true) → filter p ns ≡ drop i ns
filter_drop p [] zero low high = refl
filter_drop p [] (suc i) low high = refl
filter_drop p (n ∷ ns) zero low high = filter_all p (n ∷ ns) (λ k l. high k (omega arith) l)
filter_drop p (n ∷ ns) (suc i) low high =
    rw (low 0 (omega arith) (omega arith))
    (filter_drop p ns i (λ k le l. low (suc k) (omega arith) (omega arith))
    (λ k le l. high (suc k) (omega arith) (omega arith)))

-- the list without a number that stands at a place
pub without_at : (n : ℕ) (ns : List ℕ) (i : ℕ) → IsRising ns → i < length ns → get_or ns i 0 ≡ n
    → without n ns ≡ remove ns i
without_at n [] i up l at = absurd (omega arith)
without_at n (m ∷ ns) zero up l at =
    let same : (m == n) ≡ true = grind (arith, nat_tests) in
    rw same (filter_all (λ k. not (k == n)) ns
    (λ k l. let more = later_above m ns k up.0 l in grind (arith, nat_tests)))
without_at n (m ∷ ns) (suc i) up l at =
    let more = later_above m ns i up.0 (omega arith) in
    let other : (m == n) ≡ false = grind (arith, nat_tests) in
    rw other (ap (λ xs. m ∷ xs) (without_at n ns i up.1 (omega arith) at))

-- and without one that isn't there
pub without_none : (n : ℕ) (ns : List ℕ) (i : ℕ) → ((k : ℕ) → k < i → get_or ns k 0 < n) →
    ((k : ℕ) → i ≤ k → k < length ns → n < get_or ns k 0) → without n ns ≡ ns
without_none n ns i low high = filter_all (λ k. not (k == n)) ns (λ k l. elim (cases_lt k i) [
  | inl less ↦ let below = low k less in grind (arith, nat_tests)
  | inr more ↦ let over = high k more l in grind (arith, nat_tests)
])

-- those above a number, where a search ended
pub above_from : (n : ℕ) (ns : List ℕ) (i : ℕ) → ((k : ℕ) → k < i → k < length ns → get_or ns k 0 ≤ n) →
    ((k : ℕ) → i ≤ k → k < length ns → n < get_or ns k 0) → above n ns ≡ drop i ns
above_from n ns i low high =
    filter_drop (λ m. nat_lt n m) ns i (λ k less l. let below = low k less l in grind (arith, nat_tests))
    (λ k more l. let over = high k more l in grind (arith, nat_tests))

later_at : (ns : List ℕ) → IsRising ns → (i k : ℕ) → i < k → k < length ns → get_or ns i 0 < get_or ns k 0
later_at [] up i k less l = absurd (omega arith)
later_at (n ∷ ns) up i zero less l = absurd (omega arith)
later_at (n ∷ ns) up zero (suc k) less l = later_above n ns k up.0 (omega arith)
later_at (n ∷ ns) up (suc i) (suc k) less l = later_at ns up.1 i k (omega arith) (omega arith)

-- and where it found the number
pub above_at : (n : ℕ) (ns : List ℕ) (i : ℕ) → IsRising ns → i < length ns → get_or ns i 0 ≡ n
    → above n ns ≡ drop (suc i) ns
above_at n ns i up l at =
    above_from n ns (suc i) (λ k less within. let fact = no_fall ns up k i (omega arith) l in omega arith)
    (λ k more within. let fact = later_at ns up i k (omega arith) within in omega arith)
