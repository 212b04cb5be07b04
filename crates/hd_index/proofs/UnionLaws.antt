-- What a union is, whatever the lists.
use Rattle.std.proofs.Common.{◌≡◌, ℕ, ◌<◌, ◌==◌, nat_lt, ◌||◌, Bool, true, false, inl, inr, List, [], ◌∷◌}
use Rattle.std.proofs.Common.{map, refl, ap, ◌∙◌, arith}
use Rattle.std.proofs.lemmas.Bool.{cases_Bool}
use Rattle.std.proofs.lemmas.Bool.Decides.{nat_tests}
use Rattle.std.specs.List.{filter, list_any}
use Rattle.hd_index.specs.Rising.{IsRising, above}
use Rattle.hd_index.specs.Union.{UnionsAboveAreFilters, UnionsAreFilters, has, put_in_place, union}
use Rattle.hd_index.specs.Union.{union_with}
use Rattle.hd_index.proofs.RisingLemmas.{all_filter, rising_filter}
use Rattle.hd_index.proofs.UnionLemmas.{front, joined_above, union_front, weaker}

two_filters : (p q : ℕ → Bool) (ns : List ℕ) → IsRising ns →
    union_with (filter p ns) (filter q ns) ≡ filter (λ n. p n || q n) ns
two_filters p q [] up = refl
two_filters p q (n ∷ ns) up =
    union_front (p n) (q n) n (filter p ns) (filter q ns) (all_filter (λ m. n < m) p ns up.0)
    (all_filter (λ m. n < m) q ns up.0)
    ∙ ap (front (p n || q n) n) (two_filters p q ns up.1)

filter_none : (ns : List ℕ) → [] ≡ filter (λ _. false) ns
filter_none [] = refl
filter_none (n ∷ ns) = filter_none ns

-- the union of parts is what passes one of the tests
pub are_filters : UnionsAreFilters
are_filters ns [] up = filter_none ns
are_filters ns (test ∷ tests) up =
    ap (union_with (filter test ns)) (are_filters ns tests up)
    ∙ two_filters test (λ n. list_any (λ t. t n) tests) ns up

swapped_tests : (p q : ℕ → Bool) (ns : List ℕ) → filter p (filter q ns) ≡ filter q (filter p ns)
swapped_tests p q [] = refl
swapped_tests p q (n ∷ ns) = elim (cases_Bool (p n)) [
  | inl e ↦ elim (cases_Bool (q n)) [
    | inl f ↦ rw (e, f, e) (ap (λ ms. n ∷ ms) (swapped_tests p q ns))
    | inr f ↦ rw (e, f) (swapped_tests p q ns)
  ]
  | inr e ↦ elim (cases_Bool (q n)) [
    | inl f ↦ rw (e, f, e) (swapped_tests p q ns)
    | inr f ↦ rw (e, f) (swapped_tests p q ns)
  ]
]

parts_above : (n : ℕ) (ns : List ℕ) (tests : List (ℕ → Bool)) →
    map (λ test. above n (filter test ns)) tests ≡ map (λ test. filter test (above n ns)) tests
parts_above n ns [] = refl
parts_above n ns (test ∷ tests) =
    ap (λ part. part ∷ map (λ t. above n (filter t ns)) tests) (swapped_tests (λ m. nat_lt n m) test ns)
    ∙ ap (λ parts. filter test (above n ns) ∷ parts) (parts_above n ns tests)

-- the same above a number
pub are_filters_above : UnionsAboveAreFilters
are_filters_above n ns tests up =
    ap union (parts_above n ns tests) ∙ are_filters (above n ns) tests (rising_filter (λ m. nat_lt n m) ns up)

joined_rising : (n : ℕ) (ms : List ℕ) → IsRising ms → IsRising (put_in_place n ms)
joined_rising n [] up = (tt, tt)
joined_rising n (m ∷ ms) up = elim (cases_Bool (nat_lt n m)) [
  | inl e ↦
      let less : n < m = grind (arith, nat_tests) in
      rw e ((less, weaker n m ms (omega arith) up.0), up)
  | inr e ↦ elim (cases_Bool (n == m)) [
    | inl f ↦ rw (e, f) up
    | inr f ↦
        let less : m < n = grind (arith, nat_tests) in
        rw (e, f) (joined_above m n ms less up.0, joined_rising n ms up.1)
  ]
]

with_rising : (ns ms : List ℕ) → IsRising ms → IsRising (union_with ns ms)
with_rising [] ms up = up
with_rising (n ∷ ns) ms up = joined_rising n (union_with ns ms) (with_rising ns ms up)

-- a union rises
pub rises : (lists : List (List ℕ)) → IsRising (union lists)
rises [] = tt
rises (ns ∷ lists) = with_rising ns (union lists) (rises lists)

twice : (a b : Bool) → (a || b) ≡ (a || (a || b))
twice false b = refl
twice true b = refl

swapped : (a b c : Bool) → (a || (b || c)) ≡ (b || (a || c))
swapped false b c = refl
swapped true false c = refl
swapped true true c = refl

grouped : (a b c : Bool) → (a || (b || c)) ≡ ((a || b) || c)
grouped false b c = refl
grouped true b c = refl

joined_has : (n k : ℕ) (ms : List ℕ) → has n (put_in_place k ms) ≡ ((k == n) || has n ms)
joined_has n k [] = refl
joined_has n k (m ∷ ms) = elim (cases_Bool (nat_lt k m)) [
  | inl e ↦ rw e
  | inr e ↦ elim (cases_Bool (k == m)) [
    | inl f ↦
        let same : k ≡ m = grind (arith, nat_tests) in
        rw (e, f, same) (twice (m == n) (has n ms))
    | inr f ↦ rw (e, f) (ap (λ b. (m == n) || b) (joined_has n k ms) ∙ swapped (m == n) (k == n) (has n ms))
  ]
]

with_has : (n : ℕ) (ns ms : List ℕ) → has n (union_with ns ms) ≡ (has n ns || has n ms)
with_has n [] ms = refl
with_has n (k ∷ ns) ms =
    joined_has n k (union_with ns ms) ∙ ap (λ b. (k == n) || b) (with_has n ns ms)
    ∙ grouped (k == n) (has n ns) (has n ms)

-- and has the numbers of its lists
pub union_has : (lists : List (List ℕ)) (n : ℕ) → has n (union lists) ≡ list_any (has n) lists
union_has [] n = refl
union_has (ns ∷ lists) n = with_has n ns (union lists) ∙ ap (λ b. has n ns || b) (union_has lists n)
