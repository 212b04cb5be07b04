-- Values of a row by their places.
use Rattle.std.proofs.Common.{◌≡◌, ℕ, ◌+◌, ◌<◌, ◌≤◌, Bool, true, false, List, [], ◌∷◌, Some, None, length}
use Rattle.std.proofs.Common.{arith, nat_lt}
use Rattle.std.proofs.Common.{refl, ap, ◌∙◌, get_or, suc, zero}
use Rattle.std.proofs.Common.{map, ◌++◌}
use Rattle.std.specs.List.{filter, list_any, position}
use Rattle.std.specs.Str as Str
use Rattle.std.proofs.lemmas.List.{map-append}
use Rattle.std.proofs.lemmas.List.Elements.{filter-append}
use Rattle.hd_import.specs.Rows.{Row, has_value, rows_of}
use Rattle.std.proofs.lemmas.Bool.Decides.{nat_tests}
use Rattle.std.proofs.lemmas.List.Sums.{position_or_len_is}
use Rattle.std.specs.Prelude.{◌||◌}
use Rattle.csv.specs.Records.{field_at}
use borrow.Author.Count.{below_more}

or_true : (b : Bool) → (b || true) ≡ true
or_true true = refl
or_true false = refl

some-none : {A : Type 0} {x : A} → Some x ≡ None → ⊥
some-none e = cc e

-- none of the first values passes the test
abbrev pub NonePasses : (List ℕ → Bool) → List (List ℕ) → ℕ → Type 0
NonePasses test row n = (k : ℕ) → k < n → test (get_or row k []) ≡ false

-- nor does one more
pub none_more : (test : List ℕ → Bool) (row : List (List ℕ)) (n : ℕ) → NonePasses test row n
    → test (get_or row n []) ≡ false → NonePasses test row (n + 1)
none_more test row n none fails = below_more (λ k. test (get_or row k []) ≡ false) n none fails

-- no value past the end
pub nothing_past : (row : List (List ℕ)) (n : ℕ) → field_at row n ≡ None → get_or row n [] ≡ []
unfolding field_at
nothing_past [] n at = refl
nothing_past (x ∷ xs) zero at = absurd (some-none at)
nothing_past (x ∷ xs) (suc n) at = nothing_past xs n at

-- one value passes
pub any_at : (test : List ℕ → Bool) (row : List (List ℕ)) (n : ℕ) → n < length row
    → test (get_or row n []) ≡ true → list_any test row ≡ true
any_at test [] n l passes = absurd (omega (arith, l))
any_at test (x ∷ xs) zero l passes = rw passes refl
any_at test (x ∷ xs) (suc n) l passes =
    let rest : list_any test xs ≡ true = any_at test xs n (omega (arith, l)) passes in
    rw rest (or_true (test x))

-- none passes
none_in : (test : List ℕ → Bool) (row : List (List ℕ)) → NonePasses test row (length row)
    → list_any test row ≡ false
none_in test [] none = refl
none_in test (x ∷ xs) none =
    rw (none 0 (omega arith)) (none_in test xs (λ k l. none (suc k) (omega (arith, l))))

pub any_none : (test : List ℕ → Bool) (row : List (List ℕ)) (n : ℕ) → length row ≤ n → NonePasses test row n
    → list_any test row ≡ false
any_none test row n past none = none_in test row (λ k l. none k (omega (arith, l, past)))

-- the first that passes
pub first_at : (test : List ℕ → Bool) (row : List (List ℕ)) (n : ℕ) → n < length row → NonePasses test row n
    → test (get_or row n []) ≡ true → position test row ≡ Some n
first_at test row n l none passes =
    let is = position_or_len_is test row n [] (omega (arith, l)) none (λ _. passes) in
    let within : nat_lt n (length row) ≡ true = grind (arith, nat_tests, l) in
    rw (is, within) refl

pub no_first : (test : List ℕ → Bool) (row : List (List ℕ)) (n : ℕ) → length row ≤ n → NonePasses test row n
    → position test row ≡ None
no_first test row n bound none =
    let before : NonePasses test row (length row) = (λ k l. none k (omega (arith, l, bound))) in
    let is = position_or_len_is test row (length row) [] (omega arith) before
    (λ (l : length row < length row). absurd (omega (arith, l))) in
    let past : nat_lt (length row) (length row) ≡ false = grind (arith, nat_tests) in
    rw (is, past) refl

-- the rows of one record more
pub rows_more : (records : List Row) (record_read : Row) → rows_of (records ++ record_read ∷ [])
    ≡ rows_of records ++ filter has_value (map Str.trim record_read ∷ [])
rows_more records read =
    ap (filter has_value) (map-append (map Str.trim) records (read ∷ []))
    ∙ filter-append has_value (map (map Str.trim) records) (map Str.trim read ∷ [])
