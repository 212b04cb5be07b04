-- Numbers in decimal digits.
use Rattle.std.proofs.Common.{◌≡◌, ℕ, ◌+◌, ◌-◌, ◌*◌, ◌<◌, ◌≤◌, ◌^◌, zero, suc, Bool, true, false, length}
use Rattle.std.proofs.Common.{fold, decimal, Some, refl, ap}
use Rattle.std.proofs.Common.{arith, lit<, slice_index}
use Rattle.std.specs.Prelude.{nat_le, nat_lt, not, ◌&&◌, ◌||◌, ◌==◌}
use Rattle.std.specs.List.{list_all}
use Rattle.std.specs.Int.{IsInRange}
use Rattle.std.proofs.lemmas.Bool.{and_parts}
use Rattle.std.proofs.lemmas.Bool.Decides.{nat_tests}
use Rattle.std.proofs.lemmas.Str.Parse.{FoldsDigits, IsDigitsTest, IsNumeralModel, numerals_by_fold}
use Rattle.std.proofs.lemmas.Fmt.{decimal_digit, decimal_nonempty, digits_decimal, digits_value-decimal}
use Rattle.std.proofs.lemmas.Fmt.{first_decimal, length-decimal-le}
use Rattle.hd_catalogue.specs.Text.{is_digit, number_to, number_written}

pub digit_in : (c : ℕ) → is_digit c ≡ true → IsInRange 48 57 c
digit_in c h = (grind (arith, nat_tests, h), grind (arith, nat_tests, h))

pub digit_of : (c : ℕ) → IsInRange 48 57 c → is_digit c ≡ true
digit_of c h = grind (arith, nat_tests, h.0, h.1)

tells_digits : IsDigitsTest (λ ds. list_all is_digit ds ≡ true)
tells_digits = record {
  empty = refl;
  parts = λ c cs h. (digit_in c (and_parts (is_digit c) _ h).0, (and_parts (is_digit c) _ h).1);
  more = λ c cs h g. rw (digit_of c h) g;
}

folds_digits : FoldsDigits (λ n ds. fold (λ m d. 10 * m + (d - 48)) n ds)
folds_digits = record {
  empty = λ n. refl;
  more = λ n c cs h. ap (λ m. fold (λ m d. 10 * m + (d - 48)) (m + (c - 48)) cs) (omega arith);
}

own : IsNumeralModel (λ ds. list_all is_digit ds ≡ true) number_written
own = numerals_by_fold (λ ds. list_all is_digit ds ≡ true) tells_digits
    (λ n ds. fold (λ m d. 10 * m + (d - 48)) n ds) folds_digits

-- a number below a billion is written in digits
pub digits_are : (n : ℕ) → n ≤ 999_999_999 → list_all is_digit (decimal n) ≡ true
digits_are n h = digits_decimal own n (omega (arith, h))

pub digits_few : (n : ℕ) → n ≤ 999_999_999 → length (decimal n) ≤ 9
digits_few n h = length-decimal-le 9 n (lit< tt) (omega (arith, h)) (omega (arith, h))

no_nought : (n : ℕ) → n ≤ 999_999_999
    → ((length (decimal n) == 1) || not (slice_index (decimal n) 0 == 48)) ≡ true
no_nought zero h = rw (decimal_digit 0 (omega arith)) refl
no_nought (suc n) h =
    let first : 48 < slice_index (decimal (suc n)) 0 =
    first_decimal (suc n) (omega arith) (omega (arith, h)) in
    grind (arith, nat_tests, first)

-- and read again
pub number_read : (most n : ℕ) → n ≤ most → most ≤ 999_999_999 → number_to most (decimal n) ≡ Some n
number_read most n h few =
    let small : n ≤ 999_999_999 = omega (arith, h, few) in
    let wide : n < 2 ^ 64 = omega (arith, small) in
    let digits = digits_are n small in
    let some : nat_lt 0 (length (decimal n)) ≡ true = grind (arith, nat_tests, decimal_nonempty n wide) in
    let nine : nat_le (length (decimal n)) 9 ≡ true = grind (arith, nat_tests, digits_few n small) in
    let value : number_written (decimal n) ≡ n = digits_value-decimal own n wide in
    let most : nat_le n most ≡ true = grind (arith, nat_tests, h) in
    rw (digits, some, nine, no_nought n small, value, most) refl
