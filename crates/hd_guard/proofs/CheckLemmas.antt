-- What is right for some bytes, and what four digits write.
use Rattle.std.proofs.Common.{◌≡◌, ℕ, ◌+◌, ◌*◌, ◌/◌, ◌%◌, ◌<◌, List, [], ◌∷◌, sym, ◌∙◌, arith}
use Rattle.std.specs.Char.{digit_value}
use Rattle.std.specs.Str.Parse.{AllDigits, digits_value}
use Rattle.std.proofs.lemmas.Grind.{common_steps}
use Rattle.hd_guard.specs.Check.{IsRight, check_number, four_hex_digits, upper_digit}

-- the two's complement is right
pub complement_is_right : (bytes : List ℕ) → IsRight bytes (check_number bytes)
complement_is_right bytes = omega arith

-- a digit has its number as its value
pub value_of_upper : (n : ℕ) → n < 16 → digit_value (upper_digit n) ≡ n
value_of_upper n h = grind (arith, common_steps)

small_upper : (n : ℕ) → n < 16 → digit_value (upper_digit n) < 16
small_upper n h = rw (value_of_upper n h) h

-- what four digits write, by their values
by_values : (a b c d w x y z : ℕ) → digit_value a ≡ w → digit_value b ≡ x → digit_value c ≡ y
    → digit_value d ≡ z →
    digits_value 16 (a ∷ b ∷ c ∷ d ∷ []) ≡ ((w * 16 + x) * 16 + y) * 16 + z
by_values a b c d w x y z ha hb hc hd = rw (ha, hb, hc, hd) (omega arith)

-- four digits write their number
pub four_write : (n : ℕ) → n < 65536 → n ≡ digits_value 16 (four_hex_digits n)
four_write n h =
    let high : n / 4096 < 16 = omega arith in
    let written =
    by_values (upper_digit (n / 4096)) (upper_digit (n / 256 % 16)) (upper_digit (n / 16 % 16))
    (upper_digit (n % 16)) (n / 4096)
    (n / 256 % 16) (n / 16 % 16) (n % 16) (value_of_upper (n / 4096) high)
    (value_of_upper (n / 256 % 16) (omega arith))
    (value_of_upper (n / 16 % 16) (omega arith)) (value_of_upper (n % 16) (omega arith)) in
    let number : n ≡ ((n / 4096 * 16 + n / 256 % 16) * 16 + n / 16 % 16) * 16 + n % 16 = omega arith in
    number ∙ sym written

-- each of the four is a digit
pub four_are_digits : (n : ℕ) → n < 65536 → AllDigits 16 (four_hex_digits n)
four_are_digits n h = (
  small_upper (n / 4096) (omega arith),
  (
    small_upper (n / 256 % 16) (omega arith),
    (small_upper (n / 16 % 16) (omega arith), (small_upper (n % 16) (omega arith), tt)),
  ),
)
