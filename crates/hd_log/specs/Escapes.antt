-- Bytes as printable ASCII.
use Rattle.std.specs.Prelude.{ℕ, ◌+◌, ◌-◌, ◌*◌, ◌/◌, ◌%◌, ◌<◌, ◌≤◌, Bool, ◌&&◌, ◌||◌, not}
use Rattle.std.specs.Prelude.{List, [], ◌∷◌, if◌then◌else◌, ◌==◌, nat_lt, nat_le}
use Rattle.std.specs.List.{flat_map}

-- a byte that stands for itself: printable ASCII, and neither " nor \
abbrev pub is_plain : ℕ → Bool
is_plain b = nat_le 32 b && nat_lt b 127 && not (b == 34 || b == 92)

-- the last digit of a number in base 16
abbrev pub hex_digit : ℕ → ℕ
hex_digit n = if nat_lt (n % 16) 10 then 48 + n % 16 else 87 + n % 16

-- a byte: itself, or \xHH
unfoldable pub escape : ℕ → List ℕ
escape b = if is_plain b then b ∷ [] else 92 ∷ 120 ∷ hex_digit (b / 16) ∷ hex_digit b ∷ []

-- bytes, each by itself
abbrev pub escaped : List ℕ → List ℕ
escaped bytes = flat_map escape bytes

-- a printable character of ASCII, blanks with them
pub record IsPrintable (b : ℕ) : Type 0 where
  pub low : 32 ≤ b
  pub high : b < 127

-- the number of a digit in base 16
abbrev pub hex_value : ℕ → ℕ
hex_value c = if nat_lt c 58 then c - 48 else c - 87

-- What was written, read byte by byte: at 0 a byte or the \ of an escape comes, at 1 its x, at 2 its first
-- digit, and else its second, when the first was worth high.
abbrev pub unescaped_from : ℕ → ℕ → List ℕ → List ℕ
unescaped_from at high [] = []
unescaped_from at high (b ∷ rest) =
    if at == 0 then (if b == 92 then unescaped_from 1 0 rest else b ∷ unescaped_from 0 0 rest)
    else if at == 1 then unescaped_from 2 0 rest
    else if at == 2 then unescaped_from 3 (16 * hex_value b) rest
    else (high + hex_value b) ∷ unescaped_from 0 0 rest

-- the bytes that were written so
abbrev pub unescaped : List ℕ → List ℕ
unescaped text = unescaped_from 0 0 text
