-- The texts of a catalogue file: values, names and numbers.
use Rattle.std.specs.Prelude.{ℕ, ◌+◌, ◌-◌, ◌*◌, Bool, not, ◌&&◌, ◌||◌, ◌==◌, nat_lt, nat_le, if◌then◌else◌}
use Rattle.std.specs.Prelude.{Option, None, Some, List, [], ◌∷◌, codes, length, drop, fold, slice_index, ℤ}
use Rattle.std.specs.Prelude.{pos, neg_ℤ}
use Rattle.std.specs.List.{slice_split, list_all}
use Rattle.std.specs.Str.{bytes_eq}
use Rattle.hd_rules.specs.declared.limits.TheConstants.{MOST_COMMANDS}

-- the values of a line, which bars separate
abbrev pub values_of : List ℕ → List (List ℕ)
values_of line = slice_split (λ byte. byte == 124) line

-- a line longer than 1,024 bytes, its end not counted
abbrev pub is_long : List ℕ → Bool
is_long line = nat_lt 1024 (length line)

-- just so many values
abbrev pub as_one : List (List ℕ) → Option (List ℕ)
as_one (a ∷ []) = Some a
as_one _ = None

abbrev pub as_two : List (List ℕ) → Option (List ℕ × List ℕ)
as_two (a ∷ b ∷ []) = Some (a, b)
as_two _ = None

abbrev pub as_three : List (List ℕ) → Option (List ℕ × List ℕ × List ℕ)
as_three (a ∷ b ∷ c ∷ []) = Some (a, b, c)
as_three _ = None

abbrev pub as_four : List (List ℕ) → Option (List ℕ × List ℕ × List ℕ × List ℕ)
as_four (a ∷ b ∷ c ∷ d ∷ []) = Some (a, b, c, d)
as_four _ = None

-- a byte of a name: printable ASCII but the bar, or above 127
abbrev pub is_name_byte : ℕ → Bool
is_name_byte byte = (nat_le 32 byte && nat_le byte 126 && not (byte == 124)) || nat_le 128 byte

-- a name: 1 to 60 of these
abbrev pub is_name : List ℕ → Bool
is_name bytes = nat_lt 0 (length bytes) && nat_le (length bytes) 60 && list_all is_name_byte bytes

abbrev pub is_digit : ℕ → Bool
is_digit byte = nat_le 48 byte && nat_le byte 57

-- the number that decimal digits write
abbrev pub number_written : List ℕ → ℕ
number_written digits = fold (λ n digit. 10 * n + (digit - 48)) 0 digits

-- one to nine digits without a leading zero
abbrev pub is_decimal : List ℕ → Bool
is_decimal digits =
    (list_all is_digit digits && nat_lt 0 (length digits))
    && (nat_le (length digits) 9 && ((length digits == 1) || not (slice_index digits 0 == 48)))

abbrev pub number_of_digits : List ℕ → Option ℕ
number_of_digits digits = if is_decimal digits then Some (number_written digits) else None

-- a number from 0 to a limit
abbrev pub is_number_to : ℕ → List ℕ → Bool
is_number_to most digits = is_decimal digits && nat_le (number_written digits) most

abbrev pub number_to : ℕ → List ℕ → Option ℕ
number_to most digits = if is_number_to most digits then Some (number_written digits) else None

-- minutes from -1,439 to 1,439, a minus only before a number other than 0
unfoldable pub is_offset : List ℕ → Bool
is_offset bytes =
    if slice_index bytes 0 == 45
    then is_number_to 1439 (drop 1 bytes) && not (number_written (drop 1 bytes) == 0)
    else is_number_to 1439 bytes

unfoldable pub offset_of : List ℕ → ℤ
offset_of bytes =
    if slice_index bytes 0 == 45
    then neg_ℤ (pos (number_written (drop 1 bytes)))
    else pos (number_written bytes)

abbrev pub offset_to : List ℕ → Option ℤ
offset_to bytes = if is_offset bytes then Some (offset_of bytes) else None

-- a limit of commands: 1 to the greatest
unfoldable pub is_command_limit : List ℕ → Bool
is_command_limit bytes = is_number_to MOST_COMMANDS bytes && not (number_written bytes == 0)

abbrev pub command_limit_to : List ℕ → Option ℕ
command_limit_to bytes = if is_command_limit bytes then Some (number_written bytes) else None

-- a priority: L for local, N for none
abbrev pub says_local : List ℕ → Bool
says_local value = bytes_eq value (codes "L")

abbrev pub is_priority : List ℕ → Bool
is_priority value = says_local value || bytes_eq value (codes "N")

-- whether a value is just this letter
abbrev pub is_letter : ℕ → List ℕ → Bool
is_letter letter value = bytes_eq value (letter ∷ [])
