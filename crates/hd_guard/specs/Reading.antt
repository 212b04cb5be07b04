-- What a line is by its trailer.
use Rattle.std.specs.Prelude.{◌≡◌, ℕ, ◌+◌, ◌-◌, ◌%◌, ◌&&◌, ◌==◌, List, Option, None, Some, codes, drop}
use Rattle.std.specs.Prelude.{length, nat_eq, nat_lt, not, slice_index, sum, take, if◌then◌else◌}
use Rattle.std.specs.Char.{digit_value, is_ascii_digit}
use Rattle.std.specs.List.{ends_with, list_all}
use Rattle.std.specs.Str.Parse.{digits_value}
use Rattle.hd_guard.specs.Trailer.{IsChecked, IsPlain, IsWrong}

-- A line is plain, with itself as its body, or checked, with its body and its digit, or wrong.
pub data Reading : Type 0 where
  PlainLine : (body : List ℕ) → Reading
  CheckedLine : (body : List ℕ) (seq : Option ℕ) → Reading
  WrongLine : Reading

-- the reading holds of the line
abbrev pub IsGuarded : List ℕ → Reading → Type 0
IsGuarded line (PlainLine body) = (body ≡ line) × IsPlain line
IsGuarded line (CheckedLine body seq) = IsChecked line body seq
IsGuarded line WrongLine = IsWrong line

-- the body and the digit of the text before a check number, as a function that computes
abbrev pub read_before : List ℕ → Reading
read_before before =
    let end = length before - 3 in
    let digit = slice_index before (end + 2) in
    if ends_with nat_eq (take (end + 2) before) (codes "AY") && is_ascii_digit digit
    then CheckedLine (take end before) (Some (digit - 48))
    else CheckedLine before None

-- the reading of a line, as a function that computes
abbrev pub read_line : List ℕ → Reading
read_line line =
    let summed = take (length line - 4) line in
    let digits = drop (length line - 4) line in
    if not (ends_with nat_eq summed (codes "AZ") && list_all (λ c. nat_lt (digit_value c) 16) digits)
    then PlainLine line
    else if (sum summed + digits_value 16 digits) % 65536 == 0
    then read_before (take (length summed - 2) summed)
    else WrongLine
