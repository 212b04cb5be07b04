-- Values that a catalogue takes, and that may be mistakes.
use Rattle.std.specs.Prelude.{ℕ, ◌+◌, ◌-◌, Bool, not, ◌&&◌, ◌||◌, ◌==◌, nat_le, List, [], ◌∷◌, ◌++◌}
use Rattle.std.specs.Prelude.{if◌then◌else◌, length, slice_index}
use Rattle.std.specs.List.{list_any}
use Rattle.std.specs.Str.{is_utf8}
use Rattle.hd_catalogue.specs.Text.{values_of}

-- the first byte is this one, or the last one is
abbrev pub begins_with : ℕ → List ℕ → Bool
begins_with byte value = nat_le 1 (length value) && (slice_index value 0 == byte)

abbrev pub ends_with : ℕ → List ℕ → Bool
ends_with byte value = nat_le 1 (length value) && (slice_index value (length value - 1) == byte)

-- in quotes
abbrev pub is_quoted : List ℕ → Bool
is_quoted value = nat_le 2 (length value) && begins_with 34 value && ends_with 34 value

-- not UTF-8, in quotes, or with a blank before or behind it
abbrev pub is_odd : List ℕ → Bool
is_odd value = not (is_utf8 value) || is_quoted value || begins_with 32 value || ends_with 32 value

abbrev pub has_odd : List ℕ → Bool
has_odd line = list_any is_odd (values_of line)

-- the numbers of the lines with such a value, the first line having this one
abbrev pub odd_lines : ℕ → List (List ℕ) → List ℕ
odd_lines number [] = []
odd_lines number (line ∷ more) =
    (if has_odd line then number ∷ [] else []) ++ odd_lines (number + 1) more
