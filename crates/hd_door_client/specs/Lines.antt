-- Lines of texts.
use Rattle.std.specs.Prelude.{◌≡◌, ℕ, Bool, ◌&&◌, ◌==◌, nat_le, List, [], ◌∷◌, Option, Some, None}
use Rattle.std.specs.Prelude.{drop, if◌then◌else◌, length}
use Rattle.std.specs.List.{find, slice_split, starts_with}
use Rattle.hd_door_client.specs.Answers.{IsNoNumber, IsNumberOf}

-- a byte that can be shown: printable ASCII
abbrev pub is_shown : ℕ → Bool
is_shown byte = nat_le 32 byte && nat_le byte 126

-- the first line of a text, without what can't be shown
abbrev pub first_line : List ℕ → List ℕ
first_line [] = []
first_line (byte ∷ bytes) =
    if byte == 10 then []
    else if is_shown byte then byte ∷ first_line bytes
    else first_line bytes

-- the lines of a text, which line feeds (10) part
abbrev pub lines : List ℕ → List (List ℕ)
lines text = slice_split (λ byte. byte == 10) text

-- the first line of a text that begins with a name
abbrev pub line_with : List ℕ → List ℕ → Option (List ℕ)
line_with name text = find (λ line. starts_with ◌==◌ line name) (lines text)

-- the number that stands behind a name on this line, if there is one
abbrev pub IsNumberBehind : List ℕ → Option (List ℕ) → Option ℕ → Type 0
IsNumberBehind name None number = number ≡ None
IsNumberBehind name (Some line) (Some number) = IsNumberOf (drop (length name) line) number
IsNumberBehind name (Some line) None = IsNoNumber (drop (length name) line)
