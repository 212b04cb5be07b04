-- The first line of a file.
use Rattle.std.specs.Prelude.{ℕ, Bool, List, [], ◌∷◌, codes, drop, if◌then◌else◌, nat_eq}
use Rattle.std.specs.List.{starts_with}

-- the mark of UTF-8 that some programs put before the first line
abbrev pub mark : List ℕ
mark = 239 ∷ 187 ∷ 191 ∷ []

-- a first line without it
abbrev pub without_mark : List ℕ → List ℕ
without_mark line = if starts_with nat_eq line mark then drop 3 line else line

-- whether this is a first line at all
abbrev pub is_headed : List ℕ → Bool
is_headed line = starts_with nat_eq (without_mark line) (codes "H|")

-- whether titles have priorities in a file with this first line
abbrev pub has_priorities : List ℕ → Bool
has_priorities line = starts_with nat_eq (without_mark line) (codes "H|2|")
