-- The new numbers of names, in tables.
use Rattle.std.specs.Prelude.{ℕ, ◌≡◌, ◌<◌, Option, None, Some, List, slice_index_or, length}
use Rattle.hd_catalogue.specs.Names.{name_at, number_of}
use Rattle.hd_rules.specs.Facts.{Facts}
use Rattle.hd_rules.specs.Carry.{Renumbering}

-- a table for each kind of name: at each old number the new one, if there is one
pub record NumberTables : Type 0 where
  pub branches : List (Option ℕ)
  pub titles : List (Option ℕ)
  pub copies : List (Option ℕ)
  pub patrons : List (Option ℕ)

-- what a table has at a number, and past its end nothing
abbrev pub in_table : List (Option ℕ) → ℕ → Option ℕ
in_table table number = slice_index_or table number None

-- a table of so many numbers
pub record IsTable (to : ℕ → Option ℕ) (many : ℕ) (table : List (Option ℕ)) : Type 0 where
  pub count : length table ≡ many
  pub each : (number : ℕ) → number < many → in_table table number ≡ to number

-- the renumbering that the tables are
unfoldable pub renumbering : NumberTables → Renumbering
renumbering tables = record {
  branch = in_table tables.branches;
  title = in_table tables.titles;
  copy = in_table tables.copies;
  patron = in_table tables.patrons;
}

-- each new number of a copy is one of the catalogue
abbrev pub AreCopiesOf : Facts → Renumbering → Type 0
AreCopiesOf j r = (c x : ℕ) → r.copy c ≡ Some x → x < j.copies

-- the name with this number is found again, at it
abbrev pub IsFoundAgain : {F : Type 0} → List (List ℕ × F) → ℕ → Type 0
IsFoundAgain names number =
    (name : List ℕ) → name_at names number ≡ Some name → number_of names name ≡ Some number
