-- What lists of held titles are to their users.
use Rattle.std.specs.Prelude.{ℕ, ◌%◌, ◌↔◌, List, [], Option, length, slice_index_or}
use Rattle.std.specs.List.{Contains}
use Rattle.hd_rules.specs.declared.holds.Hold.{Hold}
use Rattle.hd_holds.specs.declared.held_title.HeldTitle.{HeldTitle}
use Rattle.hd_holds.specs.HeldTitles.{IsHeld}

-- the held titles of one list, and how many more it has room for
pub record HeldListValue : Type 0 where
  pub titles : List HeldTitle
  pub room : ℕ

-- all lists, and how many more each has room for, at least
pub record HeldListsValue : Type 0 where
  pub lists : List (List HeldTitle)
  pub room : ℕ

-- the list that a patron's held titles stand in
abbrev pub list_of : HeldListsValue → ℕ → List HeldTitle
list_of v patron = slice_index_or v.lists (patron % length v.lists) []

-- it stands in its patron's list
abbrev pub IsListed : HeldListsValue → HeldTitle → Type 0
IsListed v held = Contains (list_of v held.patron) held

-- just what is held is listed
abbrev pub AreListed : HeldListsValue → (ℕ → ℕ → Option Hold) → Type 0
AreListed v holds = (held : HeldTitle) → IsListed v held ↔ IsHeld holds held
