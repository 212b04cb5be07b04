-- How many copies of a title stand on open shelves.
use Rattle.std.specs.Prelude.{◌≡◌, ℕ, ◌+◌, ◌<◌, length, Bool, ◌==◌, ◌&&◌, if◌then◌else◌, IsSome, unwrap_or}
use Rattle.std.specs.Prelude.{slice_index}
use Rattle.std.specs.Map.{lookup}
use Rattle.hd_open_shelf.specs.declared.home.Home.{Home}
use Rattle.hd_open_shelf.specs.StockValue.{StockValue}

-- this title with this home
abbrev pub is_home : ℕ → ℕ → Home → Bool
is_home title branch home = (title == home.title) && (branch == home.branch)

-- how many copies of the title stand on open shelves
abbrev pub of_title : StockValue → ℕ → ℕ
of_title stock title = slice_index stock.titles title

-- how many of them have this home
abbrev pub of_home : StockValue → ℕ → ℕ → ℕ
of_home stock title branch = unwrap_or (lookup (is_home title branch) stock.homes) 0

-- the title has a count, and so have its copies with this home
pub record HasEntry (stock : StockValue) (title branch : ℕ) : Type 0 where
  pub of_title : title < length stock.titles
  pub of_home : IsSome (lookup (is_home title branch) stock.homes)

-- the one has one more copy of this title with this home than the other, and otherwise as many
pub record HasOneCopyMore (one other : StockValue) (title branch : ℕ) : Type 0 where
  pub titles : (t : ℕ) → of_title one t ≡ of_title other t + (if title == t then 1 else 0)
  pub homes : (t b : ℕ) → of_home one t b
      ≡ of_home other t b + (if (title == t) && (branch == b) then 1 else 0)

-- no count loses its place
pub record KeepsEntries (old new : StockValue) : Type 0 where
  pub titles : length new.titles ≡ length old.titles
  pub homes : (title branch : ℕ) → HasEntry old title branch → HasEntry new title branch
