-- What contracts see of the copies on open shelves.
use Rattle.std.specs.Prelude.{ℕ, List}
use Rattle.hd_open_shelf.specs.declared.home.Home.{Home}

-- the counts by title, and those by title and home
pub record StockValue : Type 0 where
  pub titles : List ℕ
  pub homes : List (Home × ℕ)
