-- What one list of places is to its users.
use Rattle.std.specs.Prelude.{ℕ, List}

-- its places, and how many more it has room for
pub record RowValue : Type 0 where
  pub places : List ℕ
  pub room : ℕ
