-- What a list in blocks is to its users.
use Rattle.std.specs.Prelude.{ℕ, List}

-- its items in order, and how many there is room for
pub record BlockListValue (X : Type 0) : Type 0 where
  pub items : List X
  pub room : ℕ
