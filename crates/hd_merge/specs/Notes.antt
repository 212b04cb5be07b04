-- Names that are noted, by kind and number.
use Rattle.std.specs.Prelude.{Bool, List}

-- for each kind whether the name of each number is noted
pub record Notes : Type 0 where
  pub branches : List Bool
  pub patrons : List Bool
  pub titles : List Bool
  pub copies : List Bool
