-- What the index of records is to its users.
use Rattle.std.specs.Prelude.{List}
use Rattle.hd_index.specs.RowValue.{RowValue}

-- the numbers of records, listed by title, by patron and by branch
pub record IndexValue : Type 0 where
  pub titles : List RowValue
  pub patrons : List RowValue
  pub branches : List RowValue
