-- What a page is to its users.
use Rattle.std.specs.Prelude.{ℕ, Option, None, List, []}
use Rattle.hd_list_rows.specs.declared.row.Row.{Row}

-- the rows of a page, and where the next one begins, if there is one
pub record PageValue : Type 0 where
  pub rows : List Row
  pub next : Option ℕ

-- one without rows
abbrev pub no_page : PageValue
no_page = record { rows = []; next = None }
