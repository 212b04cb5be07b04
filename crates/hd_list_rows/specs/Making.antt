-- A page in the making.
use Rattle.std.specs.Prelude.{ℕ, ◌-◌, Option, option_map, List, ◌++◌, length, take, drop}
use Rattle.hd_rules.specs.Numbers.{PatronNo}
use Rattle.hd_rules.specs.Facts.{Facts}
use Rattle.hd_rules.specs.Desk.{Desk}
use Rattle.hd_holds.specs.declared.held_title.HeldTitle.{HeldTitle}
use Rattle.hd_list_rows.specs.declared.page.TheConstants.{MOST_ROWS}
use Rattle.hd_list_rows.specs.declared.row.Row.{Row}
use Rattle.hd_list_rows.specs.PageValue.{PageValue}
use Rattle.hd_list_rows.specs.Rows.{hold_row}

-- the page that it becomes, when of the rest of the list so many are passed over and the others are added as
-- far as there is room
abbrev pub with_rest : PageValue → ℕ → List Row → PageValue
with_rest page others rest =
    record page { rows = page.rows ++ take (MOST_ROWS - length page.rows) (drop others rest) }

-- the patron's hold of the title
abbrev pub held_row : Facts → Desk → PatronNo → HeldTitle → Option Row
held_row k d p held = option_map (hold_row k d held.title) (d.hold held.title p)
