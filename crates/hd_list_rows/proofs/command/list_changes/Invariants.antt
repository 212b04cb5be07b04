use Rattle.std.proofs.Common.{◌≡◌, ◌+◌, ◌*◌, ◌≤◌, ◌++◌, drop, length}
use Rattle.hd_list_rows.specs.Rows.{change_rows}
use Rattle.hd_list_rows.proofs.command.list_changes.Given as goal

-- what was listed, and the changes that are left
abbrev pub invariant-loop-change : goal.invariant-loop-change
invariant-loop-change l =
    (record l.page { rows = l.page.rows ++ change_rows (drop l.change-index l.changes) }
    ≡ record l.fn.page { rows = l.fn.page.rows ++ change_rows l.changes })
    × (length l.page.rows + 2 * length (drop l.change-index l.changes) ≤ 512)
