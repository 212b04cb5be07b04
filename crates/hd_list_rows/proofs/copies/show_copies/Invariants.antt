use Rattle.std.proofs.Common.{◌≡◌, ◌≤◌, None}
use Rattle.hd_desk.specs.Desks.{desk_of}
use Rattle.hd_list_rows.specs.Rows.{copies_on}
use Rattle.hd_list_rows.proofs.copies.show_copies.Given as goal

-- those that were gone over
abbrev pub invariant-loop-number : goal.invariant-loop-number
invariant-loop-number g l =
    (l.page ≡ record { rows = copies_on (desk_of l.desk) l.which l.first l.number; next = None })
    × (l.first ≤ l.number)
