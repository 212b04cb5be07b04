use Rattle.std.proofs.Common.{◌≡◌, ◌++◌, List, drop, filter_map}
use Rattle.hd_desk.specs.Desks.{desk_of, facts}
use Rattle.hd_list_rows.specs.declared.row.Row.{Row}
use Rattle.hd_list_rows.specs.Making.{held_row, with_rest}
use Rattle.hd_list_rows.proofs.patron.list_holds.Given as goal

-- what the page will have, with what is left
abbrev pub invariant-loop-of : goal.invariant-loop-of
invariant-loop-of g l =
    (rest : List Row) → with_rest l.page l.others
    (filter_map (held_row (facts l.desk) (desk_of l.desk) l.patron) (drop l.of-index l.held) ++ rest)
    ≡ with_rest l.fn.page l.fn.others
    (filter_map (held_row (facts l.desk) (desk_of l.desk) l.patron) l.held ++ rest)
