use Rattle.std.proofs.Common.{◌≡◌, ℕ, ◌<◌, ◌++◌, All, List, map}
use Rattle.hd_desk.specs.Desks.{desk_of, facts}
use Rattle.hd_list_rows.specs.declared.row.Row.{Row}
use Rattle.hd_list_rows.specs.Making.{with_rest}
use Rattle.hd_list_rows.specs.Rows.{copy_row}
use Rattle.hd_list_rows.proofs.patron.list_loans.Given as goal

-- what the page will have, with what is left
abbrev pub invariant-loop-copy : goal.invariant-loop-copy
invariant-loop-copy g l =
    ((rest : List Row) → with_rest l.page l.others (map (copy_row (desk_of l.desk)) l.copy-iterator ++ rest)
    ≡ with_rest l.fn.page l.fn.others (map (copy_row (desk_of l.desk)) l.fn.copies ++ rest))
    × All (λ (copy : ℕ). copy < (facts l.desk).copies) l.copy-iterator
