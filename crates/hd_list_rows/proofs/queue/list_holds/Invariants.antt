use Rattle.std.proofs.Common.{◌≡◌}
use Rattle.hd_desk.specs.Desks.{desk_of, facts}
use Rattle.hd_list_rows.specs.Making.{with_rest}
use Rattle.hd_list_rows.specs.Rows.{queue_rows}
use Rattle.hd_list_rows.proofs.queue.list_holds.Given as goal

-- what the page will have, with what is left
abbrev pub invariant-loop-hold : goal.invariant-loop-hold
invariant-loop-hold g l =
    with_rest l.page l.others (queue_rows (facts l.desk) (desk_of l.desk) l.title l.hold-iterator)
    ≡ with_rest l.fn.page l.fn.after (queue_rows (facts l.desk) (desk_of l.desk) l.title l.fn.holds)
