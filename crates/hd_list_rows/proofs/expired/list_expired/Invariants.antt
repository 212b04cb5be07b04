use Rattle.std.proofs.Common.{◌≡◌, ◌+◌, List, ◌++◌, length}
use Rattle.hd_rules.specs.declared.holds.Hold.{Hold}
use Rattle.hd_desk.specs.Asking.{queues_of}
use Rattle.hd_desk.specs.Desks.{desk_of, facts}
use Rattle.hd_list_rows.specs.Expired.{expired_rows, from_stamp, of_title}
use Rattle.hd_list_rows.proofs.expired.list_expired.Given as goal

-- the holds that were gone over, and what the page will have with what is left
abbrev pub invariant-loop-hold : goal.invariant-loop-hold
invariant-loop-hold g l =
    ((before : List Hold) × (queues_of l.desk l.title ≡ before ++ l.hold-iterator))
    × (l.page.next ≡ l.fn.page.next)
    × (l.page.rows ++ expired_rows (facts l.desk) (desk_of l.desk) l.day
    (of_title l.title (from_stamp l.stamp l.hold-iterator))
    ≡ l.fn.page.rows ++ expired_rows (facts l.desk) (desk_of l.desk) l.day
    (of_title l.title (from_stamp l.stamp (queues_of l.desk l.title))))
    × (l.fn.left + length (of_title l.title (from_stamp l.stamp l.hold-iterator))
    ≡ l.left + length (of_title l.title (from_stamp l.stamp (queues_of l.desk l.title))))
