use Rattle.std.proofs.Common.{◌≡◌, ◌++◌}
use Rattle.hd_desk.specs.Asking.{queues_of}
use Rattle.hd_carry.specs.Numbers.{renumbering}
use Rattle.hd_carry.specs.CarriedRows.{hold_rows}
use Rattle.hd_carry.proofs.hold_rows.add_hold_rows.Given as goal

abbrev pub invariant-loop-number : goal.invariant-loop-number
invariant-loop-number g l =
    l.rows.items ≡ l.fn.rows.items ++ hold_rows (renumbering l.numbers) (queues_of l.desk) l.number
