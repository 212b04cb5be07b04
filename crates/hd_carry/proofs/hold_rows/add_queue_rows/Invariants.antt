use Rattle.std.proofs.Common.{◌≡◌, ◌++◌}
use Rattle.std.specs.List.{filter_map}
use Rattle.hd_carry.specs.Numbers.{renumbering}
use Rattle.hd_carry.specs.CarriedRows.{hold_row}
use Rattle.hd_carry.proofs.hold_rows.add_queue_rows.Given as goal

-- what was added, and the rows of the holds that are left
abbrev pub invariant-loop-hold : goal.invariant-loop-hold
invariant-loop-hold g l =
    l.rows.items ++ filter_map (hold_row (renumbering l.numbers) l.title) l.hold-iterator
    ≡ l.fn.rows.items ++ filter_map (hold_row (renumbering l.numbers) l.title) l.fn.holds
