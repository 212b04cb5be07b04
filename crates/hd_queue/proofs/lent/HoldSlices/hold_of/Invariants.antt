use Rattle.std.proofs.Common.{◌≡◌}
use Rattle.hd_queue.specs.Holds.{hold_of}
use Rattle.hd_queue.proofs.lent.HoldSlices.hold_of.Given as goal

abbrev pub invariant-loop-hold : goal.invariant-loop-hold
invariant-loop-hold g l = (goal.iterator-loop-hold g).can_next l.hold-iterator
    × (goal.iterator-loop-hold g).is_finite l.hold-iterator
    × (hold_of l.hold-iterator l.patron ≡ hold_of l.fn.self l.patron)
