use Rattle.std.proofs.Common.{◌≡◌, length}
use Rattle.std.specs.List.{filter}
use Rattle.hd_queue.specs.Wanted.{wants_at}
use Rattle.hd_queue.proofs.view.WaitingIterator.next.Given as goal

abbrev pub invariant-loop-hold : goal.invariant-loop-hold
invariant-loop-hold g l = filter (wants_at l.self-inside.wanted l.self-inside.pickup) l.self-inside.rest
    ≡ l.fn.self

abbrev pub decreases-loop-hold : goal.decreases-loop-hold
decreases-loop-hold g l = length l.self-inside.rest
