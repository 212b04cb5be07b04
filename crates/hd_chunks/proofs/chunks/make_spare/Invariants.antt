use Rattle.std.proofs.Common.{◌≤◌, ◌-◌, length, max}
use Rattle.hd_chunks.proofs.chunks.make_spare.Given as goal

abbrev pub invariant-loop-alloc : goal.invariant-loop-alloc
invariant-loop-alloc g l = (length l.fn.spare.items ≤ length l.spare.items)
    × (length l.spare.items ≤ max (length l.fn.spare.items) l.count)

abbrev pub decreases-loop-alloc : goal.decreases-loop-alloc
decreases-loop-alloc g l = l.count - length l.spare.items
