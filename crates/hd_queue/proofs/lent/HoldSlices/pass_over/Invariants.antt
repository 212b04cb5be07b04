use Rattle.std.proofs.Common.{◌≡◌, ◌≤◌, All, [], filter, length}
use Rattle.hd_blocks.specs.Blocks.{all_items}
use Rattle.hd_chunks.specs.Chunks.{has_some}
use Rattle.hd_queue.specs.Wanted.{is_picked_up_at}
use Rattle.hd_queue.proofs.lent.HoldSlices.pass_over.Given as goal

-- the holds of the pickup are those of the chunks that are left
abbrev pub invariant-loop-chunk : goal.invariant-loop-chunk
invariant-loop-chunk g l = (l.self-inside.front.now ≡ [])
    × All has_some l.self-inside.chunks.now
    × (filter (is_picked_up_at l.pickup) (all_items l.self-inside.chunks.now)
    ≡ filter (is_picked_up_at l.pickup) l.fn.self)
    × (length (all_items l.self-inside.chunks.now) ≤ length l.fn.self)

abbrev pub decreases-loop-chunk : goal.decreases-loop-chunk
decreases-loop-chunk g l = length l.self-inside.chunks.now
