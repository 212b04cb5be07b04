use Rattle.std.proofs.Common.{◌≡◌, length, take}
use Rattle.hd_blocks.specs.Blocks.{all_items}
use Rattle.hd_chunks.proofs.chunk.items_in.Given as goal

abbrev pub invariant-loop-chunk : goal.invariant-loop-chunk
invariant-loop-chunk g l = l.count ≡ length (all_items (take l.chunk-index l.chunks))
