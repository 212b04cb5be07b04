use Rattle.std.proofs.lemmas.List.Elements.{All-rest}
use Rattle.hd_chunks.specs.Chunks.{has_some}
use Rattle.hd_queue.proofs.lent.HoldSlicesIterator.next.Goals as goal

pub invariant_of-self-2 : goal.invariant_of-self-2
invariant_of-self-2 g c =
    All-rest has_some c.in_ok-chunk.chunk.now c.in_ok-chunk.chunks.now c.self.inside.chunks.now
    c.in_ok-chunk.ensures.cases.0 c.self.invariant
