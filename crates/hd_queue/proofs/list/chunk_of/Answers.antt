use Rattle.std.proofs.Common.{rules}
use Rattle.std.proofs.lemmas.List.Sorted.{IsPartitionPoint-from_clause}
use Rattle.hd_queue.specs.Holds.{begins_by}
use Rattle.hd_queue.proofs.ChunksLemmas.{chunks_parted}
use Rattle.hd_queue.proofs.list.chunk_of.Goals as goal

pub returns-clause-point : goal.returns-clause-point
returns-clause-point g c =
    let chunks = c.args.chunks.now in
    IsPartitionPoint-from_clause (begins_by c.args.stamp) chunks c.partition_point.result
    c.partition_point.ensures.partitioned
    (chunks_parted chunks c.args.stamp c.requires.ordered c.requires.some) (λ a r q k. search rules)
