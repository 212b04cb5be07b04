use Rattle.std.proofs.Common.{◌≤◌, nat_lt, rules, sym, length}
use Rattle.std.proofs.lemmas.List.Sorted.{IsPartitionPoint-from_clause, IsPartitionedBy-ltb}
use Rattle.hd_queue.proofs.HoldsLemmas.{IsNonDecreasingBy-from_order, count_by-point}
use Rattle.hd_queue.proofs.list.before_in.Goals as goal

pub returns-clause-count : goal.returns-clause-count
returns-clause-count c =
    let holds = c.args.holds.now
    in let within : c.partition_point.result ≤ length holds = c.partition_point.ensures.bound
    in let parted = IsPartitionedBy-ltb (λ h. h.stamp) holds c.args.stamp
    (IsNonDecreasingBy-from_order holds c.requires)
    in let point =
    IsPartitionPoint-from_clause (λ h. nat_lt h.stamp c.args.stamp) holds c.partition_point.result
    c.partition_point.ensures.partitioned
    parted (λ a r q k. search rules)
    in sym (count_by-point (λ h. nat_lt h.stamp c.args.stamp) holds c.partition_point.result within point)
