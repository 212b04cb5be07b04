use Rattle.std.proofs.Common.{◌≡◌, true, false, rules}
use Rattle.std.proofs.lemmas.List.Sorted.{IsPartitionPoint-from_clause}
use Rattle.hd_holds.specs.HeldTitles.{is_before}
use Rattle.hd_holds.proofs.Rising.{all_drop, all_take, parted}
use Rattle.hd_holds.proofs.held_list.number_before.Goals as goal

pub returns-clause-before : goal.returns-clause-before
returns-clause-before c =
    let held = c.args.held.now in
    let titles = c.args.titles.now in
    let point =
    IsPartitionPoint-from_clause (λ x. is_before x held) titles c.partition_point.result
    c.partition_point.ensures.partitioned
    (parted held titles c.requires) (λ a r q k. search rules) in
    all_take (λ x. is_before x held ≡ true) titles c.partition_point.result c.partition_point.ensures.bound
    point.0

pub returns-clause-after : goal.returns-clause-after
returns-clause-after c =
    let held = c.args.held.now in
    let titles = c.args.titles.now in
    let point =
    IsPartitionPoint-from_clause (λ x. is_before x held) titles c.partition_point.result
    c.partition_point.ensures.partitioned
    (parted held titles c.requires) (λ a r q k. search rules) in
    all_drop (λ x. is_before x held ≡ false) titles c.partition_point.result c.partition_point.ensures.bound
    point.1
