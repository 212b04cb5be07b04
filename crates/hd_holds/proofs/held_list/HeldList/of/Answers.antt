use Rattle.std.proofs.Common.{◌≡◌, ◌∙◌, ◌-◌, ◌↔◌, true, false, nat_lt, List, ap, drop, length, rules, sym}
use Rattle.std.proofs.Common.{take}
use Rattle.std.specs.Prelude.{nat_le}
use Rattle.std.specs.List.{Contains}
use Rattle.std.proofs.lemmas.List.{take_rest}
use Rattle.std.proofs.lemmas.List.Sorted.{IsPartitionPoint-from_clause, IsPartitionedBy-leb}
use Rattle.std.proofs.lemmas.List.Sorted.{IsPartitionedBy-ltb}
use Rattle.hd_holds.specs.declared.held_title.HeldTitle.{HeldTitle}
use Rattle.hd_holds.specs.HeldListsValue.{HeldListValue}
use Rattle.hd_holds.specs.HeldTitles.{IsRising}
use Rattle.hd_holds.proofs.Rising.{IsPatronsPart, part_of, part_rises, patrons_rise, rising_rest}
use Rattle.hd_holds.proofs.held_list.HeldList.of.Given.{Over}
use Rattle.hd_holds.proofs.held_list.HeldList.of.Goals.{After-partition_point-count}
use Rattle.hd_holds.proofs.held_list.HeldList.of.Goals as goal

-- what the two searches found
found : (g : Over) (c : After-partition_point-count g) → IsPatronsPart c.self.inside.titles.items
    (take (length c.deref-2.result.now - c.partition_point-first.result)
    (drop c.partition_point-first.result c.deref-2.result.now)) c.args.patron
    c.partition_point-first.result c.partition_point-count.result
found g c =
    let xs = c.self.inside.titles.items in
    let first = c.partition_point-first.result in
    let rest = take (length c.deref-2.result.now - first) (drop first c.deref-2.result.now) in
    let same : rest ≡ drop first xs = take_rest c.deref-2.result.now first
    ∙ ap (drop first) c.deref-2.ensures.value in
    let lower =
    IsPartitionPoint-from_clause (λ (x : HeldTitle). nat_lt x.patron c.args.patron) xs first
    (rw c.deref.ensures.value at c.partition_point-first.ensures.partitioned)
    (IsPartitionedBy-ltb (λ (x : HeldTitle). x.patron) xs c.args.patron (patrons_rise xs c.self.invariant))
    (λ a r q k. search rules) in
    let those =
    IsPartitionPoint-from_clause (λ (x : HeldTitle). nat_le x.patron c.args.patron) rest
    c.partition_point-count.result
    c.partition_point-count.ensures.partitioned
    (IsPartitionedBy-leb (λ (x : HeldTitle). x.patron) rest c.args.patron
    (patrons_rise rest (rising_rest xs rest first c.self.invariant same)))
    (λ a r q k. search rules) in
    record {
      rising = c.self.invariant;
      same = same;
      within = rw c.deref.ensures.value at c.partition_point-first.ensures.bound;
      lower = lower;
      count = c.partition_point-count.ensures.bound;
      those = those;
    }

pub returns-clause-each : goal.returns-clause-each
returns-clause-each g c =
    let same : c.self.inside.titles.items
    ≡ c.args.self.now.titles = ap (λ (l : HeldListValue). l.titles) c.self.view_is in
    λ x. rw (← same) (part_of (found g (goal.at.returns-clause-each g c).After-partition_point-count) x)

pub returns-clause-rising : goal.returns-clause-rising
returns-clause-rising g c =
    part_rises (found g (goal.at.returns-clause-rising g c).After-partition_point-count)
