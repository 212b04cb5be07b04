use Rattle.std.proofs.Common.{◌≡◌, ◌-◌}
use Rattle.hd_transit.specs.TransitsValue.{AreCopies}
use Rattle.hd_transit.specs.Bound.{bound_from}
use Rattle.hd_transit.proofs.bound.BoundIterator.next.Given as goal

abbrev pub invariant-loop-self : goal.invariant-loop-self
invariant-loop-self g l = record {
  same_rest : bound_from l.self-inside.table.now.entries l.self-inside.table.now.size l.self-inside.to
      l.self-inside.next ≡ l.fn.self;
  known : AreCopies l.self-inside.table.now.entries l.self-inside.table.now.size;
}

abbrev pub decreases-loop-self : goal.decreases-loop-self
decreases-loop-self g l = l.self-inside.table.now.size - l.self-inside.next
