use Rattle.std.specs.Arc.{arc_value}
use Rattle.hd_rules.specs.Facts.{AreInRange}
use Rattle.hd_catalogue.specs.Contents.{facts_of}
use Rattle.hd_copies.specs.Standing.{standing, AreAtHome}
use Rattle.hd_copies.specs.Indexing.{IsIndexed, each_at_home}
use Rattle.hd_copies.proofs.States.{found-home, standing-home, states-home}
use Rattle.hd_copies.proofs.copies.Copies.open.Goals as goal

pub invariant_of-result : goal.invariant_of-result
invariant_of-result g c =
    let k = facts_of (arc_value c.args.catalogue) in
    let home : AreAtHome k c.in_ok-states.states.items = rw c.deref.ensures at c.in_ok-states.ensures.home in
    let range : AreInRange k = rw c.deref.ensures at c.in_ok-states.ensures.range in
    let indexed : IsIndexed k (each_at_home k) c.in_ok-indexes.indexes =
    rw c.deref-2.ensures at c.in_ok-indexes.ensures in
    record {
      fit = states-home k c.in_ok-states.states.items range home;
      indexed = rw (found-home k c.in_ok-states.states.items home) indexed;
    }

pub returns-clause-at_home : goal.returns-clause-at_home
unfolding standing
returns-clause-at_home g c =
    let k = facts_of (arc_value c.args.catalogue) in
    let home : AreAtHome k c.in_ok-states.states.items = rw c.deref.ensures at c.in_ok-states.ensures.home in
    standing-home (arc_value c.args.catalogue) c.in_ok-states.states.items home
