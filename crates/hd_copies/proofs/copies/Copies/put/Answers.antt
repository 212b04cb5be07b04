use Rattle.std.proofs.Common.{arith}
use Rattle.std.specs.Arc.{arc_value}
use Rattle.std.specs.List.{slice_get}
use Rattle.hd_catalogue.specs.Contents.{facts_of}
use Rattle.hd_copies.specs.Standing.{standing}
use Rattle.hd_copies.specs.Indexing.{IsIndexed, all_but}
use Rattle.hd_copies.proofs.Moving.{but-set}
use Rattle.hd_copies.proofs.States.{state_in-set, states-put}
use Rattle.hd_copies.proofs.copies.Copies.put.Goals as goal

pub leave-requires-clause-indexed : goal.leave-requires-clause-indexed
leave-requires-clause-indexed g c = rw (c.deref.ensures, c.deref-2.ensures.value) c.self.invariant.indexed

pub enter-requires-clause-states : goal.enter-requires-clause-states
unfolding standing
enter-requires-clause-states g c =
    let requires = rw (← c.self.view_is) at c.requires in
    rw (c.deref-3.ensures, c.deref-4.ensures.value)
    (states-put (facts_of (arc_value c.self.inside.catalogue)) c.self.inside.states.items c.number-at.result
    c.args.copy c.args.new.now
    c.self.invariant.fit c.number-at.ensures.value requires.copy requires.known requires.welcome)

pub enter-requires-clause-indexed : goal.enter-requires-clause-indexed
enter-requires-clause-indexed g c =
    let left : IsIndexed (facts_of (arc_value c.self.inside.catalogue))
    (all_but c.args.copy (slice_get c.self.inside.states.items))
    c.leave.new.self = rw (c.deref.ensures, c.deref-2.ensures.value) at c.leave.ensures.indexed in
    rw (
      c.deref-3.ensures,
      c.deref-4.ensures.value,
      but-set c.self.inside.states.items c.number-at.result c.args.copy c.args.new.now
          c.number-at.ensures.value,
    ) left

pub invariant_of-self : goal.invariant_of-self
unfolding standing
invariant_of-self g c =
    let requires = rw (← c.self.view_is) at c.requires in
    record {
      fit = states-put (facts_of (arc_value c.self.inside.catalogue)) c.self.inside.states.items
          c.number-at.result c.args.copy
          c.args.new.now c.self.invariant.fit c.number-at.ensures.value requires.copy requires.known
          requires.welcome;
      indexed = rw (c.deref-3.ensures, c.deref-4.ensures.value) at c.enter.ensures.indexed;
    }

pub returns-clause-standing : goal.returns-clause-standing
unfolding standing
returns-clause-standing g c =
    let copy = rw (← c.self.view_is) at c.requires.copy in
    rw (← c.self.view_is) (state_in-set c.self.inside.states.items c.number-at.result c.args.copy
    c.args.new.now c.number-at.ensures.value
    (omega (arith, c.self.invariant.fit.copies, copy)))
