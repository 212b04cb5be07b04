use Rattle.std.proofs.Common.{◌≡◌, ◌∙◌, ap, arith, subst, sym}
use Rattle.std.proofs.Math.ListN.{set}
use Rattle.std.specs.Arc.{arc_value}
use Rattle.hd_holds.specs.Held.{patron_hold}
use Rattle.hd_holds.specs.HeldListsValue.{AreListed}
use Rattle.hd_holds.specs.Places.{kept}
use Rattle.hd_holds.proofs.Kept.{ReadsPlace, index-within, place-within, placed-own, placed-ready, queues-few}
use Rattle.hd_holds.proofs.Kept.{ready-added, ready-written, reads-own, written-own}
use Rattle.hd_holds.proofs.Queues.{Reads, queue-ready}
use Rattle.hd_holds.proofs.holds.Holds.ready_queue.Given.{Over}
use Rattle.hd_holds.proofs.holds.Holds.ready_queue.Goals.{After-index-place, After-index_mut}
use Rattle.hd_holds.proofs.holds.Holds.ready_queue.Goals as goal

-- the title's place, as it was read
at : (g : Over) (c : After-index-place g)
    → ReadsPlace (arc_value c.self.inside.catalogue) c.self.inside.places.items
    c.self.inside.queues.items c.self.inside.held.room c.args.self.now c.number-at.result c.args.title
    c.index-place.result.now
at g c = record {
  same = c.self.view_is;
  all = c.self.invariant.0;
  index = c.number-at.ensures.value;
  within = c.requires;
  read = c.index-place.ensures;
}

-- and the queue that stands there
reads : (g : Over) (c : After-index_mut g)
    → ReadsPlace (arc_value c.self.inside.catalogue) c.self.inside.places.items
    c.self.inside.queues.items c.self.inside.held.room c.args.self.now c.number-at.result c.args.title
    c.index-place.result.now
    → Reads (kept (arc_value c.self.inside.catalogue) c.self.inside.places.items c.self.inside.queues.items
    c.self.inside.held.room) c.args.self.now
    c.args.title c.index_mut.result.now
reads g c place = reads-own place c.if-place-gt0.true c.index_mut.result.now c.index_mut.ensures.value

pub index-place-requires : goal.index-place-requires
index-place-requires g c =
    omega (
      arith,
      index-within c.self.view_is c.self.invariant.0 c.number-at.ensures.value c.requires,
      c.self.inside.places.ok.0,
    )

pub index_mut-requires : goal.index_mut-requires
index_mut-requires g c =
    omega (
      arith,
      place-within (at g (goal.at.index_mut-requires g c).After-index-place),
      c.self.inside.queues.ok.0,
    )

pub invariant_of-self : goal.invariant_of-self
invariant_of-self g c =
    let there = goal.at.invariant_of-self g c in
    let place = at g there.After-index-place in
    let queues = set c.self.inside.queues.items c.index-place.result.now c.ready.new.self in
    let is =
    ready-written c.ready.result (reads g there.After-index_mut place)
    (kept (arc_value c.self.inside.catalogue) c.self.inside.places.items queues c.self.inside.held.room)
    c.args.more c.ready.new.self
    (written-own place c.if-place-gt0.true c.ready.new.self) c.ready.ensures.holds c.ready.ensures.ok
    c.ready.ensures.err
    c.ready.ensures.full c.ready.ensures.room in (
      placed-own place c.if-place-gt0.true c.ready.new.self
          (queue-ready (reads g there.After-index_mut place) c.ready.new.self c.ready.ensures.holds),
      subst (AreListed c.self.inside.held) (ap patron_hold c.self.view_is ∙ sym is.held) c.self.invariant.1,
    )

pub returns-then-place-gt0 : goal.returns-then-place-gt0
returns-then-place-gt0 g c =
    let there = goal.at.returns-then-place-gt0 g c in
    let place = at g there.After-index-place in
    let queues = set c.self.inside.queues.items c.index-place.result.now c.ready.new.self in
    let is =
    ready-written c.ready.result (reads g there.After-index_mut place)
    (kept (arc_value c.self.inside.catalogue) c.self.inside.places.items queues c.self.inside.held.room)
    c.args.more c.ready.new.self
    (written-own place c.if-place-gt0.true c.ready.new.self) c.ready.ensures.holds c.ready.ensures.ok
    c.ready.ensures.err
    c.ready.ensures.full c.ready.ensures.room in
    record {
      held = is.held;
      contents = is.contents;
      lists = is.lists;
      ok = is.ok;
      err = is.err;
      full =
          is.full;
      room = is.room;
    }

pub add_queue-requires-clause-title : goal.add_queue-requires-clause-title
add_queue-requires-clause-title g c =
    index-within c.self.view_is c.self.invariant.0 c.number-at.ensures.value c.requires

pub add_queue-requires-clause-few : goal.add_queue-requires-clause-few
add_queue-requires-clause-few g c = queues-few c.self.invariant.0

pub invariant_of-self-then-more-gt0 : goal.invariant_of-self-then-more-gt0
invariant_of-self-then-more-gt0 g c =
    let place = at g (goal.at.invariant_of-self-then-more-gt0 g c).After-index-place in
    let none : c.index-place.result.now ≡ 0 = omega (arith, c.if-place-gt0.false) in
    let is =
    ready-added place none c.add_queue.new.places.items c.add_queue.new.queues.items c.args.more
    c.if-more-gt0.true c.add_queue.result
    c.add_queue.ensures.places c.add_queue.ensures.queues c.add_queue.ensures.err_places
    c.add_queue.ensures.err_queues in (
      placed-ready place none c.add_queue.new.places.items c.add_queue.new.queues.items c.args.more
          c.if-more-gt0.true
          c.add_queue.result c.add_queue.ensures.places c.add_queue.ensures.queues
          c.add_queue.ensures.err_places
          c.add_queue.ensures.err_queues,
      subst (AreListed c.self.inside.held) (ap patron_hold c.self.view_is ∙ sym is.held) c.self.invariant.1,
    )

pub returns-then-more-gt0 : goal.returns-then-more-gt0
returns-then-more-gt0 g c =
    let is =
    ready-added (at g (goal.at.returns-then-more-gt0 g c).After-index-place)
    (omega (arith, c.if-place-gt0.false))
    c.add_queue.new.places.items c.add_queue.new.queues.items c.args.more c.if-more-gt0.true
    c.add_queue.result
    c.add_queue.ensures.places c.add_queue.ensures.queues c.add_queue.ensures.err_places
    c.add_queue.ensures.err_queues in
    record {
      held = is.held;
      contents = is.contents;
      lists = is.lists;
      ok = is.ok;
      err = is.err;
      full =
          is.full;
      room = is.room;
    }
