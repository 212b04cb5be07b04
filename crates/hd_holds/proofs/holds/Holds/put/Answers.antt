use Rattle.std.proofs.Common.{◌≡◌, ◌∙◌, ◌+◌, ◌<◌, ◌≤◌, ◌==◌, ◌&&◌, ℕ, ap, arith, cond, subst, sym}
use Rattle.std.proofs.Math.ListN.{set}
use Rattle.std.specs.Arc.{arc_value}
use Rattle.hd_holds.specs.Held.{IsWelcome, patron_hold, queue_room, room_of}
use Rattle.hd_holds.specs.HeldListsValue.{AreListed}
use Rattle.hd_holds.specs.Places.{kept}
use Rattle.hd_holds.proofs.Kept.{ReadsPlace, held-none, held-room, index-within, lists-some, place-within}
use Rattle.hd_holds.proofs.Kept.{queue-some, placed-own, reads-none, reads-own, room-kept, room-less}
use Rattle.hd_holds.proofs.Kept.{room-read, written-own}
use Rattle.hd_holds.proofs.Queues.{Reads, held-named, held-put, held-read, queue-put, stamp-put}
use Rattle.hd_holds.proofs.Listed.{listed_put}
use Rattle.hd_holds.specs.HoldsValue.{HoldsValue}
use Rattle.hd_holds.proofs.holds.Holds.put.Given.{Over}
use Rattle.hd_holds.proofs.holds.Holds.put.Goals.{After-index-place, After-index_mut, After-replace-old}
use Rattle.hd_holds.proofs.holds.Holds.put.Goals as goal

-- the title's place, as it was read
at : (g : Over) (c : After-index-place g)
    → ReadsPlace (arc_value c.self.inside.catalogue) c.self.inside.places.items
    c.self.inside.queues.items c.self.inside.held.room c.args.self.now c.number.result c.args.title
    c.index-place.result.now
at g c = record {
  same = c.self.view_is;
  all = c.self.invariant.0;
  index = c.number.ensures.value;
  within = c.requires.title;
  read = c.index-place.ensures;
}

-- and the queue that stands there
reads : (g : Over) (c : After-index_mut g)
    → ReadsPlace (arc_value c.self.inside.catalogue) c.self.inside.places.items
    c.self.inside.queues.items c.self.inside.held.room c.args.self.now c.number.result c.args.title
    c.index-place.result.now
    → Reads (kept (arc_value c.self.inside.catalogue) c.self.inside.places.items c.self.inside.queues.items
    c.self.inside.held.room) c.args.self.now
    c.args.title c.index_mut.result.now
reads g c place = reads-own place c.if-place-gt0.true c.index_mut.result.now c.index_mut.ensures.value

pub index-place-requires : goal.index-place-requires
index-place-requires g c =
    omega (
      arith,
      index-within c.self.view_is c.self.invariant.0 c.number.ensures.value c.requires.title,
      c.self.inside.places.ok.0,
    )

pub index_mut-requires : goal.index_mut-requires
index_mut-requires g c =
    omega (
      arith,
      place-within (at g (goal.at.index_mut-requires g c).After-index-place),
      c.self.inside.queues.ok.0,
    )

pub replace-old-requires-clause-room : goal.replace-old-requires-clause-room
replace-old-requires-clause-room g c =
    let there = goal.at.replace-old-requires-clause-room g c in
    λ hold is. subst (λ (n : ℕ). 0 < n)
    (room-read (reads g there.After-index_mut (at g there.After-index-place)))
    (queue-some c.args.self.now c.args.title (c.requires.room hold is))

pub replace-old-requires-clause-patron : goal.replace-old-requires-clause-patron
replace-old-requires-clause-patron g c = λ hold is.
    (subst (IsWelcome (patron_hold c.args.self.now) c.args.title c.args.patron) is c.requires.fit).0

pub replace-old-requires-clause-stamp : goal.replace-old-requires-clause-stamp
replace-old-requires-clause-stamp g c =
    let there = goal.at.replace-old-requires-clause-stamp g c in
    stamp-put (reads g there.After-index_mut (at g there.After-index-place)) c.queues_stay_in_order.ensures
    c.args.patron c.args.new.now
    c.requires.fit

-- what is held once the queue is written, whatever room the patrons' lists have
now_held : (g : Over) (c : After-replace-old g)
    (place : ReadsPlace (arc_value c.self.inside.catalogue) c.self.inside.places.items
    c.self.inside.queues.items c.self.inside.held.room c.args.self.now c.number.result c.args.title
    c.index-place.result.now) →
    Reads (kept (arc_value c.self.inside.catalogue) c.self.inside.places.items c.self.inside.queues.items
    c.self.inside.held.room)
    c.args.self.now c.args.title c.index_mut.result.now → (n : ℕ) →
    patron_hold (kept (arc_value c.self.inside.catalogue) c.self.inside.places.items
    (set c.self.inside.queues.items c.index-place.result.now c.replace-old.new.queue) n)
    ≡ (λ t p. cond ((c.args.title == t) && (c.args.patron == p)) c.args.new.now
    (patron_hold c.args.self.now t p))
now_held g c place reads n =
    held-room (kept (arc_value c.self.inside.catalogue) c.self.inside.places.items
    (set c.self.inside.queues.items c.index-place.result.now c.replace-old.new.queue) c.self.inside.held.room)
    n
    ∙ ap patron_hold (written-own place c.if-place-gt0.true c.replace-old.new.queue)
    ∙ held-put reads c.queues_stay_in_order.ensures c.args.patron c.args.new.now c.requires.fit
    c.replace-old.new.queue
    c.replace-old.ensures.holds

pub put_of-requires : goal.put_of-requires
put_of-requires g c =
    let same : c.args.self.now.room
    ≡ c.self.inside.held.room = ap (λ (h : HoldsValue). h.room) (sym c.self.view_is) in
    λ hold is. omega (
      arith,
      lists-some c.args.self.now c.args.title (c.requires.room hold is),
      same,
      c.take_of.ensures.room,
    )

pub invariant_of-self : goal.invariant_of-self
invariant_of-self g c =
    let there = goal.at.invariant_of-self g c in
    let place = at g there.After-index-place in
    let read = reads g there.After-index_mut place in
    let is = c.replace-old.ensures.old ∙ held-read read c.args.patron in (
      placed-own place c.if-place-gt0.true c.replace-old.new.queue
          (queue-put read c.queues_stay_in_order.ensures c.args.patron c.args.new.now c.requires.fit
          c.replace-old.new.queue
          c.requires.known c.replace-old.ensures.holds),
      listed_put c.self.inside.held c.take_of.new.self c.put_of.new.self c.args.title c.args.patron
          c.replace-old.result c.args.new.now
          (patron_hold c.args.self.now)
          (patron_hold (kept (arc_value c.self.inside.catalogue) c.self.inside.places.items
          (set c.self.inside.queues.items c.index-place.result.now c.replace-old.new.queue)
          c.put_of.new.self.room))
          (subst (AreListed c.self.inside.held) (ap patron_hold c.self.view_is) c.self.invariant.1) is
          (λ h some. held-named c.args.self.now c.args.title c.args.patron h (sym is ∙ some))
          (λ h some. (subst (IsWelcome (patron_hold c.args.self.now) c.args.title c.args.patron) some
          c.requires.fit).0)
          c.take_of.ensures.each c.put_of.ensures.each
          (now_held g there.After-replace-old place read c.put_of.new.self.room),
    )

pub returns-then-place-gt0-clause-held : goal.returns-then-place-gt0-clause-held
returns-then-place-gt0-clause-held g c =
    let there = goal.at.returns-then-place-gt0-clause-held g c in
    let place = at g there.After-index-place in
    now_held g there.After-replace-old place (reads g there.After-index_mut place) c.put_of.new.self.room

pub returns-then-place-gt0-clause-room : goal.returns-then-place-gt0-clause-room
returns-then-place-gt0-clause-room g c =
    let there = goal.at.returns-then-place-gt0-clause-room g c in
    let place = at g there.After-index-place in
    let old = c.args.self.now in
    let new = kept (arc_value c.self.inside.catalogue) c.self.inside.places.items
    (set c.self.inside.queues.items c.index-place.result.now c.replace-old.new.queue)
    c.put_of.new.self.room in
    let same : old.room ≡ c.self.inside.held.room = ap (λ (h : HoldsValue). h.room) (sym c.self.view_is) in
    room-less old new 1
    (λ u. subst (λ (h : HoldsValue). queue_room old u ≤ queue_room h u + 1)
    (sym (written-own place c.if-place-gt0.true c.replace-old.new.queue))
    (room-kept (reads g there.After-index_mut place) c.replace-old.new.queue 1 u c.replace-old.ensures.room))
    (omega (arith, same, c.take_of.ensures.room, c.put_of.ensures.room))

pub returns-else-place-gt0-clause-held : goal.returns-else-place-gt0-clause-held
returns-else-place-gt0-clause-held g c =
    let place = at g (goal.at.returns-else-place-gt0-clause-held g c).After-index-place in
    held-none (reads-none place (omega (arith, c.if-place-gt0.false))) c.args.patron c.args.new.now
    (λ hold is. queue-some c.args.self.now c.args.title (c.requires.room hold is))
