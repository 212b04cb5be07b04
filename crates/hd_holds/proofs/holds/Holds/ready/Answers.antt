use Rattle.std.proofs.Common.{◌≡◌, ◌∙◌, ◌≤◌, ◌+◌, ap, arith, subst, sym}
use Rattle.std.specs.Arc.{arc_value}
use Rattle.hd_holds.specs.HoldsValue.{HoldsValue}
use Rattle.hd_holds.specs.Held.{patron_hold, queue_room, room_of}
use Rattle.hd_holds.specs.Places.{kept}
use Rattle.hd_holds.proofs.Kept.{held-room, listed-room, room-less}
use Rattle.hd_holds.proofs.holds.Holds.ready.Given.{Over}
use Rattle.hd_holds.proofs.holds.Holds.ready.Goals.{After-self}
use Rattle.hd_holds.proofs.holds.Holds.ready.Goals as goal

-- the holds as they were
abbrev before : (g : Over) (c : After-self g) → HoldsValue
before g c = kept (arc_value c.self.inside.catalogue) c.self.inside.places.items c.self.inside.queues.items
    c.self.inside.held.room

pub invariant_of-self : goal.invariant_of-self
invariant_of-self g c = (
  c.self.invariant.0,
  listed-room c.self.inside.held c.ready.new.self (before g (goal.at.invariant_of-self g c).After-self)
      c.ready.new.self.room
      c.ready.ensures.lists c.self.invariant.1,
)

pub invariant_of-self-2 : goal.invariant_of-self-2
invariant_of-self-2 g c = (
  c.self.invariant.0,
  listed-room c.self.inside.held c.ready.new.self (before g (goal.at.invariant_of-self-2 g c).After-self)
      c.ready.new.self.room
      c.ready.ensures.lists c.self.invariant.1,
)

pub invariant_of-self-in-Err : goal.invariant_of-self-in-Err
invariant_of-self-in-Err g c = (
  c.self-2.invariant.0,
  listed-room c.self-2.inside.held c.give_up.new.self
      (kept (arc_value c.self-2.inside.catalogue) c.self-2.inside.places.items c.self-2.inside.queues.items
      c.self-2.inside.held.room)
      c.give_up.new.self.room c.give_up.ensures.lists c.self-2.invariant.1,
)

pub returns-clause-held : goal.returns-clause-held
returns-clause-held g c =
    c.ready_queue.ensures.held
    ∙ held-room (before g (goal.at.returns-clause-held g c).After-self) c.ready.new.self.room
    ∙ ap patron_hold c.self.view_is

pub returns-clause-room : goal.returns-clause-room
returns-clause-room g c =
    let old = c.args.self.now in
    let new = c.ready_queue.new.self in
    let same : old.room ≡ c.self.inside.held.room = ap (λ (h : HoldsValue). h.room) (sym c.self.view_is) in
    λ t. omega (
      arith,
      room-less old new 0
          (λ u. omega (
            arith,
            subst (λ (h : HoldsValue). queue_room h u ≤ queue_room new u) c.self.view_is
                (c.ready_queue.ensures.room u),
          ))
          (omega (arith, same, c.ready_queue.ensures.lists, c.ready.ensures.room)) t,
    )
