use Rattle.std.proofs.Common.{◌-◌, ◌*◌, sym, refl, ap, arith}
use Rattle.hd_shelf.specs.declared.boards.TheConstants.{SPAN}
use Rattle.hd_shelf.proofs.ShelfLemmas.{LeastFree-bound, board_begins, least_if_some, least_if_none}
use Rattle.hd_shelf.proofs.ShelfLemmas.{room-bound}
use Rattle.hd_shelf.proofs.places.Places.least_free.Goals as goal

-- the board begins before a place that has room, and that fits
pub overflow_mul-board : goal.overflow_mul-board
overflow_mul-board g c =
    omega (
      arith,
      board_begins c.self.inside.table.entries
          (c.self.inside.table.size - 1) c.in-Some.board c.self.inside.boards c.self.invariant
          (sym c.in-Some.ensures),
      ap (λ p. p.room) c.self.view_is,
      c.room-room.ensures.room,
      c.room-room.ensures.next,
    )

pub overflow_cast-result : goal.overflow_cast-result
overflow_cast-result g c =
    let after = rw (← c.self.view_is) at c.free_after.ensures
    in let least =
    least_if_some c.self.inside.table.entries (c.self.inside.table.size - 1) c.in-Some.board
    (c.in-Some.board * SPAN) c.free_after.result
    c.self.inside.boards c.self.invariant
    (sym c.in-Some.ensures) refl after.from_one after.free after.taken after.within
    in omega
    (arith, LeastFree-bound c.self.inside.table.entries c.free_after.result c.self.invariant.shelf least)

pub returns-in-Some-clause-least : goal.returns-in-Some-clause-least
returns-in-Some-clause-least g c =
    let after = rw (← c.self.view_is) at c.free_after.ensures
    in rw (← c.self.view_is)
    (least_if_some c.self.inside.table.entries (c.self.inside.table.size - 1) c.in-Some.board
    (c.in-Some.board * SPAN) c.free_after.result c.self.inside.boards c.self.invariant
    (sym c.in-Some.ensures) refl after.from_one
    after.free after.taken after.within)

pub returns-in-Some-clause-bound : goal.returns-in-Some-clause-bound
returns-in-Some-clause-bound g c =
    let after = rw (← c.self.view_is) at c.free_after.ensures
    in LeastFree-bound c.self.inside.table.entries c.free_after.result c.self.invariant.shelf
    (least_if_some c.self.inside.table.entries
    (c.self.inside.table.size - 1) c.in-Some.board
    (c.in-Some.board * SPAN) c.free_after.result c.self.inside.boards c.self.invariant
    (sym c.in-Some.ensures) refl after.from_one after.free after.taken after.within)

pub overflow_cast-result-in-None : goal.overflow_cast-result-in-None
overflow_cast-result-in-None g c =
    rw (c.room-room.ensures.room, ← c.self.view_is) (omega (
      arith,
      room-bound c.self.inside.table.entries
          (c.self.inside.table.size - 1) c.self.inside.boards c.self.invariant (sym c.in-None.ensures),
    ))

pub overflow_add-result : goal.overflow_add-result
overflow_add-result g c =
    rw (c.room-room.ensures.room, ← c.self.view_is) (omega (
      arith,
      room-bound c.self.inside.table.entries
          (c.self.inside.table.size - 1) c.self.inside.boards c.self.invariant (sym c.in-None.ensures),
    ))

pub returns-in-None-clause-least : goal.returns-in-None-clause-least
returns-in-None-clause-least g c =
    rw (c.room-room.ensures.room, ← c.self.view_is)
    (least_if_none c.self.inside.table.entries (c.self.inside.table.size - 1)
    c.self.inside.boards c.self.invariant (sym c.in-None.ensures))

pub returns-in-None-clause-bound : goal.returns-in-None-clause-bound
returns-in-None-clause-bound g c =
    rw (c.room-room.ensures.room, ← c.self.view_is) (omega (
      arith,
      room-bound c.self.inside.table.entries
          (c.self.inside.table.size - 1) c.self.inside.boards c.self.invariant (sym c.in-None.ensures),
    ))
