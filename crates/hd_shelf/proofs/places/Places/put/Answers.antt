use Rattle.std.proofs.Common.{◌≡◌, ◌-◌, ◌<◌, ◌≤◌, ap, arith, None}
use Rattle.std.specs.FinMap.{get}
use Rattle.hd_rules.specs.declared.limits.TheConstants.{MOST_COPIES}
use Rattle.hd_shelf.proofs.ShelfLemmas.{IsKept-put, board_is_open}
use Rattle.hd_shelf.proofs.places.Places.put.Goals as goal

pub lower-requires-clause-free : goal.lower-requires-clause-free
lower-requires-clause-free g c =
    let inside = c.self.inside
    in let within : c.args.place ≤ inside.table.size - 1 =
    omega (arith, ap (λ p. p.room) c.self.view_is, c.requires.ready.has_room)
    in let none : get inside.table.entries c.args.place ≡ None =
    rw (ap (λ p. p.copies) c.self.view_is) c.requires.free
    in board_is_open inside.table.entries c.args.place (inside.table.size - 1) inside.boards c.self.invariant
    c.requires.ready.from_one within none

pub invariant_of-self : goal.invariant_of-self
invariant_of-self g c =
    let inside = c.self.inside
    in let copies : inside.table.entries ≡ c.args.self.now.copies = ap (λ p. p.copies) c.self.view_is
    in let small : c.args.copy < MOST_COPIES =
    omega (arith, c.number.ensures.value, c.number.ensures.in_range)
    in let within : c.args.place ≤ inside.table.size - 1 =
    omega (arith, ap (λ p. p.room) c.self.view_is, c.requires.ready.has_room)
    in let none : get inside.table.entries c.args.place ≡ None = rw copies c.requires.free
    in rw (c.set.ensures.entries, c.set.ensures.size, c.lower.ensures)
    (IsKept-put inside.table.entries c.args.place c.args.copy
    (inside.table.size - 1) inside.boards c.self.invariant
    c.requires.ready.from_one within none small (rw copies c.requires.nowhere))
