use Rattle.std.proofs.Common.{◌≡◌, ◌-◌, sym, Some, None}
use Rattle.std.specs.FinMap.{get}
use Rattle.hd_lemmas.proofs.Maps.{remove-absent}
use Rattle.hd_shelf.proofs.ShelfLemmas.{IsKept-take, board_is_not_all_free}
use Rattle.hd_shelf.proofs.places.Places.take.Goals as goal

pub invariant_of-self : goal.invariant_of-self
invariant_of-self g c =
    let none : get c.self.inside.table.entries c.args.place ≡ None = sym c.in_err-copy.ensures.taken
    in rw (
      c.in_err-copy.ensures.entries,
      c.in_err-copy.ensures.size,
      remove-absent c.self.inside.table.entries c.args.place none,
    )
    c.self.invariant

pub raise-requires-clause-taken : goal.raise-requires-clause-taken
raise-requires-clause-taken g c =
    let some : get c.self.inside.table.entries c.args.place ≡ Some c.in_ok-copy.copy =
    sym c.in_ok-copy.ensures.taken
    in board_is_not_all_free c.self.inside.table.entries c.args.place c.in_ok-copy.copy
    (c.self.inside.table.size - 1)
    c.self.inside.boards c.self.invariant some

pub invariant_of-self-2 : goal.invariant_of-self-2
invariant_of-self-2 g c =
    let some : get c.self.inside.table.entries c.args.place ≡ Some c.in_ok-copy.copy =
    sym c.in_ok-copy.ensures.taken
    in rw (c.in_ok-copy.ensures.entries, c.in_ok-copy.ensures.size, c.raise.ensures)
    (IsKept-take c.self.inside.table.entries c.args.place c.in_ok-copy.copy
    (c.self.inside.table.size - 1) c.self.inside.boards
    c.self.invariant some)
