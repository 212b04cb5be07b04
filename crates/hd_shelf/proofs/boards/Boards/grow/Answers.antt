use Rattle.std.proofs.Common.{arith, ap, length}
use Rattle.hd_shelf.proofs.BoardLemmas.{AreInBays-grow}
use Rattle.hd_shelf.proofs.boards.Boards.grow.Goals as goal

pub invariant_of-self-in_err-lengthen-2 : goal.invariant_of-self-in_err-lengthen-2
invariant_of-self-in_err-lengthen-2 g c =
    AreInBays-grow c.self.inside.free_places.items c.self.inside.open_boards.items
    c.lengthen-2.new.counts.items
    c.lengthen.new.counts.items c.self.invariant c.lengthen-2.ensures.same c.lengthen.ensures.same (omega (
      arith,
      ap length c.in_err-lengthen-2.ensures.err,
      c.in_ok-lengthen.ensures.ok,
      c.self.invariant.enough,
      c.lengthen.new.counts.ok,
      c.self.inside.open_boards.ok,
    ))

pub invariant_of-self-2 : goal.invariant_of-self-2
invariant_of-self-2 g c =
    AreInBays-grow c.self.inside.free_places.items c.self.inside.open_boards.items
    c.lengthen-2.new.counts.items
    c.lengthen.new.counts.items c.self.invariant c.lengthen-2.ensures.same c.lengthen.ensures.same (omega (
      arith,
      c.in_ok-lengthen-2.ensures.ok,
      c.in_ok-lengthen.ensures.ok,
      c.div_ceil.ensures,
      c.self.invariant.enough,
      c.lengthen.new.counts.ok,
      c.lengthen-2.new.counts.ok,
      c.self.inside.open_boards.ok,
      c.self.inside.free_places.ok,
    ))
