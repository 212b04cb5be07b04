use Rattle.std.proofs.Common.{◌<◌, ap, arith}
use Rattle.hd_transit.proofs.TransitsLemmas.{AreCopies-insert}
use Rattle.hd_transit.proofs.transits.Transits.send.Goals as goal

pub invariant_of-self : goal.invariant_of-self
invariant_of-self g c =
    let copies = ap (λ t. t.copies) c.self.view_is
    in let below : c.number.result < c.self.inside.table.size =
    omega (arith, copies, c.requires.copy, c.number.ensures.value)
    in rw (c.set.ensures.entries, c.set.ensures.size)
    (AreCopies-insert c.self.inside.table.entries c.self.inside.table.size c.number.result _
    c.self.invariant below
    c.number.ensures.in_range)
