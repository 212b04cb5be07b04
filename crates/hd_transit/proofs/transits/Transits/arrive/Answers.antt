use Rattle.hd_transit.proofs.TransitsLemmas.{AreCopies-remove}
use Rattle.hd_transit.proofs.transits.Transits.arrive.Goals as goal

pub invariant_of-self : goal.invariant_of-self
invariant_of-self g c =
    rw (c.take.ensures.entries, c.take.ensures.size)
    (AreCopies-remove c.self.inside.table.entries c.self.inside.table.size c.number.result c.self.invariant)
