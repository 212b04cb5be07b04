use Rattle.hd_shelf.proofs.ShelfLemmas.{IsKept-empty}
use Rattle.hd_shelf.proofs.places.Places.new.Goals as goal

pub invariant_of-result : goal.invariant_of-result
invariant_of-result g c = rw (c.new.ensures.entries, c.new.ensures.size, c.new-2.ensures) IsKept-empty
