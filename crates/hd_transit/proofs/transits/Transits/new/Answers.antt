use Rattle.std.proofs.Common.{◌≡◌, ◌∙◌}
use Rattle.std.specs.FinMap.{empty}
use Rattle.hd_transit.proofs.TransitsLemmas.{AreCopies-empty}
use Rattle.hd_transit.proofs.transits.Transits.new.Goals as goal

pub invariant_of-result : goal.invariant_of-result
invariant_of-result g c =
    let none : c.grow.new.self.entries ≡ empty = c.in_ok-grow.ensures.entries ∙ c.new-table.ensures.entries
    in rw none (AreCopies-empty c.grow.new.self.size)
