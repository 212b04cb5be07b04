use Rattle.hd_catalogue.specs.Contents.{branch_name, branch_number, facts_of}
use Rattle.hd_catalogue.proofs.FoundLemmas.{found}
use Rattle.hd_catalogue.proofs.catalogue.Catalogue.branch.Goals as goal

pub returns : goal.returns
unfolding branch_name branch_number facts_of
returns g c =
    let at = c.in_ok-number.ensures in
    let is = found c.new.ensures at.value at.found at.in_range c.self.invariant.0.facts.branches in
    rw (← c.self.view_is)
    (record { number = is.number; named = is.named; in_range = is.in_range; none = is.none })
