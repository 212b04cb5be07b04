use Rattle.hd_catalogue.specs.Contents.{patron_name, patron_number, facts_of}
use Rattle.hd_catalogue.proofs.FoundLemmas.{found}
use Rattle.hd_catalogue.proofs.catalogue.Catalogue.patron.Goals as goal

pub returns : goal.returns
unfolding patron_name patron_number facts_of
returns g c =
    let at = c.in_ok-number.ensures in
    let is = found c.new.ensures at.value at.found at.in_range c.self.invariant.0.facts.patrons in
    rw (← c.self.view_is)
    (record { number = is.number; named = is.named; in_range = is.in_range; none = is.none })
