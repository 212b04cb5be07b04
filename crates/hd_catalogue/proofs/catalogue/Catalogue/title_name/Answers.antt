use Rattle.std.proofs.Common.{◌≡◌, Some, rules}
use Rattle.hd_catalogue.specs.Names.{name_at}
use Rattle.hd_catalogue.proofs.ShortLemmas.{name-short}
use Rattle.hd_catalogue.proofs.catalogue.Catalogue.title_name.Goals as goal

pub returns-clause-proper : goal.returns-clause-proper
returns-clause-proper g c =
    let named : name_at c.self.inside.titles c.number-number.result ≡ Some c.unwrap.result.now =
    search rules in
    c.self.invariant.1.titles c.number-number.result c.unwrap.result.now named

pub returns-clause-short : goal.returns-clause-short
returns-clause-short g c = name-short _ (returns-clause-proper g c)
