use Rattle.hd_rules.proofs.Only.{place_is_only}
use Rattle.hd_rules.proofs.laws.place_is_the_least_free.Goals as goal

pub returns : goal.returns
returns c = place_is_only
