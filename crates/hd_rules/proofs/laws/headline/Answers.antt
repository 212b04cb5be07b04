use Rattle.hd_rules.proofs.Theorem.{headline}
use Rattle.hd_rules.proofs.laws.headline.Goals as goal

pub returns : goal.returns
returns c = headline
