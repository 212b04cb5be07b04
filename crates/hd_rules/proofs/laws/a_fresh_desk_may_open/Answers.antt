use Rattle.hd_rules.proofs.Reach.{fresh_may_open}
use Rattle.hd_rules.proofs.laws.a_fresh_desk_may_open.Goals as goal

pub returns : goal.returns
returns c = fresh_may_open
