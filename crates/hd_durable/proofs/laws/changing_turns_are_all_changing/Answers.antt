use Rattle.hd_rules.specs.Turns.{start}
use Rattle.hd_durable.proofs.Leaving.{all_change}
use Rattle.hd_durable.proofs.laws.changing_turns_are_all_changing.Goals as goal

pub returns : goal.returns
returns c k turns = all_change k (start k) turns
