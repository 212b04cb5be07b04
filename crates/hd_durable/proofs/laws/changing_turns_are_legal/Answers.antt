use Rattle.hd_rules.specs.Turns.{start}
use Rattle.hd_durable.proofs.Leaving.{legal_changing}
use Rattle.hd_durable.proofs.laws.changing_turns_are_legal.Goals as goal

pub returns : goal.returns
returns c k turns legal = legal_changing k (start k) turns legal
