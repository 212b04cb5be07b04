use Rattle.hd_rules.specs.Turns.{start}
use Rattle.hd_durable.proofs.Leaving.{state_changing}
use Rattle.hd_durable.proofs.laws.changing_turns_leave_the_same.Goals as goal

pub returns : goal.returns
returns c k turns = state_changing k (start k) turns
