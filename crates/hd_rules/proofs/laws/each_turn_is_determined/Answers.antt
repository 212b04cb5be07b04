use Rattle.hd_rules.proofs.Machine.{turns_are_the_machines}
use Rattle.hd_rules.proofs.laws.each_turn_is_determined.Goals as goal

pub returns : goal.returns
returns c = turns_are_the_machines
