use Rattle.hd_rules.specs.Turns.{start}
use Rattle.hd_durable.proofs.Beginnings.{beginning}
use Rattle.hd_durable.proofs.laws.the_changing_turns_of_a_beginning.Goals as goal

pub returns : goal.returns
returns c k turns more = beginning k (start k) turns more
