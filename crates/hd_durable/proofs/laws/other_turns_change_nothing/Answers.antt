use Rattle.hd_durable.proofs.Leaving.{leaves}
use Rattle.hd_durable.proofs.laws.other_turns_change_nothing.Goals as goal

pub returns : goal.returns
returns c = leaves
