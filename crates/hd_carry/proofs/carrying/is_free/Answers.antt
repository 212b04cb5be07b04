use Rattle.hd_carry.proofs.Whole.{none_there, some_there}
use Rattle.hd_carry.proofs.carrying.is_free.Goals as goal

pub returns-clause-free : goal.returns-clause-free
returns-clause-free c = none_there c.args.obstacles.now c.is_empty.result c.is_empty.ensures

pub returns-clause-taken : goal.returns-clause-taken
returns-clause-taken c = some_there c.args.obstacles.now c.is_empty.result c.is_empty.ensures
