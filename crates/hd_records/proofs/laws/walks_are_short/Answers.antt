use Rattle.hd_records.proofs.Short.{looks_short, walk_short}
use Rattle.hd_records.proofs.laws.walks_are_short.Goals as goal

pub returns : goal.returns
returns c = record { looks = looks_short; walk = walk_short c.comparisons_are_few.ensures }
