use Rattle.hd_clash.proofs.Work.{few}
use Rattle.hd_clash.proofs.laws.comparisons_are_few.Goals as goal

pub returns : goal.returns
returns c = few
