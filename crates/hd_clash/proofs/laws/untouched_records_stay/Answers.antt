use Rattle.hd_clash.proofs.About.{untouched_stays}
use Rattle.hd_clash.proofs.laws.untouched_records_stay.Goals as goal

pub returns : goal.returns
returns c = untouched_stays
