use Rattle.hd_clash.proofs.About.{touched_shift}
use Rattle.hd_clash.proofs.laws.only_touched_records_shift.Goals as goal

pub returns : goal.returns
returns c = touched_shift
