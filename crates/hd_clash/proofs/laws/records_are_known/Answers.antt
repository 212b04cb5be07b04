use Rattle.hd_clash.proofs.Records.{records_known}
use Rattle.hd_clash.proofs.laws.records_are_known.Goals as goal

pub returns : goal.returns
returns c = records_known c.rules.ensures
