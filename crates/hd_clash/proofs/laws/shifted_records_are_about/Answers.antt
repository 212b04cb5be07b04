use Rattle.hd_clash.proofs.About.{shifted_record_about, each_shifted_about}
use Rattle.hd_clash.proofs.laws.shifted_records_are_about.Goals as goal

pub returns : goal.returns
returns c = record { one = shifted_record_about; each = each_shifted_about }
