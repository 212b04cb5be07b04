use Rattle.hd_clash.proofs.About.{clash_touched}
use Rattle.hd_clash.proofs.laws.the_first_clash_is_touched.Goals as goal

pub returns : goal.returns
returns c = clash_touched
