use Rattle.hd_lists.proofs.Sound.{sound}
use Rattle.hd_lists.proofs.laws.each_list_is_called.Goals as goal

pub returns : goal.returns
returns c = (sound c.args.list).7
