use Rattle.hd_carry.proofs.Renamed.{is_renumbering}
use Rattle.hd_carry.proofs.laws.names_keep_to_themselves.Goals as goal

pub returns : goal.returns
returns c old new distinct = is_renumbering old new distinct
