use Rattle.hd_rules.proofs.AtPickup.{kept_at_pickup}
use Rattle.hd_rules.proofs.laws.a_kept_hold_is_at_its_pickup.Goals as goal

pub returns : goal.returns
returns c = kept_at_pickup
