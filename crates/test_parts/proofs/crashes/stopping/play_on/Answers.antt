use Rattle.std.proofs.Common.{refl}
use Rattle.test_parts.proofs.crashes.stopping.play_on.Goals as goal

pub play_begun-requires : goal.play_begun-requires
play_begun-requires g c clean = (_, (c.in-Ok.ensures.begins clean).done refl)
