use Rattle.std.proofs.Common.{refl}
use Rattle.hd_turn_row.proofs.reading.day_if_any.Goals as goal

pub returns-in-None : goal.returns-in-None
returns-in-None c = rw c.in-Some.is (λ r. c.in-None.ensures.none r.0 r.1, refl)
