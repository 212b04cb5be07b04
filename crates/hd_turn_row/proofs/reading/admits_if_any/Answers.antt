use Rattle.std.proofs.Common.{refl}
use Rattle.hd_turn_row.proofs.ActLemmas.{admits_unsaid}
use Rattle.hd_turn_row.proofs.reading.admits_if_any.Goals as goal

pub returns-in-None : goal.returns-in-None
returns-in-None c = rw c.in-Some.is (λ r. admits_unsaid _ r.0 c.in-None.ensures r.1, refl)
