use Rattle.hd_guard.proofs.TrailerLemmas.{one_reading}
use Rattle.hd_guard.proofs.laws.one_reading_holds.Goals as goal

pub returns : goal.returns
returns c = one_reading
