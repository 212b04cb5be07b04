use Rattle.hd_guard.proofs.TrailerLemmas.{read_back, read_back_only}
use Rattle.hd_guard.proofs.laws.sealed_is_read_back.Goals as goal

pub returns : goal.returns
returns c body seq digit = (read_back_only body seq, read_back body seq digit)
