use Rattle.hd_guard.proofs.TrailerLemmas.{own_digit}
use Rattle.hd_guard.proofs.laws.own_digit_is_read.Goals as goal

pub returns : goal.returns
returns c = own_digit
