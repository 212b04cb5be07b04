use Rattle.hd_exchange.proofs.OnePatronReply.{wrong_alike}
use Rattle.hd_exchange.proofs.laws.wrong_passwords_tell_nothing.Goals as goal

pub returns : goal.returns
returns c = wrong_alike
