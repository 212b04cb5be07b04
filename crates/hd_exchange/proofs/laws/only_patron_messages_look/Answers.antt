use Rattle.hd_exchange.proofs.Standard.{only_turns}
use Rattle.hd_exchange.proofs.laws.only_patron_messages_look.Goals as goal

pub returns : goal.returns
returns c = only_turns
