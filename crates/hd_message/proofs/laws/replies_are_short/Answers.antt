use Rattle.hd_message.proofs.LengthLemmas.{reply_length}
use Rattle.hd_message.proofs.laws.replies_are_short.Goals as goal

pub returns : goal.returns
returns c = reply_length
