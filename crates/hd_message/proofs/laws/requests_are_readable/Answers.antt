use Rattle.hd_message.proofs.ReadableLemmas.{request_apart}
use Rattle.hd_message.proofs.laws.requests_are_readable.Goals as goal

pub returns : goal.returns
returns c = request_apart
