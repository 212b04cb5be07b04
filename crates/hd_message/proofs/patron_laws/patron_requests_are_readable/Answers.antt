use Rattle.hd_message.proofs.PatronLemmas.{patron_apart}
use Rattle.hd_message.proofs.patron_laws.patron_requests_are_readable.Goals as goal

pub returns : goal.returns
returns c = patron_apart
