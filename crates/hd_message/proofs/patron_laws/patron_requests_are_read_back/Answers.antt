use Rattle.hd_message.proofs.PatronReadBack.{patron_back}
use Rattle.hd_message.proofs.patron_laws.patron_requests_are_read_back.Goals as goal

pub returns : goal.returns
returns c = patron_back
