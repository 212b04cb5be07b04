use Rattle.hd_message.proofs.RepeatedLemmas.{patron_request_bytes, unreadable_patron_fits}
use Rattle.hd_message.proofs.patron_laws.named_patrons_fit_their_body.Goals as goal

pub returns-clause-request : goal.returns-clause-request
returns-clause-request c = patron_request_bytes

pub returns-clause-unreadable : goal.returns-clause-unreadable
returns-clause-unreadable c = unreadable_patron_fits
