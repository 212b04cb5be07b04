use Rattle.hd_message.proofs.RepeatedLemmas.{request_bytes, unreadable_bytes}
use Rattle.hd_message.proofs.laws.repeated_values_fit_their_body.Goals as goal

pub returns-clause-request : goal.returns-clause-request
returns-clause-request c = request_bytes

pub returns-clause-unreadable : goal.returns-clause-unreadable
returns-clause-unreadable c = unreadable_bytes
