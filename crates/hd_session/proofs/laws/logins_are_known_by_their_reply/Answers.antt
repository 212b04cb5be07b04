use Rattle.hd_session.proofs.Taken.{taken_text}
use Rattle.hd_session.proofs.laws.logins_are_known_by_their_reply.Goals as goal

pub returns : goal.returns
returns c = taken_text
