use Rattle.std.proofs.Common.{refl}
use Rattle.hd_exchange.proofs.OneAnswer.{one_answer}
use Rattle.hd_exchange.proofs.laws.each_body_has_one_answer.Goals as goal

pub returns-clause-asks : goal.returns-clause-asks
returns-clause-asks c =
    λ k e seat now login line body says says' text text' did did' next next' p q.
    (one_answer c.prints_show_their_stamp.ensures.one c.texts_show_one_stamp.ensures.one
    c.texts_show_one_stamp.ensures.no_fault
    c.requests_are_readable.ensures c.patron_requests_are_readable.ensures k e seat now login line body says
    says' text text' did did' next next' p q).0

pub returns-clause-answer : goal.returns-clause-answer
returns-clause-answer c =
    λ k e seat now login line body says says' text text' did next next' p q.
    (one_answer c.prints_show_their_stamp.ensures.one c.texts_show_one_stamp.ensures.one
    c.texts_show_one_stamp.ensures.no_fault
    c.requests_are_readable.ensures c.patron_requests_are_readable.ensures k e seat now login line body says
    says' text text' did did next next' p q).1 refl
