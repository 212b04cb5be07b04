use Rattle.hd_session.proofs.Determined.{one_script, standard_script}
use Rattle.hd_session.proofs.laws.scripts_are_determined.Goals as goal

pub returns-clause-standard : goal.returns-clause-standard
returns-clause-standard g c =
    λ k seat turns steps ss ends ends' events events'.
    standard_script c.each_body_has_one_answer.ensures.asks c.each_body_has_one_answer.ensures.answer
    c.only_patron_messages_look.ensures
    k seat g.O.Office.faults turns steps ss ends ends' events events'

pub returns-clause-shown : goal.returns-clause-shown
returns-clause-shown g c =
    λ k seat turns steps ss ends ends' events events' one.
    one_script c.each_body_has_one_answer.ensures.asks c.each_body_has_one_answer.ensures.answer k seat
    g.O.Office.shows one
    g.O.Office.faults turns steps ss ends ends' events events'
