use Rattle.hd_session.proofs.Feeding.{fed_after_fed}
use Rattle.hd_session.proofs.laws.pieces_are_one.Goals as goal

pub returns : goal.returns
returns g c = λ k seat. fed_after_fed
    (record { lines = c.cuts_change_nothing.ensures.lines; rest = c.cuts_change_nothing.ensures.rest }) k seat
    g.O.Office.faults
