use Rattle.hd_session.proofs.Playing.{new_at_one_present}
use Rattle.hd_session.proofs.laws.pieces_at_one_present.Goals as goal

pub returns : goal.returns
returns g c = λ k e seat. new_at_one_present k seat g.O.Office.faults
    (record { lines = c.cuts_change_nothing.ensures.lines; rest = c.cuts_change_nothing.ensures.rest }) e
