use Rattle.hd_session.proofs.Playing.{hears_pieces, new_hears_stream}
use Rattle.hd_session.proofs.laws.sessions_hear_their_streams.Goals as goal

pub returns-clause-pieces : goal.returns-clause-pieces
returns-clause-pieces g c = λ k seat. hears_pieces k seat g.O.Office.faults

pub returns-clause-whole : goal.returns-clause-whole
returns-clause-whole g c = λ k e seat. new_hears_stream k seat g.O.Office.faults
    (record { lines = c.cuts_change_nothing.ensures.lines; rest = c.cuts_change_nothing.ensures.rest }) e
