use Rattle.hd_session.proofs.Causes.{fed_other}
use Rattle.hd_session.proofs.Playing.{none_ends_so}
use Rattle.hd_session.proofs.laws.no_session_ends_by_another_fault.Goals as goal

pub returns-clause-fed : goal.returns-clause-fed
returns-clause-fed g c =
    λ k seat now room piece did h h' text f other never. fed_other k seat g.O.Office.faults f other never now
    room piece did h h' text

pub returns-clause-script : goal.returns-clause-script
returns-clause-script g c =
    λ k seat steps ss ss' events f other never. none_ends_so k seat g.O.Office.faults f other never steps ss
    ss' events
