use Rattle.hd_session.proofs.Looks.{fed_stays, fed_turns, script_turns}
use Rattle.hd_session.proofs.laws.only_patron_messages_look_in_sessions.Goals as goal

pub returns-clause-extensions : goal.returns-clause-extensions
returns-clause-extensions g c = λ k seat now room piece did h h' text.
    fed_stays k seat g.O.Office.faults now room piece did h h' text

pub returns-clause-fed : goal.returns-clause-fed
returns-clause-fed g c = λ k seat now room piece did h h' text.
    fed_turns c.only_patron_messages_look.ensures k seat g.O.Office.faults now room piece did h h' text

pub returns-clause-script : goal.returns-clause-script
returns-clause-script g c =
    λ k seat. script_turns c.only_patron_messages_look.ensures k seat g.O.Office.faults
