use Rattle.hd_desk.proofs.Telling.{Putting}
use Rattle.hd_desk.proofs.desk.Desk.put_rows.Given as goal

abbrev pub invariant-loop-at : goal.invariant-loop-at
invariant-loop-at g l = Putting l.fn.self l.rows l.at l.self
