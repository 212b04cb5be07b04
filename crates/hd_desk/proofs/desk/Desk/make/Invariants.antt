use Rattle.hd_desk.proofs.Making.{Making}
use Rattle.hd_desk.proofs.desk.Desk.make.Given as goal

abbrev pub invariant-loop-change : goal.invariant-loop-change
invariant-loop-change g l = Making l.fn.self l.fn.meter l.changes l.change-index l.self l.meter
