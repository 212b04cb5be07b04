use Rattle.hd_desk.proofs.Making.{Picked}
use Rattle.hd_desk.proofs.accepted.put_real_changes.Given as goal

abbrev pub invariant-loop-change : goal.invariant-loop-change
invariant-loop-change l = Picked l.changes l.change-index l.footprint
