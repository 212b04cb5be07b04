use Rattle.hd_desk.proofs.Making.{Readying}
use Rattle.hd_desk.proofs.cells.DeskCells.ready.Given as goal

abbrev pub invariant-loop-change : goal.invariant-loop-change
invariant-loop-change g l = Readying l.fn.self l.changes l.change-index l.self
