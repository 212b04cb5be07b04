use Rattle.hd_inverse.proofs.Backward.{Undoing}
use Rattle.hd_inverse.proofs.undoing.put_back.Given as goal

abbrev pub invariant-loop-change : goal.invariant-loop-change
invariant-loop-change g l =
    Undoing (g.C.Cells.contents l.fn.cells)
    (g.C.Cells.desk l.fn.cells) l.fn.meter l.changes l.change-iterator.iter.rest.now
    (g.C.Cells.contents l.cells) (g.C.Cells.desk l.cells) (g.C.Cells.has_room l.cells) l.meter
