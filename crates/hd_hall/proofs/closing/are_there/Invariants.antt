use Rattle.std.proofs.Common.{drop, ◌↔◌}
use Rattle.hd_hall.specs.Closings.{AreThere}
use Rattle.hd_hall.proofs.closing.are_there.Given as goal

abbrev pub invariant-loop-seat : goal.invariant-loop-seat
invariant-loop-seat g l =
    AreThere (g.T.Turns.turns l.journal) l.last (drop l.seat-index l.seats)
    ↔ AreThere (g.T.Turns.turns l.journal) 0 l.seats
