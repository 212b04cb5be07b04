use Rattle.hd_hall.specs.Receipts.{StandsAt}
use Rattle.hd_hall.proofs.Walking.{FirstAre}
use Rattle.hd_hall.proofs.closing.all_stand.Given as goal

abbrev pub invariant-loop-receipt : goal.invariant-loop-receipt
invariant-loop-receipt g l = FirstAre (StandsAt (g.T.Turns.turns l.journal)) l.receipt-index l.receipts
