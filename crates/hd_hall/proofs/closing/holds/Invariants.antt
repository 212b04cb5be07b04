use Rattle.std.proofs.Common.{◌≡◌}
use Rattle.hd_journal.specs.Shown.{turn_shown}
use Rattle.hd_hall.proofs.Walking.{FirstAre}
use Rattle.hd_hall.proofs.closing.holds.Given as goal

abbrev pub invariant-loop-receipt : goal.invariant-loop-receipt
invariant-loop-receipt g l =
    FirstAre (λ r. r ≡ record { number = l.number; turn = turn_shown l.turn } → ⊥) l.receipt-index l.receipts
