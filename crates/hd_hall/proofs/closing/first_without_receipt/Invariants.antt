use Rattle.std.proofs.Common.{◌≡◌, ◌+◌, ◌<◌, ℕ, Some, slice_get}
use Rattle.std.specs.List.{Contains}
use Rattle.hd_rules.specs.Journal.{Turn}
use Rattle.hd_hall.specs.Seats.{all_receipts}
use Rattle.hd_hall.proofs.closing.first_without_receipt.Given as goal

abbrev pub invariant-loop-at : goal.invariant-loop-at
invariant-loop-at g l =
    (k : ℕ) → k < l.at → (t : Turn) → slice_get (g.T.Turns.turns l.journal) k ≡ Some t
    → Contains (all_receipts l.seats) (record { number = k + 1; turn = t })
