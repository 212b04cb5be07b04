use Rattle.std.proofs.Common.{◌≡◌}
use Rattle.hd_list_pages.specs.Counting.{IsOf}
use Rattle.hd_list_pages.proofs.tallied.TurnTallies.go_on.Given as goal

-- those up to here
abbrev pub invariant-loop-place : goal.invariant-loop-place
invariant-loop-place g l =
    (l.self.place ≡ l.place) × (l.self.begun ≡ l.fn.self.begun)
    × (IsOf l.journal.turns l.fn.self → IsOf l.journal.turns l.self)
