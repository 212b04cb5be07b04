use Rattle.std.proofs.Common.{◌≡◌, ◌++◌, ℕ, List, Contains, length}
use Rattle.hd_door_client.proofs.rows.before_last_brace.Given as goal

-- there is no brace behind what is left
abbrev pub invariant-loop-byte : goal.invariant-loop-byte
invariant-loop-byte l =
    (behind : List ℕ) × (l.text ≡ l.left ++ behind) × (Contains behind 123 → ⊥)

abbrev pub decreases-loop-byte : goal.decreases-loop-byte
decreases-loop-byte l = length l.left
