use Rattle.std.proofs.Common.{◌≡◌, ◌++◌, ℕ, List, All, Contains, flat_map, length}
use Rattle.hd_replay.specs.Printing.{printed_line}
use Rattle.hd_replay.proofs.Lining.{ended}
use Rattle.hd_replay.proofs.printing.print_replies.Given as goal

-- the replies so far are printed
abbrev pub invariant-loop-reply : goal.invariant-loop-reply
invariant-loop-reply g l =
    (done : List (List ℕ)) × (l.replies ≡ ended 13 done ++ l.rest) × All (λ reply. Contains reply 13 → ⊥) done
    × (l.out.items ≡ l.fn.out.items ++ flat_map (printed_line l.session) done)

abbrev pub decreases-loop-reply : goal.decreases-loop-reply
decreases-loop-reply g l = length l.rest
