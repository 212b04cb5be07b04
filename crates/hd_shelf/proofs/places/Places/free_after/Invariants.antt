use Rattle.std.proofs.Common.{ℕ, ◌<◌, ◌+◌, IsSome}
use Rattle.std.specs.FinMap.{get}
use Rattle.hd_shelf.proofs.places.Places.free_after.Given as goal

abbrev pub invariant-loop-below : goal.invariant-loop-below
invariant-loop-below g l = (place : ℕ) → l.others < place → place < l.below + 1
    → IsSome (get l.fn.self.copies place)
