use Rattle.std.proofs.Common.{◌≡◌, ◌+◌, ◌-◌, ℕ, None, slice_index_or, vec_len}
use Rattle.hd_journal.proofs.room.reach.Given as goal

abbrev pub invariant-loop-places : goal.invariant-loop-places
invariant-loop-places g l = (t : ℕ)
    → slice_index_or l.places.items t None ≡ slice_index_or l.fn.places.items t None

abbrev pub decreases-loop-places : goal.decreases-loop-places
decreases-loop-places g l = l.index + 1 - vec_len l.places
