use Rattle.std.proofs.Common.{◌≡◌, ◌<◌, ℕ}
use Rattle.hd_rules.specs.Sound.{Sound}
use Rattle.hd_desk.specs.Desks.{desk_of, facts}
use Rattle.test_parts.proofs.halls.freshness.fresh.Given as goal

abbrev pub invariant-loop-survivor : goal.invariant-loop-survivor
invariant-loop-survivor l =
    goal.iterator-loop-survivor.can_next l.survivor-iterator
    × goal.iterator-loop-survivor.is_finite l.survivor-iterator
    × ((n : ℕ) → l.last < n → Sound (facts l.desk) n (desk_of l.desk))
