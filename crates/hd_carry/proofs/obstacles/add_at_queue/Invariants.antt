use Rattle.std.proofs.Common.{◌≡◌, ◌++◌}
use Rattle.std.specs.List.{flat_map}
use Rattle.hd_carry.specs.Numbers.{renumbering}
use Rattle.hd_carry.specs.Obstacles.{hold_obstacles}
use Rattle.hd_carry.proofs.obstacles.add_at_queue.Given as goal

-- what was added, and what stands in the way at the holds that are left
abbrev pub invariant-loop-hold : goal.invariant-loop-hold
invariant-loop-hold g l =
    l.obstacles.items ++ flat_map (hold_obstacles (renumbering l.numbers) l.title) l.hold-iterator
    ≡ l.fn.obstacles.items ++ flat_map (hold_obstacles (renumbering l.numbers) l.title) l.fn.holds
