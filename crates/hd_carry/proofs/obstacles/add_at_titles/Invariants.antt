use Rattle.std.proofs.Common.{◌≡◌, ◌++◌}
use Rattle.hd_desk.specs.Asking.{queues_of}
use Rattle.hd_carry.specs.Numbers.{renumbering}
use Rattle.hd_carry.specs.Obstacles.{titles_obstacles}
use Rattle.hd_carry.proofs.obstacles.add_at_titles.Given as goal

abbrev pub invariant-loop-number : goal.invariant-loop-number
invariant-loop-number g l =
    l.obstacles.items ≡ l.fn.obstacles.items ++ titles_obstacles (renumbering l.numbers) (queues_of l.desk)
    l.number
