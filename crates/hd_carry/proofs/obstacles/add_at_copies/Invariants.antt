use Rattle.std.proofs.Common.{◌≡◌, ◌++◌}
use Rattle.hd_desk.specs.Desks.{desk_of, facts}
use Rattle.hd_carry.specs.Numbers.{renumbering}
use Rattle.hd_carry.specs.Obstacles.{copies_obstacles}
use Rattle.hd_carry.specs.WriteOffs.{is_noted, without_loans}
use Rattle.hd_carry.proofs.obstacles.add_at_copies.Given as goal

abbrev pub invariant-loop-number : goal.invariant-loop-number
invariant-loop-number g l =
    l.obstacles.items ≡ l.fn.obstacles.items ++ copies_obstacles (renumbering l.numbers)
    (without_loans (facts l.desk) (is_noted l.write_off) (desk_of l.desk)) l.number
