use Rattle.std.proofs.Common.{◌≡◌}
use Rattle.test_parts.proofs.halls.looks.write_often.Given as goal

abbrev pub invariant-loop : goal.invariant-loop
invariant-loop g l = l.seat.parts ≡ 1
