use Rattle.std.proofs.Common.{◌≡◌, drop}
use Rattle.hd_records.specs.Laid.{survivors_in}
use Rattle.hd_records.proofs.survivors.first_survivor.Given as goal

abbrev pub invariant-loop-place : goal.invariant-loop-place
invariant-loop-place l = survivors_in l.slots ≡ survivors_in (drop l.place l.slots)
