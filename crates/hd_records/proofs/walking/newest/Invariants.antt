use Rattle.std.proofs.Common.{◌≡◌, drop, length}
use Rattle.hd_rules.specs.Target.{NoTarget}
use Rattle.hd_records.specs.Looks.{after_looks}
use Rattle.hd_records.specs.Slots.{records_at}
use Rattle.hd_records.specs.Survivors.{survivors_of}
use Rattle.hd_records.proofs.walking.newest.Given as goal

abbrev pub invariant-loop-place : goal.invariant-loop-place
invariant-loop-place g l = record {
  none : NoTarget l.terminal l.what (survivors_of (records_at (drop l.place l.numbers) l.slots.items));
  work : l.meter ≡ after_looks (length (records_at (drop l.place l.numbers) l.slots.items)) l.fn.meter;
}
