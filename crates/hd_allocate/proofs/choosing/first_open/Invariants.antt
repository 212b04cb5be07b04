use Rattle.std.proofs.Common.{◌≡◌, find}
use Rattle.hd_allocate.specs.Choosing.{is_open}
use Rattle.hd_allocate.proofs.choosing.first_open.Given as goal

abbrev pub invariant-loop-hold : goal.invariant-loop-hold
invariant-loop-hold g l = find (is_open l.day) l.hold-iterator ≡ find (is_open l.day) l.fn.waiting
