use Rattle.std.proofs.Common.{◌≡◌, drop}
use Rattle.hd_records.specs.Laid.{have_count}
use Rattle.hd_records.proofs.mending.has_count.Given as goal

abbrev pub invariant-loop-finding : goal.invariant-loop-finding
invariant-loop-finding l = have_count l.findings ≡ have_count (drop l.finding-index l.findings)
