use Rattle.std.proofs.Common.{◌≡◌, drop}
use Rattle.hd_catalogue.specs.Text.{values_of}
use Rattle.hd_diagnosis.proofs.values.value_at.Given as goal

abbrev pub invariant-loop-index : goal.invariant-loop-index
invariant-loop-index l = l.values ≡ drop l.index (values_of l.line)
