use Rattle.std.proofs.Common.{◌≡◌, length}
use Rattle.std.specs.List.{list_any}
use Rattle.hd_diagnosis.specs.Odd.{has_odd, is_odd}
use Rattle.hd_diagnosis.proofs.warning.warning_of.Given as goal

-- whether a value that is left is odd is whether one of the line is
abbrev pub invariant-loop-value : goal.invariant-loop-value
invariant-loop-value l = list_any is_odd l.values ≡ has_odd l.text

abbrev pub decreases-loop-value : goal.decreases-loop-value
decreases-loop-value l = length l.values
