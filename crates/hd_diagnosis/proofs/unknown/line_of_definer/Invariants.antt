use Rattle.std.proofs.Common.{length}
use Rattle.hd_diagnosis.proofs.unknown.line_of_definer.Given as goal

abbrev pub decreases-loop-text : goal.decreases-loop-text
decreases-loop-text l = length l.text
