use Rattle.std.proofs.Common.{◌≡◌, ◌+◌, ◌++◌, ◌≤◌, length, map}
use Rattle.std.specs.Str.Lines.{lines}
use Rattle.hd_catalogue.specs.Files.{lines_of}
use Rattle.hd_diagnosis.specs.Faults.{faults_from, faults_of}
use Rattle.hd_diagnosis.specs.declared.diagnosing.TheConstants.{MOST_TOLD}
use Rattle.hd_diagnosis.proofs.diagnosing.diagnose.Given as goal

abbrev pub invariant-loop-rest : goal.invariant-loop-rest
invariant-loop-rest l = record {
  counted : l.number + length l.rest ≤ length l.bytes + 1;
  few : length l.told.items ≤ MOST_TOLD;
  told : map (λ f. f.at) l.told.items ++ faults_from l.refused l.known (l.number + 1) (lines l.rest)
      ≡ faults_of l.refused (lines_of l.bytes);
}

abbrev pub decreases-loop-rest : goal.decreases-loop-rest
decreases-loop-rest l = length l.rest
