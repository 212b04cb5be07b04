use Rattle.std.proofs.Common.{◌≡◌, ◌+◌, ◌++◌, ◌≤◌, length, map}
use Rattle.std.specs.Str.Lines.{lines}
use Rattle.hd_catalogue.specs.Files.{lines_of}
use Rattle.hd_diagnosis.specs.Odd.{odd_lines}
use Rattle.hd_diagnosis.specs.declared.diagnosing.TheConstants.{MOST_TOLD}
use Rattle.hd_diagnosis.proofs.warning.warn.Given as goal

abbrev pub invariant-loop-rest : goal.invariant-loop-rest
invariant-loop-rest l = record {
  counted : l.number + length l.rest ≤ length l.bytes + 1;
  few : length l.told.items ≤ MOST_TOLD;
  told : map (λ w. w.line) l.told.items ++ odd_lines (l.number + 1) (lines l.rest)
      ≡ odd_lines 1 (lines_of l.bytes);
}

abbrev pub decreases-loop-rest : goal.decreases-loop-rest
decreases-loop-rest l = length l.rest
