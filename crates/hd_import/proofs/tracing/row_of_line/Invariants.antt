use Rattle.std.proofs.Common.{◌≡◌, ◌+◌, take}
use Rattle.std.specs.Prelude.{sum}
use Rattle.hd_import.proofs.tracing.row_of_line.Given as goal

-- the line is behind the first line and the rows of the sheets so far
abbrev pub invariant-loop-index : goal.invariant-loop-index
invariant-loop-index l = l.line ≡ 2 + sum (take l.index l.counts) + l.left
