use Rattle.std.proofs.Common.{◌+◌, ◌≤◌, length}
use Rattle.std.specs.Str.Lines.{lines}
use Rattle.hd_catalogue.specs.Files.{lines_of}
use Rattle.hd_opening.proofs.ReadLemmas.{HasRead}
use Rattle.hd_opening.proofs.reading.read.Given as goal

-- the lines before those that are left say the rows so far
abbrev pub invariant-loop-rest : goal.invariant-loop-rest
invariant-loop-rest g l = record {
  counted : l.number + length l.rest ≤ length l.bytes + 1;
  so_far : HasRead l.catalogue l.digest (lines_of l.bytes) l.last l.number l.rows.items (lines l.rest);
}

abbrev pub decreases-loop-rest : goal.decreases-loop-rest
decreases-loop-rest g l = length l.rest
