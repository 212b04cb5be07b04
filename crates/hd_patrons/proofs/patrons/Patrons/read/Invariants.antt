use Rattle.std.proofs.Common.{◌≡◌, ◌+◌, ◌≤◌, length}
use Rattle.std.specs.Str.Lines.{lines}
use Rattle.hd_catalogue.specs.Contents.{facts_of}
use Rattle.hd_catalogue.specs.Files.{lines_of}
use Rattle.hd_patrons.proofs.ReadLemmas.{HasRead}
use Rattle.hd_patrons.proofs.patrons.Patrons.read.Given as goal

-- the lines before those that are left say what is in store so far
abbrev pub invariant-loop-rest : goal.invariant-loop-rest
invariant-loop-rest g l = record {
  counted : l.number + length l.rest ≤ length l.bytes + 1;
  room : length l.table.places ≡ (facts_of l.catalogue).patrons;
  so_far : HasRead l.catalogue (lines_of l.bytes) l.table l.number (lines l.rest);
}

abbrev pub decreases-loop-rest : goal.decreases-loop-rest
decreases-loop-rest g l = length l.rest
