use Rattle.std.proofs.Common.{◌+◌, ◌≤◌, length, Result}
use Rattle.std.specs.Str.Lines.{lines}
use Rattle.hd_catalogue.specs.Contents.{Contents}
use Rattle.hd_catalogue.specs.Files.{lines_of}
use Rattle.hd_catalogue.specs.declared.cause.CatFault.{CatFault}
use Rattle.hd_catalogue.proofs.FileLemmas.{Follows, IsReading}
use Rattle.hd_catalogue.proofs.catalogue.Catalogue.read.Given as goal

-- the file's reading is what follows from the catalogue so far and the lines that are left
abbrev pub invariant-loop-rest : goal.invariant-loop-rest
invariant-loop-rest g l = record {
  counted : l.number + length l.rest ≤ length l.bytes + 1;
  follows : (r : Result Contents CatFault) → Follows (l.number + 1) (lines l.rest) l.catalogue r
      → IsReading (lines_of l.bytes) r;
}

abbrev pub decreases-loop-rest : goal.decreases-loop-rest
decreases-loop-rest g l = length l.rest
