use Rattle.std.proofs.Common.{◌≡◌, ◌++◌, length}
use Rattle.std.specs.Prelude.{filter}
use Rattle.std.specs.Str.Lines.{lines}
use Rattle.hd_catalogue.specs.Files.{lines_of}
use Rattle.hd_joining.specs.Joining.{joining_lines, lacks, text_of}
use Rattle.hd_joining.proofs.writing.joining.Given as goal

-- what is written, and what joins of the lines that are left, is all that joins
abbrev pub invariant-loop-rest : goal.invariant-loop-rest
invariant-loop-rest g l =
    l.out.items ++ text_of (filter (lacks l.old) (lines l.rest)) ≡ text_of (joining_lines l.old (lines_of l.file))

abbrev pub decreases-loop-rest : goal.decreases-loop-rest
decreases-loop-rest g l = length l.rest
