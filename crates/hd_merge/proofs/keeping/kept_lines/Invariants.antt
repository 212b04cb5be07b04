use Rattle.std.proofs.Common.{◌≡◌, ◌++◌, length}
use Rattle.std.specs.Prelude.{filter}
use Rattle.std.specs.Str.Lines.{lines}
use Rattle.hd_catalogue.specs.Files.{lines_of}
use Rattle.hd_joining.specs.Joining.{lacks, text_of}
use Rattle.hd_merge.specs.Keeping.{is_line_noted, kept}
use Rattle.hd_merge.proofs.keeping.kept_lines.Given as goal

-- what is written, and what is kept of the lines that are left, is all that is kept
abbrev pub invariant-loop-rest : goal.invariant-loop-rest
invariant-loop-rest g l =
    l.out.items ++ text_of (filter (is_line_noted l.old l.needed) (filter (lacks l.new) (lines l.rest)))
    ≡ text_of (kept l.old l.new l.needed (lines_of l.file))

abbrev pub decreases-loop-rest : goal.decreases-loop-rest
decreases-loop-rest g l = length l.rest
