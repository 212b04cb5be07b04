use Rattle.std.proofs.Common.{string_bytes}
use Rattle.hd_import.proofs.WriteLemmas.{TablesSoFar}
use Rattle.hd_import.proofs.importing.lines_of_sheets.Given as goal

-- the lines of the sheets so far stand behind the first one
abbrev pub invariant-loop-sheet : goal.invariant-loop-sheet
invariant-loop-sheet l =
    TablesSoFar l.settings l.format l.sources l.sheets l.sheet-index (string_bytes l.text) l.counts.items
