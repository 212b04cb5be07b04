use Rattle.std.proofs.Common.{◌≡◌, ℕ, List, ◌∷◌, ◌++◌, take}
use Rattle.hd_opening.specs.Files.{heading_line}
use Rattle.hd_opening.specs.Pieces.{AreLines}
use Rattle.hd_opening.proofs.writing.opening_text.Given as goal

-- the lines of the rows so far stand behind the first line
abbrev pub invariant-loop-row : goal.invariant-loop-row
invariant-loop-row g l =
    (lines : List ℕ) × AreLines l.catalogue (take l.row-index l.rows) lines
    × (l.out.items ≡ heading_line l.digest l.last ++ 10 ∷ lines)
