use Rattle.std.proofs.Common.{◌≡◌, ℕ, List, [], ◌∷◌, ◌++◌, take}
use Rattle.hd_opening.specs.Pieces.{ArePieceTexts, behind_bars}
use Rattle.hd_opening.proofs.writing.put_line.Given as goal

-- the values so far stand behind the letter, each behind its bar
abbrev pub invariant-loop-piece : goal.invariant-loop-piece
invariant-loop-piece g l =
    (texts : List (List ℕ)) × ArePieceTexts l.catalogue (take l.piece-index l.pieces) texts
    × (l.out.items ≡ (l.fn.out.items ++ l.letter ∷ []) ++ behind_bars texts)
