-- Cells and lists of changes: which cells are one, which values fit, and when changes are apart.
use Rattle.std.specs.Prelude.{◌≡◌, ◌≢◌, Bool, false, ◌&&◌, ◌==◌, List, [], ◌∷◌}
use Rattle.hd_rules.specs.Words.{Cell, CopyCell, HoldCell, Value, CopyHas, HoldHas, Change}

-- the two are one cell
abbrev pub same_cell : Cell → Cell → Bool
same_cell (CopyCell c) (CopyCell x) = c == x
same_cell (HoldCell t p) (HoldCell u q) = (t == u) && (p == q)
same_cell _ _ = false

-- the value is of the cell's kind
abbrev pub Fits : Cell → Value → Type 0
Fits (CopyCell c) (CopyHas s) = Unit {0}
Fits (HoldCell t p) (HoldHas h) = Unit {0}
Fits _ _ = ⊥

-- the changes are of other cells
abbrev pub Elsewhere : Cell → List Change → Type 0
Elsewhere y [] = Unit {0}
Elsewhere y (c ∷ cs) = (same_cell c.cell y ≡ false) × Elsewhere y cs

-- the changes are of distinct cells, each to another value of the cell's kind
abbrev pub AreChanges : List Change → Type 0
AreChanges [] = Unit {0}
AreChanges (c ∷ cs) = (c.old ≢ c.new) × Fits c.cell c.new × Elsewhere c.cell cs × AreChanges cs
