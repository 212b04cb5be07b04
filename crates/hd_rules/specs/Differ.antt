-- Desks that differ by some changes.
use Rattle.std.specs.Prelude.{◌≡◌, ◌≢◌, List, [], ◌∷◌}
use Rattle.hd_rules.specs.Words.{Cell, Change}
use Rattle.hd_rules.specs.Desk.{Desk, value}
use Rattle.hd_rules.specs.Run.{Elsewhere}

-- in the change's cell the first desk has the new value and the other the old one, which is another
pub record DifferAt (d e : Desk) (change : Change) : Type 0 where
  pub new : value d change.cell ≡ change.new
  pub old : value e change.cell ≡ change.old
  pub differ : change.old ≢ change.new

-- so it is with each of them
abbrev pub DifferAtEach : Desk → Desk → List Change → Type 0
DifferAtEach d e [] = Unit {0}
DifferAtEach d e (change ∷ changes) = DifferAt d e change × DifferAtEach d e changes

-- the desks differ in the cells of the changes, and in no other
pub record DifferBy (changes : List Change) (d e : Desk) : Type 0 where
  pub elsewhere : (cell : Cell) → Elsewhere cell changes → value d cell ≡ value e cell
  pub each : DifferAtEach d e changes
