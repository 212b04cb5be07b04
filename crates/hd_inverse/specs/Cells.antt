-- Cells that can be written, and changes of them that can be made and taken back.
use Rattle.std.specs.Prelude.{◌≡◌, ℕ, ◌≤◌, List, [], ◌∷◌}
use Rattle.hd_rules.specs.declared.copies.CopyState.TheVariants.{Shelf, OnLoan, OnHoldShelf, InTransit}
use Rattle.hd_rules.specs.declared.cells.Cell.{Cell}
use Rattle.hd_rules.specs.declared.cells.Value.{Value}
use Rattle.hd_rules.specs.declared.cells.Value.TheVariants.{Copy as CopyHas, Hold as HoldHas}
use Rattle.hd_rules.specs.declared.cells.Change.{Change}
use Rattle.hd_rules.specs.Facts.{Facts}
use Rattle.hd_rules.specs.Desk.{Desk, take_back}
use Rattle.hd_rules.specs.Known.{IsKnownCell, IsKnownValue}
use Rattle.hd_rules.specs.Run.{Elsewhere, Fits}
use Rattle.hd_rules.specs.Sound.{EachBackIsFit}

-- where it is a place on a hold shelf, one from 1
abbrev pub IsFromOne : Value → Type 0
IsFromOne (CopyHas (OnHoldShelf s)) = 1 ≤ s.place
IsFromOne (CopyHas (Shelf b)) = Unit {0}
IsFromOne (CopyHas (OnLoan l)) = Unit {0}
IsFromOne (CopyHas (InTransit t)) = Unit {0}
IsFromOne (HoldHas o) = Unit {0}

-- a cell of the catalogue, and a value of its kind that names things of the catalogue
pub record MayHave (k : Facts) (x : Cell) (v : Value) : Type 0 where
  pub cell : IsKnownCell k x
  pub kind : Fits x v
  pub known : IsKnownValue k v
  pub from_one : IsFromOne v

-- each of the changes is from such a value of its cell to another
abbrev pub AreKnownChanges : Facts → List Change → Type 0
AreKnownChanges k [] = Unit {0}
AreKnownChanges k (c ∷ cs) = MayHave k c.cell c.old × MayHave k c.cell c.new × AreKnownChanges k cs

-- the changes are of distinct cells
abbrev pub AreApart : List Change → Type 0
AreApart [] = Unit {0}
AreApart (c ∷ cs) = Elsewhere c.cell cs × AreApart cs

-- for each of the changes, room for that many writes like one of its old value, and like one of its new value
abbrev pub HaveRoom : (Cell → Value → ℕ → Type 0) → ℕ → List Change → Type 0
HaveRoom has_room more [] = Unit {0}
HaveRoom has_room more (c ∷ cs) =
    has_room c.cell c.old more × has_room c.cell c.new more × HaveRoom has_room more cs

-- the changes led from the first desk to the second, and can be taken back there
pub record CanBeUndone (k : Facts) (d e : Desk) (changes : List Change) : Type 0 where
  pub known : AreKnownChanges k changes
  pub apart : AreApart changes
  pub fit : EachBackIsFit k changes e
  pub before : take_back changes e ≡ d
