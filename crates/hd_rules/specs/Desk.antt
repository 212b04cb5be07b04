-- A desk gives each copy a place and each pair of title and patron a hold or none.
use Rattle.std.specs.Prelude.{◌&&◌, ◌==◌, Option, None, List, [], ◌∷◌, if◌then◌else◌}
use Rattle.hd_rules.specs.Words.{Hold, CopyState, Shelf, Cell, CopyCell, HoldCell, Value, CopyHas, HoldHas}
use Rattle.hd_rules.specs.Words.{Change}
use Rattle.hd_rules.specs.Numbers.{BranchNo, CopyNo, TitleNo, PatronNo}
pub use Rattle.hd_rules.specs.Changes.{same_cell}

-- what each cell has (§ State)
pub record Desk : Type 0 where
  pub copy : CopyNo → CopyState
  pub hold : TitleNo → PatronNo → Option Hold

-- each copy at home, and no holds (§ State)
abbrev pub at_home : (CopyNo → BranchNo) → Desk
at_home home = record { copy = λ c. Shelf (home c); hold = λ t p. None }

-- what a cell has
abbrev pub value : Desk → Cell → Value
value d (CopyCell c) = CopyHas (d.copy c)
value d (HoldCell t p) = HoldHas (d.hold t p)

-- the desk with this value in this cell
abbrev pub put : Desk → Cell → Value → Desk
put d (CopyCell c) (CopyHas v) = record d { copy = λ x. if c == x then v else d.copy x }
put d (HoldCell t p) (HoldHas v) = record d { hold = λ u q. if (t == u) && (p == q) then v else d.hold u q }
put d _ _ = d

-- the desk after these changes, in order
abbrev pub after : List Change → Desk → Desk
after [] d = d
after (change ∷ changes) d = after changes (put d change.cell change.new)

-- the desk with these changes taken back, the last one first
abbrev pub take_back : List Change → Desk → Desk
take_back [] d = d
take_back (change ∷ changes) d = put (take_back changes d) change.cell change.old
