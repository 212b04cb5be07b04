-- The room for writes of a desk's cells.
use Rattle.std.specs.Prelude.{ℕ, ◌≢◌, ◌≤◌, length, Some, None, Result, Ok, Err}
use Rattle.hd_rules.specs.declared.cells.Cell.{Cell}
use Rattle.hd_rules.specs.declared.cells.Cell.TheVariants.{Copy as CopyCell, Hold as HoldCell}
use Rattle.hd_rules.specs.declared.cells.Value.{Value}
use Rattle.hd_rules.specs.declared.cells.Value.TheVariants.{Copy as CopyHas, Hold as HoldHas}
use Rattle.hd_rules.specs.declared.replies.Refusal.{Refusal}
use Rattle.hd_rules.specs.Ask.{Done}
use Rattle.hd_rules.specs.Desk.{value}
use Rattle.hd_copies.specs.Standing.{HasRoom}
use Rattle.hd_holds.specs.Held.{room_of}
use Rattle.hd_desk.specs.DeskValue.{DeskValue}
use Rattle.hd_desk.specs.Desks.{desk_of}
use Rattle.hd_inverse.specs.Cells.{HaveRoom}
pub use Rattle.hd_inverse.specs.Work.{after_writes}

-- room for that many more holds of the title, or for a copy where it goes; the end of a hold needs none
abbrev pub IsReadyFor : DeskValue → Cell → Value → ℕ → Type 0
IsReadyFor d (CopyCell c) (CopyHas s) more = HasRoom d.copies.rooms s
IsReadyFor d (CopyCell c) (HoldHas o) more = Unit {0}
IsReadyFor d (HoldCell t p) (HoldHas (Some h)) more = more ≤ room_of d.holds t
IsReadyFor d (HoldCell t p) (HoldHas None) more = Unit {0}
IsReadyFor d (HoldCell t p) (CopyHas s) more = Unit {0}

-- room for that many writes like this one; a cell's own value needs none
abbrev pub HasRoomFor : DeskValue → Cell → Value → ℕ → Type 0
HasRoomFor d cell v more = value (desk_of d) cell ≢ v → IsReadyFor d cell v more

-- the command is accepted, and there is too little room for what it changes
abbrev pub IsShortOfRoom : DeskValue → Result Done Refusal → Type 0
IsShortOfRoom d (Ok done) = HaveRoom (HasRoomFor d) (length done.changes) done.changes → ⊥
IsShortOfRoom d (Err refusal) = ⊥
