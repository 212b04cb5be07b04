-- Room for writes of a desk's cells.
use Rattle.std.specs.Prelude.{ℕ, ◌≤◌, Some, None}
use Rattle.std.proofs.Math.Nat.{le_trans}
use Rattle.hd_rules.specs.declared.cells.Cell.{Cell}
use Rattle.hd_rules.specs.declared.cells.Cell.TheVariants.{Copy as CopyCell, Hold as HoldCell}
use Rattle.hd_rules.specs.declared.cells.Value.{Value}
use Rattle.hd_rules.specs.declared.cells.Value.TheVariants.{Copy as CopyHas, Hold as HoldHas}
use Rattle.hd_desk.specs.DeskValue.{DeskValue}
use Rattle.hd_desk.specs.Cells.{HasRoomFor, IsReadyFor}

ready_fewer : (d : DeskValue) (x : Cell) (v : Value) (m n : ℕ) → m ≤ n → IsReadyFor d x v n
    → IsReadyFor d x v m
ready_fewer d (CopyCell c) (CopyHas s) m n le room = room
ready_fewer d (CopyCell c) (HoldHas o) m n le room = tt
ready_fewer d (HoldCell t p) (HoldHas (Some h)) m n le room = le_trans le room
ready_fewer d (HoldCell t p) (HoldHas None) m n le room = tt
ready_fewer d (HoldCell t p) (CopyHas s) m n le room = tt

-- room for more is room for fewer
pub fewer : (d : DeskValue) (x : Cell) (v : Value) (m n : ℕ) → m ≤ n → HasRoomFor d x v n
    → HasRoomFor d x v m
fewer d x v m n le room = λ other. ready_fewer d x v m n le (room other)
