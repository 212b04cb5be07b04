-- How the faults of an opening's rows are told: by the lines of its file.
use Rattle.std.specs.Prelude.{ℕ, ◌+◌, ◌-◌, ◌^◌, min}
use Rattle.hd_catalogue.specs.declared.opening.OpeningFault.{OpeningFault}
use Rattle.hd_catalogue.specs.declared.opening.OpeningFault.TheVariants as unfit
use Rattle.hd_desk.specs.declared.open_fault.OpenFault.{OpenFault}
use Rattle.hd_desk.specs.declared.open_fault.OpenFault.TheVariants as desk
use Rattle.hd_desk.specs.declared.open_fault.RowFault.{RowFault}
use Rattle.hd_desk.specs.declared.open_fault.RowFault.TheVariants.{Twice, NoHold}
use Rattle.hd_library.specs.declared.fault.SetupFault.{SetupFault}
use Rattle.hd_library.specs.declared.fault.SetupFault.TheVariants.{DoubleRow, Memory, RowWithoutHold, UnfitRow}

-- The line of the row that has so many before it: the first line is the file's heading. The greatest number
-- of a `usize` stands for all greater ones.
abbrev pub line_of : ℕ → ℕ
line_of rows = min (rows + 2) (2 ^ 64 - 1)

-- a row that may not stand, by its line
abbrev pub fault_of_row : RowFault → ℕ → SetupFault
fault_of_row Twice rows = DoubleRow (line_of rows)
fault_of_row NoHold rows = RowWithoutHold (line_of rows)

-- why a desk can't be opened
abbrev pub fault_of_desk : OpenFault → SetupFault
fault_of_desk desk.Memory = Memory
fault_of_desk (desk.Row at cause) = fault_of_row cause at

-- why an opening doesn't fit its catalogue
abbrev pub fault_of_opening : OpeningFault → SetupFault
fault_of_opening unfit.Last = UnfitRow 1
fault_of_opening (unfit.Row index) = UnfitRow (line_of index)
