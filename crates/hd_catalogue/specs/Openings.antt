-- Why a catalogue's journal can't begin by some rows.
use Rattle.std.specs.Prelude.{ℕ, ◌+◌, ◌<◌, List, length}
use Rattle.std.specs.List.{AllWithin, HoldsAt}
use Rattle.hd_rules.specs.declared.limits.TheConstants.{MOST_GIVEN}
use Rattle.hd_rules.specs.declared.rows.OpeningRow.{OpeningRow}
use Rattle.hd_rules.specs.Facts.{Facts}
use Rattle.hd_rules.specs.Numbers.{HoldStamp}
use Rattle.hd_catalogue.specs.Contents.{Fits, OpeningRows}
use Rattle.hd_catalogue.specs.declared.opening.OpeningFault.{OpeningFault}
use Rattle.hd_catalogue.specs.declared.opening.OpeningFault.TheVariants.{Last, Row}

-- the row with this index, from 0, is the first that doesn't fit
pub record IsFirstUnfit (k : Facts) (n : HoldStamp) (rows : List OpeningRow) (index : ℕ) : Type 0 where
  pub in_range : index < length rows
  pub here : HoldsAt (λ row. Fits k n row → ⊥) rows index
  pub earlier : AllWithin (Fits k n) rows 0 index

-- the last number is too high, or that is the first row that doesn't fit
abbrev pub IsOpeningFault : Facts → OpeningRows → OpeningFault → Type 0
IsOpeningFault k opening Last = MOST_GIVEN < opening.last
IsOpeningFault k opening (Row index) = IsFirstUnfit k (opening.last + 1) opening.rows index
