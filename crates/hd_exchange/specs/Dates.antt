-- The dates of a message: how they are read, and what a reply prints (docs/protocol.md, "Dates").
use Rattle.std.specs.Prelude.{◌≡◌, ℕ, ℤ, List, Option, None, Some}
use Rattle.hd_date.specs.Faults.{IsFirstFault}
use Rattle.hd_date.specs.Stamps.{IsStamp, Prints, Stamp}
use Rattle.hd_date.specs.declared.fault.DateFault.{DateFault}
use Rattle.hd_exchange.specs.declared.dates.Dates.{Dates}

-- a text reads as this stamp, or can't be read
abbrev pub IsReadAs : ℤ → List ℕ → Option Stamp → Type 0
IsReadAs offset text (Some stamp) = IsStamp text offset stamp
IsReadAs offset text None = (fault : DateFault) × IsFirstFault text offset fault

-- the same of a text that may be missing
abbrev pub IsReadIfAny : ℤ → Option (List ℕ) → Option Stamp → Type 0
IsReadIfAny offset None stamp = stamp ≡ None
IsReadIfAny offset (Some text) stamp = IsReadAs offset text stamp

-- The text reads as a stamp of this day.
pub record IsOfDay (offset : ℤ) (text : List ℕ) (number : ℕ) : Type 0 where
  pub stamp : Stamp
  pub reads : IsStamp text offset stamp
  pub day : stamp.day ≡ number

-- the day of a date that may be stated: none where none is stated, and nothing where the date can't be read
abbrev pub IsStatedAs : ℤ → Option (List ℕ) → Option (Option ℕ) → Type 0
IsStatedAs offset None stated = stated ≡ Some None
IsStatedAs offset (Some text) (Some (Some day)) = IsOfDay offset text day
IsStatedAs offset (Some text) (Some None) = ⊥
IsStatedAs offset (Some text) None = (fault : DateFault) × IsFirstFault text offset fault

-- a reply prints the transaction date, or the present where that can't be read
abbrev pub PrintsDate : Stamp → Option Stamp → List ℕ → Type 0
PrintsDate now None text = Prints now text
PrintsDate now (Some stamp) text = Prints stamp text

-- The dates are those of a transaction date, which a message that is cut short lacks, and of another date
-- that may be stated.
pub record AreDatesOf (offset : ℤ) (now : Stamp) (text stated : Option (List ℕ)) (dates : Dates)
    : Type 0 where
  pub transaction : IsReadIfAny offset text dates.transaction
  pub printed : PrintsDate now dates.transaction dates.printed
  pub other : IsStatedAs offset stated dates.other
