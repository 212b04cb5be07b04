-- Why a text is read as no stamp.
use Rattle.std.specs.Prelude.{◌≡◌, ℕ, List, None, ℤ, length}
use Rattle.hd_date.specs.Stamps.{HasDigits, IsOutOfRange, IsUnreal, zone_of}
use Rattle.hd_date.specs.declared.fault.DateFault.{DateFault}
use Rattle.hd_date.specs.declared.fault.DateFault.TheVariants.{Length, Digits, Zone, Calendar, Range}

-- the first fault of a text, in the order in which the cases stand here
abbrev pub IsFirstFault : List ℕ → ℤ → DateFault → Type 0
IsFirstFault text offset Length = ¬ (length text ≡ 18)
IsFirstFault text offset Digits = (length text ≡ 18) × (¬ HasDigits text)
IsFirstFault text offset Zone = (length text ≡ 18) × HasDigits text × (zone_of text ≡ None)
IsFirstFault text offset Calendar = IsUnreal text
IsFirstFault text offset Range = IsOutOfRange text offset
