-- The names of the files of a library's periods: a number of four digits or more, a dot, and what the file
-- is.
use Rattle.std.specs.Prelude.{◌≡◌, ◌≢◌, ℕ, ◌<◌, ◌≤◌, ◌^◌, ◌==◌, Bool, true, false, List, codes, length}
use Rattle.std.specs.Prelude.{slice_index}
use Rattle.std.specs.List.{after_first, before_first}
use Rattle.std.specs.Str.Parse.{IsNumeral, digits_value}
use Rattle.hd_periods.specs.declared.name.FileKind.{FileKind}
use Rattle.hd_periods.specs.declared.name.FileKind.TheVariants.{Catalogue, Opening, Journal, Joined}
use Rattle.hd_periods.specs.declared.name.PeriodFile.{PeriodFile}
use Rattle.hd_periods.specs.declared.name.FileName.{FileName}

abbrev pub is_dot : ℕ → Bool
is_dot byte = byte == 46

-- the text after the first dot of a name, by what the file is and whether it is a part file
abbrev pub word_of : FileKind → Bool → List ℕ
word_of Catalogue false = codes "catalogue"
word_of Catalogue true = codes "catalogue.part"
word_of Opening false = codes "opening"
word_of Opening true = codes "opening.part"
word_of Journal false = codes "journal"
word_of Journal true = codes "journal.part"
word_of Joined false = codes "joined"
word_of Joined true = codes "joined.part"

-- Four digits are written at least, and no zero stands before five or more.
abbrev pub IsPadded : List ℕ → Type 0
IsPadded digits = (4 ≤ length digits) × (4 < length digits → slice_index digits 0 ≢ 48)

-- the text of a period's number: periods are numbered from 1
abbrev pub IsNumberText : List ℕ → Type 0
IsNumberText digits =
    IsNumeral 10 digits × (0 < digits_value 10 digits) × (digits_value 10 digits < 2 ^ 32) × IsPadded digits

-- A file has this name.
pub record IsName (file : FileName) (name : List ℕ) : Type 0 where
  pub number : IsNumberText (before_first is_dot name)
  pub value : digits_value 10 (before_first is_dot name) ≡ file.file.number
  pub word : after_first is_dot name ≡ word_of file.file.kind file.is_part

-- a file of a period, the name that it has when it is whole, and that of its part file
abbrev pub file : ℕ → FileKind → PeriodFile
file number kind = record { number = number; kind = kind }

abbrev pub whole : ℕ → FileKind → FileName
whole number kind = record { file = file number kind; is_part = false }

abbrev pub part : ℕ → FileKind → FileName
part number kind = record { file = file number kind; is_part = true }
