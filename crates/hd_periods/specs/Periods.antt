-- Which period of a folder is the library: the last complete one, where no later one lacks a file.
use Rattle.std.specs.Prelude.{◌≡◌, ◌≢◌, ◌⊎◌, ℕ, ◌≤◌, false, Option, Some, None}
use Rattle.hd_periods.specs.declared.name.FileKind.{FileKind}
use Rattle.hd_periods.specs.declared.name.FileKind.TheVariants.{Catalogue, Opening, Journal, Joined}
use Rattle.hd_periods.specs.declared.name.PeriodFile.{PeriodFile}
use Rattle.hd_periods.specs.declared.name.FileName.{FileName}
use Rattle.hd_periods.specs.Names.{whole, part}

-- A number is at most the last one, where there is one.
abbrev pub IsUpTo : Option ℕ → ℕ → Type 0
IsUpTo None number = ⊥
IsUpTo (Some last) number = number ≤ last

module _ (there : FileName → Type 0) where
  -- The file of this kind of a period is there.
  abbrev pub HasFile : ℕ → FileKind → Type 0
  HasFile number kind = there (whole number kind)

  -- All files of a period are there: the first one has no opening.
  abbrev pub IsComplete : ℕ → Type 0
  IsComplete number =
      HasFile number Catalogue × HasFile number Journal × ((number ≡ 1) ⊎ HasFile number Opening)

  -- It is the greatest number all of whose files are there; there is none where no period is complete.
  abbrev pub IsLastComplete : Option ℕ → Type 0
  IsLastComplete None = (number : ℕ) → ¬ IsComplete number
  IsLastComplete (Some last) = IsComplete last × ((number : ℕ) → IsComplete number → number ≤ last)

  -- A carry, or a beginning, was broken off at a period. It writes the opening's part file before any other
  -- file of the period has its name; the beginning of the first period writes the catalogue first.
  abbrev pub IsBrokenOff : ℕ → Type 0
  IsBrokenOff number =
      ((number ≡ 1) × HasFile number Catalogue)
      ⊎ ((number ≢ 1) × ¬ HasFile number Opening × there (part number Opening))

  -- A file, where it is there, is of a period that isn't after the last one, or at which a carry was broken
  -- off.
  abbrev pub IsAccounted : Option ℕ → FileName → Type 0
  IsAccounted last name =
      name.is_part ≡ false → name.file.kind ≢ Joined → ¬ IsUpTo last name.file.number
      → IsBrokenOff name.file.number

  -- The library of a folder is that of this period, or there is none: it is the last complete one, and no
  -- later one lacks a file that it had.
  pub record IsLibrary (last : Option ℕ) : Type 0 where
    pub is_last : IsLastComplete last
    pub later : (name : FileName) → there name → IsAccounted last name

  -- A period after the last complete one, of which there is a file, lacks this file, which it had.
  pub record Lacks (last : Option ℕ) (file : PeriodFile) : Type 0 where
    pub is_last : IsLastComplete last
    pub later : ¬ IsUpTo last file.number
    pub missing : ¬ HasFile file.number file.kind
    pub unbroken : ¬ IsBrokenOff file.number
