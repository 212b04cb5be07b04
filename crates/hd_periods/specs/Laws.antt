-- What a stop leaves of a library.
use Rattle.std.specs.Prelude.{◌≡◌, ◌≢◌, ◌⊎◌, ℕ, ◌≤◌, ◌<◌, List, take, Option, Some, None}
use Rattle.hd_periods.specs.declared.name.FileKind.{FileKind}
use Rattle.hd_periods.specs.declared.name.FileKind.TheVariants.{Catalogue, Opening, Journal, Joined}
use Rattle.hd_periods.specs.declared.name.PeriodFile.{PeriodFile}
use Rattle.hd_periods.specs.declared.name.FileName.{FileName}
use Rattle.hd_periods.specs.Folders.{Content, Whole, Folder, IsThere, MayLeave}
use Rattle.hd_periods.specs.Periods.{IsLibrary, IsUpTo}
use Rattle.hd_periods.specs.Steps.{carry_steps, join_steps}
use Rattle.hd_periods.specs.Names.{file, whole}

-- All files of all other periods are as they were, their part files too.
abbrev pub KeepsOthers : ℕ → Folder → Folder → Type 0
KeepsOthers number old new = (name : FileName) → name.file.number ≢ number → new name ≡ old name

-- The file of this kind of a period is there, with these bytes, and the disk has all of them.
abbrev pub IsWritten : (PeriodFile → List ℕ) → Folder → ℕ → FileKind → Type 0
IsWritten bytes folder number kind = folder (whole number kind) ≡ Some (Whole (bytes (file number kind)))

-- All files of a period are there, each with its bytes.
pub record IsWhole (bytes : PeriodFile → List ℕ) (folder : Folder) (number : ℕ) : Type 0 where
  pub catalogue : IsWritten bytes folder number Catalogue
  pub opening : IsWritten bytes folder number Opening
  pub journal : IsWritten bytes folder number Journal

-- The library of the next period, with all its files.
pub record IsCarried (bytes : PeriodFile → List ℕ) (folder : Folder) (next : ℕ) : Type 0 where
  pub library : IsLibrary (IsThere folder) (Some next)
  pub files : IsWhole bytes folder next

-- A carry to the next period of a library, or a beginning of that period, is a run of steps: a stop after any
-- of them leaves the library as it was, or the next period with all its files.
abbrev pub AStopLeavesTheOldOrTheNew : Type 0
AStopLeavesTheOldOrTheNew =
    (bytes : PeriodFile → List ℕ) (start left : Folder) (last : Option ℕ) (next count : ℕ) → 1 < next
    → ¬ IsUpTo last next → IsLibrary (IsThere start) last
    → MayLeave bytes start (take count (carry_steps next)) left
    → KeepsOthers next start left × (IsLibrary (IsThere left) last ⊎ IsCarried bytes left next)

-- After all of its steps it leaves the next period.
abbrev pub ACarryThatEndedStays : Type 0
ACarryThatEndedStays =
    (bytes : PeriodFile → List ℕ) (start left : Folder) (last : Option ℕ) (next : ℕ) → 1 < next
    → ¬ IsUpTo last next → IsLibrary (IsThere start) last → MayLeave bytes start (carry_steps next) left
    → IsCarried bytes left next

-- All files but the one of the lines that joined a period are as they were, where they have their names.
abbrev pub KeepsAllButJoined : ℕ → Folder → Folder → Type 0
KeepsAllButJoined number old new =
    (of : ℕ) (kind : FileKind) → file of kind ≢ file number Joined → new (whole of kind) ≡ old (whole of kind)

-- A stop after any step of a join leaves the lines as they were, or all of them, and no other file changes.
abbrev pub AStopLeavesTheLinesOrAll : Type 0
AStopLeavesTheLinesOrAll =
    (bytes : PeriodFile → List ℕ) (start left : Folder) (number count : ℕ)
    → MayLeave bytes start (take count (join_steps number)) left
    → KeepsAllButJoined number start left × ((left (whole number Joined) ≡ start (whole number Joined))
    ⊎ IsWritten bytes left number Joined)

-- After all of its steps all lines are there.
abbrev pub AJoinThatEndedStays : Type 0
AJoinThatEndedStays =
    (bytes : PeriodFile → List ℕ) (start left : Folder) (number : ℕ)
    → MayLeave bytes start (join_steps number) left → IsWritten bytes left number Joined
