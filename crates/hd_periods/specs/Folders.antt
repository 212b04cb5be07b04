-- A folder, the steps that change it, and what a stop of the machine leaves. Of the file system this is
-- assumed: a rename is one change; a stop may lose any of the changes of names since the folder was last
-- synced, each by itself, and any bytes of a file that wasn't synced; and no file is written again that was
-- renamed and whose folder wasn't synced.
use Rattle.std.specs.Prelude.{◌≡◌, ◌≢◌, ◌⊎◌, ◌&&◌, ◌==◌, ℕ, Bool, true, false, if◌then◌else◌}
use Rattle.std.specs.Prelude.{List, [], ◌∷◌, Option, Some, None}
use Rattle.hd_periods.specs.declared.name.FileKind.{FileKind}
use Rattle.hd_periods.specs.declared.name.FileKind.TheVariants.{Catalogue, Opening, Journal, Joined}
use Rattle.hd_periods.specs.declared.name.PeriodFile.{PeriodFile}
use Rattle.hd_periods.specs.declared.name.FileName.{FileName}
use Rattle.hd_periods.specs.Names.{part, whole}
use Rattle.hd_periods.specs.declared.step.Step.{Step}
use Rattle.hd_periods.specs.declared.step.Step.TheVariants.{Write, Sync, Rename, Remove, SyncFolder}

-- What a file has: bytes, all of which the disk has, or bytes of which a stop may leave any.
pub data Content : Type 0 where
  Whole : List ℕ → Content
  Torn : Content

-- A folder: what each name leads to.
abbrev pub Folder : Type 0
Folder = FileName → Option Content

abbrev pub same_kind : FileKind → FileKind → Bool
same_kind Catalogue Catalogue = true
same_kind Opening Opening = true
same_kind Journal Journal = true
same_kind Joined Joined = true
same_kind _ _ = false

abbrev pub same_place : Bool → Bool → Bool
same_place true true = true
same_place false false = true
same_place _ _ = false

abbrev pub same_name : FileName → FileName → Bool
same_name a b =
    same_kind a.file.kind b.file.kind && (same_place a.is_part b.is_part && (a.file.number == b.file.number))

-- A name leads to a file.
abbrev pub IsThere : Folder → FileName → Type 0
IsThere folder name = folder name ≢ None

-- a folder with this at a name
abbrev pub put : Folder → FileName → Option Content → Folder
put folder name content = λ x. if same_name name x then content else folder x

-- a file that is there, when the disk has its bytes
abbrev pub synced : List ℕ → Option Content → Option Content
synced bytes None = None
synced bytes (Some content) = Some (Whole bytes)

module _ (bytes : PeriodFile → List ℕ) where
  -- What a step makes of a folder, where programs see the folder `now`. `bytes` are those that a file is to
  -- have.
  abbrev pub changed : Folder → Step → Folder → Folder
  changed now (Write name) folder = put folder name (Some Torn)
  changed now (Sync name) folder = put folder name (synced (bytes name.file) (folder name))
  changed now (Rename file) folder =
      put (put folder (whole file.number file.kind) (now (part file.number file.kind)))
      (part file.number file.kind) None
  changed now (Remove file) folder = put folder (whole file.number file.kind) None
  changed now SyncFolder folder = folder

  -- What a stop may leave after a step, where before it it may leave these folders.
  abbrev pub LeftAfter : Folder → (Folder → Type 0) → Step → Folder → Type 0
  LeftAfter now before SyncFolder left = left ≡ now
  LeftAfter now before step left =
      (folder : Folder) × before folder × ((left ≡ folder) ⊎ (left ≡ changed now step folder))

  -- What a stop may leave after all of these steps.
  abbrev pub LeftAfterAll : Folder → (Folder → Type 0) → List Step → Folder → Type 0
  LeftAfterAll now before [] left = before left
  LeftAfterAll now before (step ∷ steps) left =
      LeftAfterAll (changed now step now) (LeftAfter now before step) steps left

-- What a stop may leave after these steps in a folder that was synced. A stop within a step leaves what one
-- before it may leave, or one after it.
abbrev pub MayLeave : (PeriodFile → List ℕ) → Folder → List Step → Folder → Type 0
MayLeave bytes start steps left = LeftAfterAll bytes start (λ folder. folder ≡ start) steps left
