-- What a stop leaves during a join.
use Rattle.std.proofs.Common.{◌≡◌, ◌≢◌, ◌⊎◌, inl, inr, ℕ, List, [], ◌∷◌, Option, Some, None, refl, sym, ◌∙◌}
use Rattle.std.proofs.Common.{subst}
use Rattle.hd_periods.specs.declared.name.FileKind.{FileKind}
use Rattle.hd_periods.specs.declared.name.FileKind.TheVariants.{Joined}
use Rattle.hd_periods.specs.declared.name.PeriodFile.{PeriodFile}
use Rattle.hd_periods.specs.declared.step.Step.{Step}
use Rattle.hd_periods.specs.declared.step.Step.TheVariants.{Write, Sync, Rename, SyncFolder}
use Rattle.hd_periods.specs.Folders.{Content, Whole, Torn, Folder, put, synced, MayLeave}
use Rattle.hd_periods.specs.Names.{file, part, whole}
use Rattle.hd_periods.specs.Steps.{join_steps}
use Rattle.hd_periods.specs.Laws.{IsWritten, KeepsAllButJoined}
use Rattle.hd_periods.proofs.Stops.{LeftDuring, after, Keep, kept_after, up_to_sync}
use Rattle.hd_periods.proofs.Puts.{put_here, written_and_synced, part_is_beside, other_file_stays}

-- the lines are those of before, or all of them
pub record HasLinesOrAll (bytes : PeriodFile → List ℕ) (start : Folder) (number : ℕ) (folder : Folder) :
    Type 0 where
  pub others : KeepsAllButJoined number start folder
  pub lines : (folder (whole number Joined) ≡ start (whole number Joined))
      ⊎ IsWritten bytes folder number Joined

module _ (bytes : PeriodFile → List ℕ) (start : Folder) (number : ℕ) where
  abbrev steps : List Step
  steps = Write (part number Joined) ∷ Sync (part number Joined) ∷ Rename (file number Joined) ∷ []

  abbrev synced_beside : Folder
  synced_beside = after bytes start (Write (part number Joined) ∷ Sync (part number Joined) ∷ [])

  beside : (folder : Folder) (content : Option Content) → HasLinesOrAll bytes start number folder
      → HasLinesOrAll bytes start number (put folder (part number Joined) content)
  beside folder content has = record {
    others = λ of kind other. part_is_beside folder number of Joined kind content ∙ has.others of kind other;
    lines = has.lines;
  }

  renamed : (folder : Folder) → HasLinesOrAll bytes start number folder
      → HasLinesOrAll bytes start number
      (put folder (whole number Joined) (synced_beside (part number Joined)))
  renamed folder has = record {
    others = λ of kind other.
        other_file_stays folder number of kind (synced_beside (part number Joined)) other
        ∙ has.others of kind other;
    lines =
        inr (put_here folder (whole number Joined) (synced_beside (part number Joined))
        ∙ written_and_synced start (part number Joined) (bytes (file number Joined)));
  }

  keep : Keep bytes (HasLinesOrAll bytes start number) start steps
  keep = (
    λ folder has. beside folder (Some Torn) has,
    (
      λ folder has. beside folder (synced (bytes (file number Joined)) (folder (part number Joined))) has,
      (
        λ folder has.
            beside (put folder (whole number Joined) (synced_beside (part number Joined)))
            None (renamed folder has),
        tt,
      ),
    ),
  )

  begins : HasLinesOrAll bytes start number start
  begins = record { others = λ of kind other. refl; lines = inl refl }

  pub lines_or_all : (left : Folder)
      → LeftDuring bytes start (λ folder. folder ≡ start) (join_steps number) left
      → HasLinesOrAll bytes start number left
  lines_or_all left h =
      elim (up_to_sync bytes (HasLinesOrAll bytes start number) steps [] start (λ folder. folder ≡ start) left
      begins (λ folder e. subst (HasLinesOrAll bytes start number) (sym e) begins) keep h) [
        | inl has ↦ has
        | inr e ↦
            subst (HasLinesOrAll bytes start number) (sym e)
            (kept_after bytes (HasLinesOrAll bytes start number) steps start keep begins)
      ]
