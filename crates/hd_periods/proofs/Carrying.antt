-- What a stop leaves of a library during a carry to the next period.
use Rattle.std.proofs.Common.{arith, ◌≡◌, ◌≢◌, ◌⊎◌, inl, inr, ℕ, ◌<◌, ◌≤◌, List, [], ◌∷◌, ◌++◌, take, Option}
use Rattle.std.proofs.Common.{Some, None, refl, ap, sym, ◌∙◌, subst}
use Rattle.hd_periods.specs.declared.name.FileKind.{FileKind}
use Rattle.hd_periods.specs.declared.name.FileKind.TheVariants.{Catalogue, Opening, Journal, Joined}
use Rattle.hd_periods.specs.declared.name.PeriodFile.{PeriodFile}
use Rattle.hd_periods.specs.declared.name.FileName.{FileName}
use Rattle.hd_periods.specs.declared.step.Step.{Step}
use Rattle.hd_periods.specs.declared.step.Step.TheVariants.{Write, Sync, Rename, Remove, SyncFolder}
use Rattle.hd_periods.specs.Folders.{Content, Whole, Torn, Folder, put, synced, changed, MayLeave}
use Rattle.hd_periods.specs.Names.{file, part, whole}
use Rattle.hd_periods.specs.Steps.{carry_steps}
use Rattle.hd_periods.specs.Laws.{KeepsOthers, IsWritten, IsWhole}
use Rattle.hd_periods.proofs.Stops.{LeftDuring, during, after, Keep, kept_after, up_to_sync}
use Rattle.hd_periods.proofs.Puts.{put_here, others_stay, some_is_there, synced_is_there, written_is_there}
use Rattle.hd_periods.proofs.Puts.{written_and_synced}

-- the period isn't begun, or it has the opening beside its name; all other periods are as they were
pub record IsOld (start : Folder) (next : ℕ) (folder : Folder) : Type 0 where
  pub others : KeepsOthers next start folder
  pub opening : folder (whole next Opening) ≡ None
  pub broken : ((folder (whole next Catalogue) ≡ None) × (folder (whole next Journal) ≡ None))
      ⊎ (folder (part next Opening) ≢ None)

-- its opening is beside its name
pub record IsUnderWay (start : Folder) (next : ℕ) (folder : Folder) : Type 0 where
  pub others : KeepsOthers next start folder
  pub opening : folder (whole next Opening) ≡ None
  pub beside : folder (part next Opening) ≢ None

-- all its files are there
pub record IsNew (bytes : PeriodFile → List ℕ) (start : Folder) (next : ℕ) (folder : Folder) : Type 0 where
  pub others : KeepsOthers next start folder
  pub files : IsWhole bytes folder next

module _ (bytes : PeriodFile → List ℕ) (start : Folder) (next : ℕ) where
  abbrev first_steps : List Step
  first_steps =
      Write (part next Opening) ∷ Sync (part next Opening)
      ∷ Write (part next Catalogue) ∷ Sync (part next Catalogue) ∷ []

  abbrev second_steps : List Step
  second_steps =
      Rename (file next Catalogue)
      ∷ Remove (file next Journal) ∷ Write (whole next Journal) ∷ Sync (whole next Journal) ∷ []

  abbrev first : Folder
  first = after bytes start first_steps

  abbrev second : Folder
  second = after bytes first second_steps

  abbrev third : Folder
  third = changed bytes second (Rename (file next Opening)) second

  -- a change of a name of this period that isn't its opening's leaves the old library
  stays_old : (folder : Folder) (name : FileName) (content : Option Content) → name.file.number ≡ next
      → IsOld start next folder
      → put folder name content (whole next Opening) ≡ folder (whole next Opening)
      → put folder name content (whole next Catalogue) ≡ folder (whole next Catalogue)
      → put folder name content (whole next Journal) ≡ folder (whole next Journal)
      → (folder (part next Opening) ≢ None → put folder name content (part next Opening) ≢ None)
      → IsOld start next (put folder name content)
  stays_old folder name content of old opening catalogue journal beside = record {
    others = others_stay next start folder name content of old.others;
    opening = opening ∙ old.opening;
    broken = elim old.broken [
      | inl none ↦ inl (catalogue ∙ none.0, journal ∙ none.1)
      | inr there ↦ inr (beside there)
    ];
  }

  first_keep : Keep bytes (IsOld start next) start first_steps
  first_keep = (
    λ folder old. stays_old folder (part next Opening) (Some Torn) refl old refl refl refl
        (λ h. written_is_there folder (part next Opening) Torn),
    (
      λ folder old. stays_old folder (part next Opening)
          (synced (bytes (file next Opening)) (folder (part next Opening))) refl old refl refl refl
          (λ h. rw put_here (synced_is_there (bytes (file next Opening)) (folder (part next Opening)) h)),
      (
        λ folder old. stays_old folder (part next Catalogue) (Some Torn) refl old refl refl refl (λ h. h),
        (
          λ folder old. stays_old folder (part next Catalogue)
              (synced (bytes (file next Catalogue)) (folder (part next Catalogue)))
              refl old refl refl refl (λ h. h),
          tt,
        ),
      ),
    ),
  )

  stays_under_way : (folder : Folder) (name : FileName) (content : Option Content) → name.file.number ≡ next
      → IsUnderWay start next folder
      → put folder name content (whole next Opening) ≡ folder (whole next Opening)
      → put folder name content (part next Opening) ≡ folder (part next Opening)
      → IsUnderWay start next (put folder name content)
  stays_under_way folder name content of way opening beside = record {
    others = others_stay next start folder name content of way.others;
    opening = opening ∙ way.opening;
    beside = λ e. way.beside (sym beside ∙ e);
  }

  second_keep : Keep bytes (IsUnderWay start next) first second_steps
  second_keep = (
    λ folder way. stays_under_way (put folder (whole next Catalogue) (first (part next Catalogue)))
        (part next Catalogue) None refl
        (stays_under_way folder (whole next Catalogue) (first (part next Catalogue)) refl way refl refl)
        refl refl,
    (
      λ folder way. stays_under_way folder (whole next Journal) None refl way refl refl,
      (
        λ folder way. stays_under_way folder (whole next Journal) (Some Torn) refl way refl refl,
        (
          λ folder way. stays_under_way folder (whole next Journal)
              (synced (bytes (file next Journal)) (folder (whole next Journal))) refl way refl refl,
          tt,
        ),
      ),
    ),
  )

  opening_beside : first (part next Opening) ≡ Some (Whole (bytes (file next Opening)))
  opening_beside = written_and_synced start (part next Opening) (bytes (file next Opening))

  catalogue_beside : first (part next Catalogue) ≡ Some (Whole (bytes (file next Catalogue)))
  catalogue_beside =
      written_and_synced (after bytes start (Write (part next Opening) ∷ Sync (part next Opening) ∷ []))
      (part next Catalogue) (bytes (file next Catalogue))

  first_under_way : IsOld start next start → IsUnderWay start next first
  first_under_way old =
      let then : IsOld start next first =
      kept_after bytes (IsOld start next) first_steps start first_keep old in
      record {
        others = then.others;
        opening = then.opening;
        beside = λ e. some_is_there (Whole (bytes (file next Opening))) (sym opening_beside ∙ e);
      }

  second_under_way : IsOld start next start → IsUnderWay start next second
  second_under_way old =
      kept_after bytes (IsUnderWay start next) second_steps first second_keep (first_under_way old)

  catalogue_written : IsWritten bytes second next Catalogue
  catalogue_written = put_here first (whole next Catalogue) (first (part next Catalogue)) ∙ catalogue_beside

  journal_written : IsWritten bytes second next Journal
  journal_written =
      written_and_synced
      (after bytes first (Rename (file next Catalogue) ∷ Remove (file next Journal) ∷ []))
      (whole next Journal) (bytes (file next Journal))

  opening_written : IsWritten bytes third next Opening
  opening_written = put_here second (whole next Opening) (second (part next Opening)) ∙ opening_beside

  third_new : IsOld start next start → IsNew bytes start next third
  third_new old = record {
    others =
        others_stay next start (put second (whole next Opening) (second (part next Opening)))
        (part next Opening) None refl
        (others_stay next start second (whole next Opening) (second (part next Opening)) refl
        (second_under_way old).others);
    files = record { catalogue = catalogue_written; opening = opening_written; journal = journal_written };
  }

  old_of : (folder : Folder) → IsUnderWay start next folder → IsOld start next folder
  old_of folder way = record { others = way.others; opening = way.opening; broken = inr way.beside }

  in_third : (left : Folder) → IsOld start next start
      → LeftDuring bytes second (λ folder. folder ≡ second)
      (Rename (file next Opening) ∷ SyncFolder ∷ []) left
      → IsOld start next left ⊎ IsNew bytes start next left
  in_third left old (inl e) = inl (subst (IsOld start next) (sym e) (old_of second (second_under_way old)))
  in_third left old (inr (inl (folder, is, inl e))) =
      inl (subst (IsOld start next) (sym (e ∙ is)) (old_of second (second_under_way old)))
  in_third left old (inr (inl (folder, is, inr e))) =
      inr (subst (IsNew bytes start next)
      (sym (e ∙ ap (changed bytes second (Rename (file next Opening))) is))
      (third_new old))
  in_third left old (inr (inr e)) = inr (subst (IsNew bytes start next) (sym e) (third_new old))

  in_second : (left : Folder) → IsOld start next start
      → LeftDuring bytes first (λ folder. folder ≡ first)
      (second_steps ++ (SyncFolder ∷ (Rename (file next Opening) ∷ SyncFolder ∷ []))) left
      → IsOld start next left ⊎ IsNew bytes start next left
  in_second left old h =
      elim (up_to_sync bytes (IsUnderWay start next) second_steps
      (Rename (file next Opening) ∷ SyncFolder ∷ []) first (λ folder. folder ≡ first) left
      (first_under_way old)
      (λ folder e. subst (IsUnderWay start next) (sym e) (first_under_way old)) second_keep h) [
        | inl way ↦ inl (old_of left way)
        | inr more ↦ in_third left old more
      ]

  -- during the steps a stop leaves the old library or the new one
  pub old_or_new : (left : Folder) → IsOld start next start
      → LeftDuring bytes start (λ folder. folder ≡ start) (carry_steps next) left
      → IsOld start next left ⊎ IsNew bytes start next left
  old_or_new left old h =
      elim (up_to_sync bytes (IsOld start next) first_steps
      (second_steps ++ (SyncFolder ∷ (Rename (file next Opening) ∷ SyncFolder ∷ []))) start
      (λ folder. folder ≡ start) left old (λ folder e. subst (IsOld start next) (sym e) old) first_keep h) [
        | inl is_old ↦ inl is_old
        | inr more ↦ in_second left old more
      ]

  -- after all of the steps it is the new one
  pub at_the_end : (left : Folder) → IsOld start next start → MayLeave bytes start (carry_steps next) left
      → IsNew bytes start next left
  at_the_end left old h = subst (IsNew bytes start next) (sym h) (third_new old)
