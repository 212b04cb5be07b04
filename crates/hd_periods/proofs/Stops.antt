-- What a stop leaves during steps, by what holds between them.
use Rattle.std.proofs.Common.{◌≡◌, ◌⊎◌, inl, inr, ℕ, zero, suc, List, [], ◌∷◌, ◌++◌, take, sym, subst}
use Rattle.hd_periods.specs.declared.name.PeriodFile.{PeriodFile}
use Rattle.hd_periods.specs.declared.step.Step.{Step}
use Rattle.hd_periods.specs.declared.step.Step.TheVariants.{Write, Sync, Rename, Remove, SyncFolder}
use Rattle.hd_periods.specs.Folders.{Folder, changed, LeftAfter, LeftAfterAll}

module _ (bytes : PeriodFile → List ℕ) where
  -- what a stop may leave before the first of these steps, after the last one, or between two
  abbrev pub LeftDuring : Folder → (Folder → Type 0) → List Step → Folder → Type 0
  LeftDuring now before [] left = before left
  LeftDuring now before (step ∷ steps) left =
      before left ⊎ LeftDuring (changed bytes now step now) (LeftAfter bytes now before step) steps left

  pub during : (count : ℕ) (steps : List Step) (now : Folder) (before : Folder → Type 0) (left : Folder)
      → LeftAfterAll bytes now before (take count steps) left → LeftDuring now before steps left
  during zero [] now before left h = h
  during zero (step ∷ steps) now before left h = inl h
  during (suc count) [] now before left h = h
  during (suc count) (step ∷ steps) now before left h =
      inr (during count steps (changed bytes now step now) (LeftAfter bytes now before step) left h)

  -- what programs see after these steps
  abbrev pub after : Folder → List Step → Folder
  after now [] = now
  after now (step ∷ steps) = after (changed bytes now step now) steps

  -- each of these steps leaves a folder with I one with I
  abbrev pub Keep : (Folder → Type 0) → Folder → List Step → Type 0
  Keep I now [] = Unit {0}
  Keep I now (step ∷ steps) =
      ((folder : Folder) → I folder → I (changed bytes now step folder))
      × Keep I (changed bytes now step now) steps

  kept : (I : Folder → Type 0) (now : Folder) (before : Folder → Type 0) (step : Step) (left : Folder)
      → ((folder : Folder) → before folder → I folder)
      → ((folder : Folder) → I folder → I (changed bytes now step folder))
      → (folder : Folder) × before folder × ((left ≡ folder) ⊎ (left ≡ changed bytes now step folder))
      → I left
  kept I now before step left begins keeps h =
      elim h.2 [
        | inl same ↦ subst I (sym same) (begins h.0 h.1)
        | inr other ↦ subst I (sym other) (keeps h.0 (begins h.0 h.1))
      ]

  pub kept_by : (I : Folder → Type 0) (now : Folder) (before : Folder → Type 0) (step : Step) (left : Folder)
      → ((folder : Folder) → before folder → I folder)
      → ((folder : Folder) → I folder → I (changed bytes now step folder))
      → I now → LeftAfter bytes now before step left → I left
  kept_by I now before (Write name) left begins keeps here h =
      kept I now before (Write name) left begins keeps h
  kept_by I now before (Sync name) left begins keeps here h =
      kept I now before (Sync name) left begins keeps h
  kept_by I now before (Rename file) left begins keeps here h =
      kept I now before (Rename file) left begins keeps h
  kept_by I now before (Remove file) left begins keeps here h =
      kept I now before (Remove file) left begins keeps h
  kept_by I now before SyncFolder left begins keeps here h = subst I (sym h) here

  -- up to a sync of the folder a stop leaves a folder with I; from there on it begins with what programs see
  pub up_to_sync : (I : Folder → Type 0) (steps rest : List Step) (now : Folder) (before : Folder → Type 0)
      (left : Folder) → I now → ((folder : Folder) → before folder → I folder) → Keep I now steps
      → LeftDuring now before (steps ++ (SyncFolder ∷ rest)) left
      → I left ⊎ LeftDuring (after now steps) (λ folder. folder ≡ after now steps) rest left
  up_to_sync I [] rest now before left here begins keeps h =
      elim h [
        | inl b ↦ inl (begins left b)
        | inr more ↦ inr more
      ]
  up_to_sync I (step ∷ steps) rest now before left here begins keeps h =
      elim h [
        | inl b ↦ inl (begins left b)
        | inr more ↦
            up_to_sync I steps rest (changed bytes now step now) (LeftAfter bytes now before step) left
            (keeps.0 now here)
            (λ folder g. kept_by I now before step folder begins keeps.0 here g) keeps.1 more
      ]

  -- what programs see after steps that keep it
  pub kept_after : (I : Folder → Type 0) (steps : List Step) (now : Folder) → Keep I now steps → I now
      → I (after now steps)
  kept_after I [] now keeps here = here
  kept_after I (step ∷ steps) now keeps here =
      kept_after I steps (changed bytes now step now) keeps.1 (keeps.0 now here)
