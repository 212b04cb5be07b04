-- The steps of a carry and of a join, in their order.
use Rattle.std.specs.Prelude.{ℕ, List, [], ◌∷◌}
use Rattle.hd_periods.specs.declared.name.FileKind.TheVariants.{Catalogue, Opening, Journal, Joined}
use Rattle.hd_periods.specs.declared.step.Step.{Step}
use Rattle.hd_periods.specs.declared.step.Step.TheVariants.{Write, Sync, Rename, Remove, SyncFolder}
use Rattle.hd_periods.specs.Names.{file, part, whole}

-- The opening is whole before the catalogue has its name, and gets its own name last: this makes the period
-- complete.
abbrev pub carry_steps : ℕ → List Step
carry_steps number =
    Write (part number Opening) ∷ Sync (part number Opening)
    ∷ Write (part number Catalogue) ∷ Sync (part number Catalogue) ∷ SyncFolder
    ∷ Rename (file number Catalogue)
    ∷ Remove (file number Journal) ∷ Write (whole number Journal) ∷ Sync (whole number Journal) ∷ SyncFolder
    ∷ Rename (file number Opening) ∷ SyncFolder ∷ []

-- The lines that joined before and the new ones are written to a part file.
abbrev pub join_steps : ℕ → List Step
join_steps number =
    Write (part number Joined) ∷ Sync (part number Joined) ∷ Rename (file number Joined) ∷ SyncFolder ∷ []
