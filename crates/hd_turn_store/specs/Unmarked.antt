-- Why a journal's file gets no mark, or isn't opened for turns.
use Rattle.std.specs.Prelude.{◌≡◌, ◌⊎◌}
use Rattle.sqlite_trees.specs.declared.error.StoreError.{StoreError}
use Rattle.hd_turn_store.specs.Words.{Error, FailsToOpen, FileStore, Ghosts, Held, IsClean, MoreFaults}
use Rattle.hd_turn_store.specs.Words.{Relays, Tells, blamed, faults, file_state, over_files, view}
use Rattle.hd_turn_store.specs.declared.fault.Fault.{Fault}
use Rattle.hd_turn_store.specs.declared.fault.Fault.TheVariants.{CannotWrite, Damaged}
use Rattle.hd_turn_store.specs.Faults.{mark_fault, opening_fault}
use Rattle.hd_turn_store.specs.Marks.{IsMarked, IsReleased, open_mark}
use Rattle.hd_turn_store.specs.Tables.{IsJournal}

module _ {D : Type 0} {g : Ghosts D} (c : Held (FileStore D g)) (fault : Fault) (left : FileStore D g) where
  -- A mark isn't put: the tables aren't those of a journal, or the store refuses by an error that this fault
  -- tells, and by what its disk did last.
  abbrev pub RefusesMark : Type 0
  RefusesMark =
      ((fault ≡ CannotWrite) × ¬ IsJournal (file_state c).now.schema)
      ⊎ ((error : StoreError) × (fault ≡ mark_fault error) × Tells (blamed left) error)

  -- SQLite refuses to open the store with its mark again, by an error that this fault tells: its trees are no
  -- database, it is out of memory, or the disk failed, as it did last.
  pub record RefusesAgain : Type 0 where
    pub error : Error
    pub told : fault ≡ opening_fault error
    pub relayed : Relays (blamed left) error
    pub cause : IsClean (view left) → (store : FileStore D g) × IsMarked c open_mark store
        × FailsToOpen (view store).trees (MoreFaults (faults store) (faults left)) error

  -- what is opened again hasn't the tables of a journal
  abbrev pub IsJournalNoMore : Type 0
  IsJournalNoMore =
      (fault ≡ Damaged) × ((again : Held (FileStore D g)) × IsReleased over_files again.store left
      × ¬ IsJournal (file_state again).now.schema)

  -- it isn't opened for turns
  abbrev pub RefusesTurns : Type 0
  RefusesTurns = RefusesMark ⊎ (RefusesAgain ⊎ IsJournalNoMore)
