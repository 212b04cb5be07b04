-- What is found in a journal's file, and why one isn't opened.
use Rattle.std.specs.Prelude.{◌≡◌, ◌⊎◌, ℕ, Bool, false, List, [], Option, Some, IsTrue}
use Rattle.sqlite.specs.Files.{file_state, over_files}
use Rattle.sqlite.specs.Held.{Held, state}
use Rattle.sqlite.specs.Recovery.{Image}
use Rattle.sqlite.specs.State.{State, HasCleanDisk}
use Rattle.sqlite.specs.Tree.{Trees}
use Rattle.sqlite_disk.specs.declared.Disk.{Ghosts}
use Rattle.sqlite_store.specs.declared.store.FileStore.{FileStore}
use Rattle.sqlite_trees.specs.declared.store.Store.{Ghosts as StoreGhosts}
use Rattle.hd_rules.specs.Journal.{Turn}
use Rattle.hd_catalogue.specs.Contents.{Contents}
use Rattle.hd_journal.specs.Books.{Book}
use Rattle.hd_turn_store.specs.Kept.{KeptTurn, Head, new_head}
use Rattle.hd_turn_store.specs.Faults.{IsWritingFault, RefusesConnection, RefusesHead}
use Rattle.hd_turn_store.specs.Holds.{BeginsOrReads, Holds}
use Rattle.hd_turn_store.specs.Tables.{Stores}
use Rattle.hd_turn_store.specs.Unmarked.{RefusesTurns}
use Rattle.hd_turn_store.specs.declared.fault.Fault.{Fault}
use Rattle.hd_turn_store.specs.Crashes.{HoldsTurns}
use Rattle.hd_turn_row.specs.Rows.{AreTurnRows}
use Rattle.hd_journal_file.specs.Restored.{RefusesRows}
use Rattle.hd_journal_file.specs.declared.opening.Wanted.{Wanted}
use Rattle.hd_journal_file.specs.declared.open_fault.OpenFault.{OpenFault}
use Rattle.hd_journal_file.specs.declared.open_fault.OpenFault.TheVariants.{File, OtherCatalogue}
use Rattle.hd_journal_file.specs.declared.open_fault.OpenFault.TheVariants.{Turns, Memory}

-- The file is of the wanted catalogue, or of another, which is accepted.
abbrev pub MayBeTaken : Wanted → Head → Type 0
MayBeTaken wanted head = (head.catalogue ≡ wanted.digest.now) ⊎ IsTrue wanted.is_other_accepted

-- the same head, of the wanted catalogue
abbrev pub wanted_head : Wanted → Head → Head
wanted_head wanted head = record head { catalogue = wanted.digest.now }

-- The turns of a file's rows were taken: it may be, it is of the wanted catalogue now, and the rows are those
-- of the turns.
pub record IsTaken (wanted : Wanted) (s : State) (head : Head) (rows : List KeptTurn) (k : Contents)
    (turns : List Turn) : Type 0 where
  pub may_be : MayBeTaken wanted head
  pub holds : Holds s (wanted_head wanted head) rows
  pub are : AreTurnRows k head.format turns rows

-- Where the disk gave back what was written to it, and the files held a journal, which wasn't begun anew: its
-- turns are taken.
abbrev pub AreFound : Image → Bool → Wanted → State → Contents → List Turn → Type 0
AreFound image is_new wanted s k turns =
    HasCleanDisk s → is_new ≡ false → (head : Head) (rows : List KeptTurn) → HoldsTurns image head rows
    → IsTaken wanted s head rows k turns

-- A journal was begun in a file: where the files held none. It has no turns, and is of the wanted catalogue.
pub record IsBegun (image : Image) (wanted : Wanted) (s : State) (turns : List Turn) : Type 0 where
  pub none : (head : Head) (rows : List KeptTurn) → ¬ HoldsTurns image head rows
  pub empty : turns ≡ []
  pub holds : Holds s (new_head wanted.digest.now) []

-- A journal was begun over a connection, or else it sees what the files held.
pub record BegunOrSeen (image : Image) (is_new : Bool) (wanted : Wanted) (s : State) : Type 0 where
  pub begun : HasCleanDisk s → IsTrue is_new → IsBegun image wanted s []
  pub seen : HasCleanDisk s → is_new ≡ false → (head : Head) (rows : List KeptTurn)
      → HoldsTurns image head rows → Holds s head rows

-- The journal's file is told by this catalogue, and is new where it was begun. Of which catalogue file one is
-- that was begun, it isn't told.
pub record IsFileOf (k contents : Contents) (is_new told_new : Bool) (wanted : Wanted)
    (digest : Option (List ℕ)) : Type 0 where
  pub same : contents ≡ k
  pub told : told_new ≡ is_new
  pub catalogue : is_new ≡ false → digest ≡ Some wanted.digest.now

-- The turns of a file that was found are taken over a connection: those that it saw before, and that the
-- files held. A file that is new has none.
pub record TakesAgain (image : Image) (is_new : Bool) (wanted : Wanted) (old new : State) (k : Contents)
    (turns : List Turn) : Type 0 where
  pub clean : HasCleanDisk new → HasCleanDisk old
  pub taken : HasCleanDisk new → is_new ≡ false → (head : Head) (rows : List KeptTurn) → Holds old head rows
      → IsTaken wanted new head rows k turns
  pub found : AreFound image is_new wanted new k turns

-- Files that hold what a connection sees: such are those that a crash leaves.
abbrev pub AreLeftOf : State → Image → Type 0
AreLeftOf s left = (head : Head) (rows : List KeptTurn) → Holds s head rows → HoldsTurns left head rows

-- Why a file isn't opened: it is of another catalogue, which isn't accepted; a row isn't taken; its head
-- can't be read; or the digest of a catalogue that is accepted can't be written. Out of memory is told by the
-- part that was, as `File` or `Turns`.
abbrev pub RefusesFile : State → State → Wanted → Book → Head → List KeptTurn → OpenFault → Type 0
RefusesFile old new wanted book head rows OtherCatalogue = ¬ MayBeTaken wanted head
RefusesFile old new wanted book head rows (Turns fault) =
    MayBeTaken wanted head × RefusesRows head.format book rows 0 fault
RefusesFile old new wanted book head rows (File fault) =
    RefusesHead old new head fault ⊎ (IsTrue wanted.is_other_accepted × IsWritingFault fault)
RefusesFile old new wanted book head rows Memory = ⊥

-- The other catalogue is accepted, the turns of all rows were taken again, and the digest is in the file.
pub record IsRedated (wanted : Wanted) (book : Book) (head : Head) (rows : List KeptTurn) (db : Trees)
    : Type 0 where
  pub accepted : IsTrue wanted.is_other_accepted
  pub are : AreTurnRows book.contents head.format book.turns rows
  pub stores : Stores (wanted_head wanted head) rows db

-- Why a file that was found isn't taken again over a connection: by what it is after the fault. Another
-- catalogue is told only where it isn't accepted.
pub record RefusesJournal {S : Type 0} (g : StoreGhosts S) (c : Held S) (wanted : Wanted) (book : Book)
    (fault : OpenFault) : Type 0 where
  pub other : fault ≡ OtherCatalogue → wanted.is_other_accepted ≡ false
  pub after : Held S
  pub cause : HasCleanDisk (state g after) → (head : Head) (rows : List KeptTurn)
      → Holds (state g c) head rows → RefusesFile (state g c) (state g after) wanted book head rows fault

module _ {D : Type 0} {g : Ghosts D} where
  -- the file of a connection isn't opened for turns
  pub record RefusesOpenFile (c : Held (FileStore D g)) (fault : OpenFault) : Type 0 where
    pub why : Fault
    pub told : fault ≡ File why
    pub left : FileStore D g
    pub refuses : RefusesTurns c why left

  -- Why the file of a connection isn't opened: it was found, and its turns aren't taken again; it is for
  -- turns, and isn't opened for them; or memory is wanting.
  abbrev pub RefusesOver : Held (FileStore D g) → Bool → Bool → Wanted → Book → OpenFault → Type 0
  RefusesOver c is_new is_for_turns wanted book fault =
      ((is_new ≡ false) × RefusesJournal over_files c wanted book fault)
      ⊎ ((IsTrue is_for_turns × ((taken : Held (FileStore D g)) × RefusesOpenFile taken fault))
      ⊎ (fault ≡ Memory))

  -- its database is no journal that can be read, or be begun
  pub record RefusesDatabase (c : Held (FileStore D g)) (fault : OpenFault) : Type 0 where
    pub why : Fault
    pub told : fault ≡ File why
    pub refuses : RefusesConnection over_files c why

  -- a journal is begun in it, or found, and isn't opened
  pub record RefusesRead (c : Held (FileStore D g)) (is_for_turns : Bool) (wanted : Wanted) (book : Book)
      (fault : OpenFault) : Type 0 where
    pub opened : Held (FileStore D g)
    pub is_new : Bool
    pub reads : BeginsOrReads wanted.digest.now is_new (file_state c) (file_state opened)
    pub refuses : RefusesOver opened is_new is_for_turns wanted book fault

  -- Why what was connected to isn't opened as a journal.
  abbrev pub RefusesConnected : Held (FileStore D g) → Bool → Wanted → Book → OpenFault → Type 0
  RefusesConnected c is_for_turns wanted book fault =
      RefusesDatabase c fault ⊎ RefusesRead c is_for_turns wanted book fault
