-- What a journal's file holds, and what a stop may leave of it.
use Rattle.std.specs.Prelude.{◌≡◌, ℕ, Bool, false, IfSome, List, Option}
use Rattle.sqlite.specs.Recovery.{Image}
use Rattle.sqlite.specs.State.{State, HasCleanDisk}
use Rattle.sqlite.specs.Tree.{Trees}
use Rattle.hd_rules.specs.Journal.{Turn, IsLegal}
use Rattle.hd_catalogue.specs.Contents.{Contents, facts_of}
use Rattle.hd_turn_store.specs.Kept.{KeptTurn, Head}
use Rattle.hd_turn_store.specs.Tables.{Stores}
use Rattle.hd_turn_store.specs.Holds.{Holds}
use Rattle.hd_turn_store.specs.Crashes.{HoldsTurns}
use Rattle.hd_turn_row.specs.Rows.{AreTurnRows}

-- The turns are legal, and just their rows are kept, under some head.
pub record AreInFile (k : Contents) (turns : List Turn) (Keeps : Head → List KeptTurn → Type 0) : Type 0 where
  pub legal : IsLegal (facts_of k) turns
  pub head : Head
  pub rows : List KeptTurn
  pub keeps : Keeps head rows
  pub are : AreTurnRows k head.format turns rows

module _ (k : Contents) (s : State) where
  -- a connection sees just these turns, each committed
  abbrev pub HasTurns : List Turn → Type 0
  HasTurns turns = AreInFile k turns (Holds s)

  -- it does, and the file is of the catalogue file with this digest, where one is told
  pub record HasTurnsOf (digest : Option (List ℕ)) (turns : List Turn) : Type 0 where
    pub has : HasTurns turns
    pub catalogue : IfSome digest (λ told. has.head.catalogue ≡ told)

  -- a crash may leave a database with just these turns
  pub record LeavesTurns (left : List Turn) : Type 0 where
    pub database : Trees
    pub may : s.may_leave database
    pub kept : AreInFile k left (λ head rows. Stores head rows database)

-- Without this nothing is claimed of a file: the disk has so far returned what was written to it, and a file
-- that isn't new held a journal as it was opened.
pub record IsReliable (image : Image) (is_new : Bool) (s : State) : Type 0 where
  pub clean : HasCleanDisk s
  pub found : is_new ≡ false → (head : Head) × (rows : List KeptTurn) × HoldsTurns image head rows

module _ (image : Image) (is_new : Bool) (k : Contents) (s : State) where
  -- The file holds just these turns, each committed, and is of the catalogue file with this digest.
  abbrev pub HoldsJournal : Option (List ℕ) → List Turn → Type 0
  HoldsJournal digest turns = IsReliable image is_new s → HasTurnsOf k s digest turns

  -- A stop at this moment may leave just these turns in the file.
  abbrev pub MayLeave : List Turn → Type 0
  MayLeave left = IsReliable image is_new s × LeavesTurns k s left
