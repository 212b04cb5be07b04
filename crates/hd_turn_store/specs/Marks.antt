-- The mark in a journal's file.
use Rattle.std.specs.Prelude.{◌≡◌, ◌≢◌, ◌⊎◌, ◌++◌, ◌∷◌, ℕ, List, [], IsTrue, codes, take}
use Rattle.sqlite.specs.Closing.{HoldsAlone}
use Rattle.sqlite.specs.Held.{AreDatabases}
use Rattle.sqlite_store.specs.FileStore.{state}
use Rattle.sqlite_trees.specs.declared.store.Store.{Ghosts as StoreGhosts}
use Rattle.hd_turn_store.specs.Words.{FileStore, Ghosts, HasCleanDisk, Held, Image, IsFresh}
use Rattle.hd_turn_store.specs.Words.{IsClean, IsQuiet, IsRolledBack, Trees, View, file_state}
use Rattle.hd_turn_store.specs.Words.{log_frames, recovers, user_version, version_rows, version_tree, view}
use Rattle.hd_turn_store.specs.Holds.{Holds}
use Rattle.hd_turn_store.specs.Kept.{Head, KeptTurn}
use Rattle.hd_turn_store.specs.Tables.{Stores}

-- a server has it open, so that its last turns may lie in the log alone
abbrev pub open_mark : ℕ
open_mark = 1

-- it was ended well, so that all of it lies in the database file
abbrev pub ended_mark : ℕ
ended_mark = 2

-- SQLite keeps the mark as a database's user version, which is a tree of one row.
abbrev pub HasMark : ℕ → Trees → Type 0
HasMark mark db = db version_tree ≡ version_rows mark

-- It stands in SQLite's header, the first 100 bytes of a database file, which begins with the format's name.
pub record SaysMark (head : List ℕ) (mark : ℕ) : Type 0 where
  pub magic : take 16 head ≡ codes "SQLite format 3" ++ 0 ∷ []
  pub version : user_version head ≡ mark

-- The two files hold a database with this head and just these turns, which was ended well, and so does the
-- database file with no log.
abbrev pub HoldsEnded : Image → Head → List KeptTurn → Type 0
HoldsEnded left h ks = (db : Trees) × HoldsAlone left db × Stores h ks db × HasMark ended_mark db

-- a store has this mark, and is otherwise as it was
pub record GetsMark (mark : ℕ) (old new : View) : Type 0 where
  pub mark_is : HasMark mark new.trees
  pub others : (tree : ℕ) → tree ≢ version_tree → new.trees tree ≡ old.trees tree
  pub settled : old.trees ≡ old.committed → new.trees ≡ new.committed
  pub numbered : new.is_numbered ≡ old.is_numbered
  pub is_open : new.is_open ≡ old.is_open

-- two databases are the same but for their marks
abbrev pub SameButMark : Trees → Trees → Type 0
SameButMark one two = (tree : ℕ) → tree ≢ version_tree → two tree ≡ one tree

-- what a store sees, with any mark, where it is open
abbrev pub MayHaveMark : View → Trees → Type 0
MayHaveMark v db = IsTrue v.is_open × SameButMark v.trees db

-- a crash leaves what it could leave of the store, or what the store sees, with any mark
abbrev pub MayGetMark : {D : Type 0} {g : Ghosts D} → FileStore D g → Trees → Type 0
MayGetMark store db = MayHaveMark (view store) db ⊎ recovers store db

-- The store of a database that is committed gets this mark, with which all of it is committed, and its log is
-- empty.
pub record PutsMark {D : Type 0} {g : Ghosts D} (mark : ℕ) (old new : FileStore D g) : Type 0 where
  pub is_open : IsTrue (view new).is_open
  pub fresh : IsTrue (view old).is_numbered → IsFresh (view new)
  pub mark_is : HasMark mark (view new).committed
  pub others : SameButMark (view old).trees (view new).committed
  pub emptied : log_frames new ≡ 0

-- whatever a crash leaves of the store has the journal's head and just its turns
abbrev pub KeepsTurns : {D : Type 0} {g : Ghosts D} → Held (FileStore D g) → FileStore D g → Type 0
KeepsTurns c store =
    (head : Head) (ks : List KeptTurn) → Holds (file_state c) head ks
    → (db : Trees) → recovers store db → Stores head ks db

-- The store has what the connection had committed, and this mark. Whatever a crash leaves, the database file
-- has all of it without a log.
pub record IsMarked {D : Type 0} {g : Ghosts D} (c : Held (FileStore D g)) (mark : ℕ) (store : FileStore D g)
    : Type 0 where
  pub was_clean : HasCleanDisk (file_state c)
  pub fresh : IsFresh (view store)
  pub mark_is : HasMark mark (view store).committed
  pub kept : (head : Head) (ks : List KeptTurn) → Holds (file_state c) head ks
      → Stores head ks (view store).committed
  pub copied : (head : Head) (ks : List KeptTurn) → Holds (file_state c) head ks → (left : Image)
      → (state store).may_leave left → HoldsAlone left (view store).committed

-- The store that a connection leaves has what was committed alone, and a crash leaves no more of it than
-- before.
pub record IsReleased {S : Type 0} (g : StoreGhosts S) (old new : S) : Type 0 where
  pub numbered : IsClean (g.view new) → IsTrue (g.view new).is_numbered
  pub sound : IsClean (g.view new) → AreDatabases (g.recovers new)
  pub undone : IsRolledBack (g.view old) (g.view new)
  pub quiet : IsQuiet g.view g.faults g.recovers g.is_shielded old new
