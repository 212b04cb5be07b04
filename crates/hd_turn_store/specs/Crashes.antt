-- What the files hold, also after a crash.
use Rattle.std.specs.Prelude.{◌≡◌, List}
use Rattle.hd_turn_store.specs.Words.{HasCleanDisk, HoldsDatabase, Image, State, Trees}
use Rattle.hd_turn_store.specs.Kept.{KeptTurn, Head}
use Rattle.hd_turn_store.specs.Holds.{Holds}
use Rattle.hd_turn_store.specs.Tables.{IsJournal, Stores, no_schema}

-- the two files hold a database, with this head and just these turns
abbrev pub HoldsTurns : Image → Head → List KeptTurn → Type 0
HoldsTurns left h ks = ∥ ((db : Trees) × HoldsDatabase left db × Stores h ks db) ∥₁

-- A connection finds what the files hold: where they hold a journal it shows its tables, and has its turns.
pub record FindsJournal (image : Image) (s : State) : Type 0 where
  pub held : HasCleanDisk s → (head : Head) (ks : List KeptTurn) → HoldsTurns image head ks
      → IsJournal s.now.schema → Holds s head ks
  pub blank : HasCleanDisk s → s.now.schema ≡ no_schema → (head : Head) (ks : List KeptTurn)
      → ¬ HoldsTurns image head ks
