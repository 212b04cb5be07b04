-- What the database in files was found to hold.
use Rattle.std.proofs.Common.{◌≡◌, List, ap}
use Rattle.std.proofs.Math.Logic.{∥∥₁_elim}
use base.Stored.{Coded-set}
use mathlib.Core.Bool.{Bool-set}
use Rattle.sqlite_schema.specs.contracts.schema.Schema as schema
use Rattle.sqlite_trees.specs.Props.{Trees-set, rows_set}
use Rattle.hd_turn_store.specs.Words.{Database, HasCleanDisk, Image, Schema, State}
use Rattle.hd_turn_store.specs.Crashes.{FindsJournal, HoldsTurns}
use Rattle.hd_turn_store.specs.Holds.{Holds}
use Rattle.hd_turn_store.specs.Kept.{Head, KeptTurn}
use Rattle.hd_turn_store.specs.Tables.{IsJournal, no_schema}

Schema-set : IsSet Schema
Schema-set = Coded-set schema.the_row.coded

Database-set : IsSet Database
Database-set a b p q = λ i j. record {
  schema = Schema-set a.schema b.schema (ap (λ (d : Database). d.schema) p)
      (ap (λ (d : Database). d.schema) q) i j;
  trees = Trees-set a.trees b.trees (ap (λ (d : Database). d.trees) p)
      (ap (λ (d : Database). d.trees) q) i j;
}

module _ (image : Image) (s : State) (found : ∥ FindsJournal image s ∥₁) (clean : HasCleanDisk s) where
  -- a journal that they hold is shown
  pub found_held : (head : Head) (ks : List KeptTurn) → HoldsTurns image head ks → IsJournal s.now.schema
      → Holds s head ks
  found_held head ks held journal = record {
    schema = journal;
    rows = record {
      head = ∥∥₁_elim found (rows_set _ _) (λ f. (f.held clean head ks held journal).rows.head);
      turns = ∥∥₁_elim found (rows_set _ _) (λ f. (f.held clean head ks held journal).rows.turns);
    };
    settled = ∥∥₁_elim found (Database-set _ _) (λ f. (f.held clean head ks held journal).settled);
    outside = ∥∥₁_elim found (Bool-set _ _) (λ f. (f.held clean head ks held journal).outside);
    is_open = ∥∥₁_elim found (Bool-set _ _) (λ f. (f.held clean head ks held journal).is_open);
  }

  -- they hold none where there is no table
  pub found_blank : s.now.schema ≡ no_schema → (head : Head) (ks : List KeptTurn) → ¬ HoldsTurns image head ks
  found_blank none head ks held = ∥∥₁_elim found (λ x y. absurd x) (λ f. f.blank clean none head ks held)
