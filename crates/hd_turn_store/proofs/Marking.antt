-- A journal is the same whatever its mark.
use Rattle.std.proofs.Common.{◌≡◌, ◌∙◌, inl, inr, List, [], ◌∷◌, IsTrue, arith, subst}
use Rattle.sqlite_schema.specs.declared.schema.Table.{Table}
use Rattle.sqlite_rules.specs.Lists.{Has}
use Rattle.sqlite_rules.proofs.RuleLemmas.{keeps_same}
use Rattle.sqlite_wal.proofs.LogLemmas.{SeenMayStay}
use Rattle.hd_turn_store.specs.Words.{FileStore, Ghosts, Held, IsRolledBack, IsSound, Schema, Trees}
use Rattle.hd_turn_store.specs.Words.{catalog_tree, recovers, settled_at, view}
use Rattle.hd_turn_store.specs.Kept.{Head, KeptTurn}
use Rattle.hd_turn_store.specs.Tables.{IsJournal, Stores, journal_table, number_index, schema_with}
use Rattle.hd_turn_store.specs.Tables.{turn_table}
use Rattle.hd_turn_store.specs.Marks.{KeepsTurns, MayGetMark, MayHaveMark, SameButMark}
use Rattle.hd_turn_store.proofs.Commits.{lasting}
use Rattle.hd_turn_store.proofs.Texts.{in_each}

module _ (one two : Trees) (same : SameButMark one two) where
  same_tables : (t : Table) → Has (journal_table ∷ turn_table ∷ []) t → two t.tree ≡ one t.tree
  same_tables t (inl is) = rw is (same 0 (omega arith))
  same_tables t (inr (inl is)) = rw is (same 1 (omega arith))
  same_tables t (inr (inr none)) = absurd none

  pub sound_beside : (schema : Schema) → IsJournal schema → IsSound schema one → IsSound schema two
  sound_beside = in_each (λ schema. IsSound schema one → IsSound schema two)
      (λ sound. record {
        lists = rw (same catalog_tree (omega arith)) sound.lists;
        obeys = record {
          rules = λ rule.
              keeps_same (schema_with (number_index ∷ [])) one two same_tables rule (sound.obeys.rules rule);
          indexed = rw (same 1 (omega arith), same 2 (omega arith)) sound.obeys.indexed;
        };
      })
      (λ sound. record {
        lists = rw (same catalog_tree (omega arith)) sound.lists;
        obeys = record {
          rules = λ rule. keeps_same (schema_with []) one two same_tables rule (sound.obeys.rules rule);
          indexed = tt;
        };
      })

-- a journal that is the same but for its mark has the same head and turns
pub stores_beside : (one two : Trees) (head : Head) (ks : List KeptTurn) → SameButMark one two
    → Stores head ks one → Stores head ks two
stores_beside one two head ks same stores =
    record { head = same 0 (omega arith) ∙ stores.head; turns = same 1 (omega arith) ∙ stores.turns }

module _ {D : Type 0} {g : Ghosts D} where
  -- a mark that is put after a copy is put on what was there
  pub through : (old copied marked : FileStore D g)
      → (IsTrue (view copied).is_open → view copied ≡ view old)
      → ((db : Trees) → recovers copied db → recovers old db)
      → ((db : Trees) → recovers marked db → MayGetMark copied db)
      → (db : Trees) → recovers marked db → MayGetMark old db
  through old copied marked same before crash db may = elim (crash db may) [
    | inl seen ↦ inl (subst (λ v. MayHaveMark v db) (same seen.0) seen)
    | inr was ↦ inr (before db was)
  ]

  module _ (stays : SeenMayStay g) (c : Held (FileStore D g)) (back : FileStore D g)
      (outcomes : (db : Trees) → recovers back db → recovers c.store db) where
    -- what a crash may leave of a connection's store has the journal's turns
    pub keeps_turns : KeepsTurns c back
    keeps_turns head ks holds db may =
        lasting db holds (settled_at c.store stays _ holds.is_open (outcomes _ may))

    -- and has them with any mark
    pub keeps_marked : (last : FileStore D g) → IsRolledBack (view c.store) (view back)
        → ((db : Trees) → recovers last db → MayGetMark back db) → KeepsTurns c last
    keeps_marked last rolled crash head ks holds db may = elim (crash db may) [
      | inl seen ↦
          stores_beside (view back).trees db head ks seen.1
          (lasting _ holds (rolled.undone seen.0).0)
      | inr before ↦ keeps_turns head ks holds db before
    ]
