-- What a statement that changes a journal commits.
use Rattle.std.proofs.Common.{◌≡◌, inl, inr, ℕ, List, [], ◌∷◌, append-nil, None, Ok, Err, Result, IsOk}
use Rattle.std.proofs.Common.{IsTrue, ap, refl, subst, sym, ◌∙◌, ◌++◌, codes, length, map, arith, pos}
use Rattle.std.proofs.lemmas.List.{map-append}
use Rattle.std.specs.List.Sorted.{IsPermutation}
use Rattle.sqlite.specs.State.{CommitsBy}
use Rattle.sqlite.proofs.Callers.{IsPlain, command_of, one_step, one_permutation}
use Rattle.sqlite.specs.Rowids.TheVariants.{Given}
use Rattle.sqlite_rules.specs.Calls.{ids_of}
use Rattle.sqlite_value.proofs.OrderLemmas.{value_cmp-Int}
use Rattle.hd_turn_store.specs.Words.{Blob, Command, Commit, Database, Does, Error, Executes, HasCleanDisk}
use Rattle.hd_turn_store.specs.Words.{Index, Int, IsAnswer, MayCommit, Null, Output, Release, Row, Runs}
use Rattle.hd_turn_store.specs.Words.{State, Survives, Tally, Trees, Writes, Written, edit_of, edited}
use Rattle.hd_turn_store.specs.Words.{eval_all, mode_of, output, overlay, page, text_of}
use Rattle.hd_turn_store.specs.Holds.{Commits, Holds}
use Rattle.hd_turn_store.specs.Kept.{Head, KeptTurn, cells, head_cells}
use Rattle.hd_turn_store.specs.Tables.{Stores, journal_table, number_index, numbered_from}
use Rattle.hd_turn_store.specs.Tables.{schema_with, turn_columns}
use Rattle.hd_turn_store.specs.Texts.{insert_turn_text, update_head_text}
use Rattle.hd_turn_store.proofs.Texts.{MeansIn, in_each, insert_turn_means, insertion, row_terms, update_head}
use Rattle.hd_turn_store.proofs.Texts.{update_head_means, update_query}
use Rattle.hd_turn_store.proofs.Writing.{cast_int, cast_null, cast_turn, does_as, inserts, same_value, went}

-- ---- what a statement that changes a journal makes of it, alone, and what it commits

-- A statement with these values is a change of a journal: it means a command that ends no transaction and
-- writes, whatever the indexes.
pub record Changes (text : List ℕ) (params : Row) (h : Head) (ks : List KeptTurn) (h' : Head)
    (ks' : List KeptTurn) : Type 1 where
  pub command : Command
  pub means : MeansIn text command
  pub no_commit : ¬ (command ≡ Commit)
  pub no_release : (name : List ℕ) → ¬ (command ≡ Release name)
  pub writes : (old new : State) (text : List ℕ) (count : ℕ)
      → Runs old new None command text params count → Writes old new None command text params count
  pub does : (indexes : List Index) (s : State) (text : List ℕ) (tally : Tally) (after : Database)
      → Stores h ks s.now.trees
      → Does s.step_limit (mode_of s) params (record s.now { schema = schema_with indexes }) text None command
      (Ok (tally, after))
      → (after.schema ≡ schema_with indexes) × Stores h' ks' after.trees

-- a crash leaves an open database what it has committed
abbrev pub Settles : State → Type 0
Settles s = (db : Trees) → IsTrue s.is_open → s.may_leave db → db ≡ s.committed.trees

-- what is committed is what each crash leaves
pub lasting : {new : State} {h : Head} {ks : List KeptTurn} (db : Trees) → Holds new h ks
    → db ≡ new.committed.trees → Stores h ks db
lasting {new} {h} {ks} db holds is =
    rw (is, holds.settled) holds.rows

module _ {text : List ℕ} {params : Row} {h h' : Head} {ks ks' : List KeptTurn}
    (it : Changes text params h ks h' ks') (old : State) (holds : Holds old h ks) where
  -- under the schema that the state has
  does_so : (part : List ℕ) (tally : Tally) (after : Database)
      → Does old.step_limit (mode_of old) params old.now part None it.command (Ok (tally, after))
      → (after.schema ≡ old.now.schema) × Stores h' ks' after.trees
  does_so part tally after =
      let by = λ (indexes : List Index). it.does indexes old part tally after holds.rows in
      in_each (λ schema. Does old.step_limit (mode_of old) params (record old.now { schema = schema })
      part None it.command (Ok (tally, after)) → (after.schema ≡ schema) × Stores h' ks' after.trees)
      (by (number_index ∷ [])) (by []) old.now.schema holds.schema

  changed : (new : State) (r : Result ℕ Error) → IsOk r → Executes text params old new r → Holds new h' ks'
  changed new (Err x) done ran = absurd (cc)
  changed new (Ok count) done ran =
      let did = does_as (it.means old.now.schema holds.schema) old new params count refl
      (λ part. it.writes old new part count) ran in
      let done = does_so _ did.0.tally new.now did.1 in
      record {
        schema = rw done.0 holds.schema;
        rows = done.1;
        settled = rw holds.outside at did.0.shown.committed_is;
        outside = did.0.shown.mode ∙ holds.outside;
        is_open = did.0.shown.is_open;
      }

  left : (db : Trees) → CommitsBy text params old db → Stores h' ks' db
  unfolding CommitsBy
  left db so =
      let known = it.means old.now.schema holds.schema in
      let bare = subst IsPlain so.1.is known.plain in
      let part = text_of text so.0 in
      let may = rw (bare.0, bare.1, append-nil params) at so.2 in
      elim (subst (λ c. MayCommit old None c part params db) (ap command_of (sym so.1.is) ∙ known.is) may) [
        | inl x ↦ elim x.0 [
          | inl p ↦ absurd (it.no_commit p)
          | inr p ↦ absurd (it.no_release p.0 p.2)
        ]
        | inr w ↦ rw w.5 (does_so part w.1 w.2 w.3).1
      ]

  -- the change is committed by a statement that is done
  pub commits : {is_done : Type 0} (new : State) (r : Result ℕ Error) → (is_done → IsOk r) → Settles new
      → HasCleanDisk new → Executes text params old new r → Survives old new (CommitsBy text params old)
      → Commits is_done h' ks' old new
  commits {is_done} new r ok settles clean ran survives =
      let now = λ (done : is_done). changed new r (ok done) ran in
      record {
        done = now;
        durable = λ done db may. lasting db (now done) (settles db (now done).is_open may);
        crash = λ db may. elim (survives.crash clean db may) [
          | inl was ↦ inl was
          | inr done ↦ inr (left db done)
        ];
      }

-- ---- what the insertion of a turn does

-- it puts the turn at the end
pub adds : (k : KeptTurn) (h : Head) (ks : List KeptTurn)
    → Changes insert_turn_text (cells k) h ks h (ks ++ k ∷ [])
adds k h ks = record {
  command = insertion 1 turn_columns;
  means = insert_turn_means;
  no_commit = λ e. cc;
  no_release = λ name e. cc;
  writes = λ old new text count runs. runs;
  does = λ indexes s text tally after has does.
      let it = inserts (codes "turn") (codes "at") 1 turn_columns (schema_with indexes) (mode_of s)
      (λ olds news. refl) (cells k)
      (ap (λ (p : Row). eval_all (row_terms (length turn_columns)) (p ∷ []) ∷ []) (append-nil (cells k)))
      (cast_turn k) s.step_limit s.now.trees (map cells ks) tally after has.turns does in (
        it.0,
        record {
          head = it.2.0 (omega arith) ∙ has.head;
          turns = it.1 ∙ ap (numbered_from 1) (sym (map-append cells ks (k ∷ [])));
        },
      );
}

-- ---- what another digest does to the head, and what it commits

module _ (digest : List ℕ) (h : Head) where
  abbrev other : Head
  other = record h { catalogue = digest }

  -- what the query of the update shows: the old rowid, and then the new row
  abbrev renewed : Row
  renewed = Int (pos 1) ∷ Int (pos 1) ∷ Null ∷ head_cells other

  abbrev edit : Trees → List Row → List Row
  edit db rows = edited db (edit_of db journal_table (ids_of rows) Given 1 rows)

  -- one row is taken out, and this one is put in its place
  replaced : (db : Trees) → db 0 ≡ numbered_from 1 (head_cells h ∷ [])
      → edit db (renewed ∷ []) ≡ numbered_from 1 (head_cells other ∷ [])
  replaced db is = rw (is, value_cmp-Int (pos 1) (pos 1), cast_null, cast_int 1, cast_int h.format)

  does_accept : (ks : List KeptTurn) (indexes : List Index) (s : State) (text : List ℕ) (tally : Tally)
      (after : Database)
      → Stores h ks s.now.trees
      → Does s.step_limit (mode_of s) (Blob digest ∷ []) (record s.now { schema = schema_with indexes })
      text None update_head (Ok (tally, after))
      → (after.schema ≡ schema_with indexes) × Stores other ks after.trees
  does_accept ks indexes s text tally after has does =
      let db = s.now.trees in
      let params = Blob digest ∷ [] in
      let done = went does in
      let now = ap (λ (p : Tally × Database). p.1) (same_value (went (went done.2).2).2) in
      let queried = went done.1 in
      let a : IsAnswer update_query (overlay db []) params queried.0 = queried.1.answer Null in
      let staged : a.staged ≡ (params ∷ (Int (pos 1) ∷ Null ∷ head_cells h) ∷ []) ∷ [] =
      a.grouped ∙ (let one = has.head in rw one) in
      let o : Output = ([], renewed) in
      let kept : a.kept ≡ o ∷ [] = a.distinct ∙ ap (map (output update_query)) staged in
      let ordered = one_permutation o a.ordered (subst (λ k. IsPermutation k a.ordered) kept a.same) in
      let rows : queried.0 ≡ renewed ∷ [] =
      a.shown ∙ ap (λ xs. page update_query params (map (λ (p : Output). p.1) xs)) ordered in
      let written = went queried.2 in
      let trees : done.0.trees ≡ written.0 = ap (λ (it : Written). it.trees) (same_value written.2) in
      let all : after.trees ≡ written.0 = ap (λ (d : Database). d.trees) now ∙ trees in
      let step = one_step (schema_with indexes) _ db written.0
      (edit_of db journal_table (ids_of queried.0) Given 1 queried.0) refl written.1 in (
        ap (λ (d : Database). d.schema) now,
        record {
          head = ap (λ (t : Trees). t 0) all ∙ step.rows ∙ ap (edit db) rows ∙ replaced db has.head;
          turns = ap (λ (t : Trees). t 1) all ∙ step.tables.1.0 (omega arith) ∙ has.turns;
        },
      )

pub accepts : (digest : List ℕ) (h : Head) (ks : List KeptTurn)
    → Changes update_head_text (Blob digest ∷ []) h ks (record h { catalogue = digest }) ks
accepts digest h ks = record {
  command = update_head;
  means = update_head_means;
  no_commit = λ e. cc;
  no_release = λ name e. cc;
  writes = λ old new text count runs. runs;
  does = does_accept digest h ks;
}
