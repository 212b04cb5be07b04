-- What the statements write that make a journal and put a row.
use Rattle.std.proofs.Common.{◌≡◌, ℕ, ◌<◌, pos, ◌∙◌, arith, Less, List, [], ◌∷◌, length, Bool, true}
use Rattle.std.proofs.Common.{false, cond, Option, Some, None, refl, ◌≢◌, ◌⊎◌, inl, inr, ◌+◌, ◌+ℤ◌, ◌++◌}
use Rattle.std.proofs.Common.{fold, Ok, Err, Result, sym, ap, subst, ◌/◌, codes}
use Rattle.std.proofs.lemmas.Bool.Decides.{nat_tests}
use Rattle.std.proofs.lemmas.Int.{ints}
use Rattle.std.specs.List.{AllByRecursion}
use Rattle.sqlite.specs.declared.types.Value.TheVariants.{Text as Words}
use Rattle.sqlite_value.proofs.OrderLemmas.{value_cmp-Int}
use Rattle.sqlite.specs.Ops.{unary}
use Rattle.sqlite.specs.Kind.TheVariants.{Integer, Text}
use Rattle.sqlite.specs.Cast.{cast}
use Rattle.sqlite_rules.specs.Cast.{cast_row}
use Rattle.sqlite.specs.declared.run.Mode.{Mode}
use Rattle.sqlite.specs.Rowids.TheVariants.{Chosen}
use Rattle.sqlite.proofs.Callers.{one_step, statement_of, runs_as}
use Rattle.sqlite_rules.specs.Action.{works}
use Rattle.hd_turn_store.specs.Words.{Column, Command, Database, Does, Executes, Insert, Int, KeepsRows, Null}
use Rattle.hd_turn_store.specs.Words.{OnRows, Row, Runs, Schema, State, Table, Tally, Term, Trees, Value}
use Rattle.hd_turn_store.specs.Words.{Values, Writes, Written, created, edit_of, edited, eval_all, id_in}
use Rattle.hd_turn_store.specs.Words.{indexed, lacks_sequence, mode_of, next_tree, numbered, or_null, put_all}
use Rattle.hd_turn_store.specs.Words.{put_row, rowid, taken_by, understood, value_cmp, value_rows}
use Rattle.hd_turn_store.specs.Holds.{AreEmpty, HasEmpty, SeesTurns}
use Rattle.hd_turn_store.specs.Kept.{Head, KeptTurn, head_cells, number_cell, cells}
use Rattle.hd_turn_store.specs.Texts.{create_index_text, insert_journal_text}
use Rattle.hd_turn_store.specs.Tables.{head_columns, journal_schema, journal_table, number_index}
use Rattle.hd_turn_store.specs.Tables.{numbered_from, schema_with, table_by, turn_columns, turn_table}
use Rattle.hd_turn_store.proofs.Texts.{Creates, Means, create_index_means, defines_index}
use Rattle.hd_turn_store.proofs.Texts.{insert_journal_means, row_terms}

-- numbers compare as values as they do
pub cmp_less : (m n : ℕ) → m < n → value_cmp (Int (pos m)) (Int (pos n)) ≡ Less
cmp_less m n h = value_cmp-Int (pos m) (pos n) ∙ grind (arith, ints, nat_tests)

-- ---- what a STRICT table makes of values of its columns' kinds: nothing

either : (b : Bool) (x : Value) → cond b x x ≡ x
either true x = refl
either false x = refl

pub cast_null : cast Integer Null ≡ Null
unfolding unary
cast_null = either _ Null

pub cast_int : (n : ℕ) → cast Integer (Int (pos n)) ≡ Int (pos n)
unfolding unary
cast_int n = either _ (Int (pos n))

cast_number : (n : Option ℕ) → cast Integer (or_null number_cell n) ≡ or_null number_cell n
cast_number None = cast_null
cast_number (Some n) = cast_int n

cast_words : (t : Option (List ℕ)) → cast Text (or_null Words t) ≡ or_null Words t
cast_words None = refl
cast_words (Some t) = refl

-- the row of a turn before it has its number
pub cast_turn : (k : KeptTurn)
    → cast_row turn_table (eval_all (row_terms (length turn_columns)) (cells k ∷ [])) ≡ Null ∷ Null ∷ cells k
unfolding cells
cast_turn k = simp (cast_null, cast_int, cast_words, cast_number)

-- and that of a journal's head
pub cast_head : (h : Head)
    → cast_row journal_table (eval_all (row_terms (length head_columns)) (head_cells h ∷ []))
    ≡ Null ∷ Null ∷ head_cells h
cast_head h = rw (cast_null, cast_int h.format)

-- ---- what the insertion of a row writes

-- a part that gave a value did not stop on the way
pub went : {B E R : Type 0} {b : B} {Stops : E → Type 0}
    → ((stop : E) × Stops stop × (Ok b ≡ Err stop)) ⊎ R → R
went (inl stopped) = absurd (let e = stopped.2 in cc)
went (inr on) = on

pub same_value : {B E : Type 0} {a b : B} → ◌≡◌ {A = Result B E} (Ok a) (Ok b) → a ≡ b
same_value e = cc

-- the number of the next row
next_from : (at : ℕ) (rows : List Row)
    → fold (λ _ r. id_in (rowid r) +ℤ pos 1) (pos at) (numbered_from at rows) ≡ pos (at + length rows)
next_from at [] = ap pos (omega arith)
next_from at (row ∷ rows) = next_from (at + 1) rows ∙ ap pos (omega arith)

put_last : (at n : ℕ) (row : Row) (rows : List Row) → n ≡ at + length rows
    → put_row (Int (pos n) ∷ Null ∷ row) (numbered_from at rows) ≡ numbered_from at (rows ++ row ∷ [])
put_last at n row [] is = let same : n ≡ at = omega arith in rw same
put_last at n row (x ∷ rows) is =
    let less = cmp_less at n (omega arith) in
    rw less (ap (λ l. (Int (pos at) ∷ Null ∷ x) ∷ l) (put_last (at + 1) n row rows (omega arith)))

-- a table without a foreign key, and a row of these values, which is put without a number
module _ (name key : List ℕ) (tree : ℕ) (columns : List Column) (schema : Schema) (mode : Mode)
    (none : (olds news : List Row) → works schema mode.keys 0 tree olds news ≡ []) (row : Row) where
  abbrev table : Table
  table = table_by name tree key columns

  abbrev terms : List Term
  terms = row_terms (length columns)

  -- the row gets the next number, and nothing else is changed
  pub inserts : value_rows (row ++ []) (length columns + 2) (length terms / (length columns + 2)) terms
      ≡ eval_all terms (row ∷ []) ∷ []
      → cast_row table (eval_all terms (row ∷ [])) ≡ Null ∷ Null ∷ row
      → (limit : Option ℕ) (db : Trees) (rows : List Row) (tally : Tally) (after : Database)
      → db tree ≡ numbered_from 1 rows
      → OnRows (record { limit = limit; keys = mode.keys; schema = schema; table = table; params = row })
      mode None (Insert tree (Values terms (length columns + 2))) db (Ok (tally, after))
      → (after.schema ≡ schema) × (after.trees tree ≡ numbered_from 1 (rows ++ row ∷ []))
      × AllByRecursion (λ t. t.tree ≢ tree → after.trees t.tree ≡ db t.tree) schema.tables
  inserts gives cast limit db rows tally after is does =
      let done = went does in
      let now = ap (λ (p : Tally × Database). p.1) (same_value (went (went done.2).2).2) in
      let given = went done.1 in
      let written = went (went given.2).2 in
      let counted = went written.2 in
      let trees : done.0.trees ≡ written.0 =
      ap (λ (it : Written). it.trees) (same_value counted.2) ∙ same_value counted.1 in
      let all : after.trees ≡ written.0 = ap (λ (d : Database). d.trees) now ∙ trees in
      let edit = edit_of db table [] Chosen 0 in
      let step = one_step schema _ db written.0 (edit given.0)
      (none (taken_by db (edit given.0)) (edit given.0).news) written.1 in
      let stored = db tree in
      let added : edited db (edit (eval_all terms (row ∷ []) ∷ [])) ≡ numbered_from 1 (rows ++ row ∷ []) =
      subst (λ (x : Row).
      put_all stored (numbered Chosen stored (x ∷ [])) ≡ numbered_from 1 (rows ++ row ∷ [])) (sym cast)
      (rw (is, next_from 1 rows) (put_last 1 (1 + length rows) row rows refl)) in (
        ap (λ (d : Database). d.schema) now,
        ap (λ (t : Trees). t tree) all ∙ step.rows
            ∙ ap (λ rows. edited db (edit rows)) (given.1.1 ∙ gives) ∙ added,
        subst (λ (after : Trees). AllByRecursion (λ t. t.tree ≢ tree → after t.tree ≡ db t.tree)
            schema.tables) (sym all) step.tables,
      )

-- ---- what the four statements do that begin a journal, in a transaction

-- a statement that writes does what it means under a schema that is known
pub does_as : {schema : Schema} {text : List ℕ} {command : Command} → Means schema text command
    → (old new : State) (params : Row) (count : ℕ) → old.now.schema ≡ schema
    → ((part : List ℕ) → Runs old new None command part params count
    → Writes old new None command part params count)
    → Executes text params old new (Ok count)
    → (w : Writes old new None command (statement_of text (understood schema text)) params count)
    × Does old.step_limit (mode_of old) params (record old.now { schema = schema })
    (statement_of text (understood schema text)) None command (Ok (w.tally, new.now))
does_as {schema} {text} {command} means old new params count has writes ran =
    let part = statement_of text (understood schema text) in
    let w = writes part (runs_as text params old new schema has command means.is means.plain count ran) in (
      w,
      subst (λ s. Does old.step_limit (mode_of old) params (record old.now { schema = s }) part None command
          (Ok (w.tally, new.now))) has w.changed,
    )

-- a table more, which is empty; the rows of the others stay
still_empty : (tables : List Table) (more : Table) (old new : Trees) → AreEmpty tables old
    → KeepsRows tables old new → new more.tree ≡ [] → AreEmpty (tables ++ more ∷ []) new
still_empty [] more old new empty keeps none = (none, tt)
still_empty (first ∷ tables) more old new empty keeps none =
    (keeps.0 ∙ empty.0, still_empty tables more old new empty.1 keeps.1 none)

pub creates : (schema : Schema) (text : List ℕ) (table : Table) → Creates schema text table
    → (old new : State) (count : ℕ) → HasEmpty schema old → Executes text [] old new (Ok count)
    → HasEmpty (created schema table) new
creates schema text table it old new count has ran =
    let did = does_as it.means old new [] count has.schema_is (λ part runs. runs) ran in
    let all = went did.1 in
    let first = went all.1 in
    let made = first.1 in
    let same : made.table ≡ table = same_value (sym made.defined ∙ it.defines.0) in
    let after : first.0.schema ≡ created schema table = made.is ∙ ap (created schema) same in
    let none : lacks_sequence first.0.schema ≡ false = ap lacks_sequence after ∙ it.defines.1 in
    let now : new.now ≡ first.0 =
    ap (λ (p : Tally × Database). p.1) (same_value all.2) ∙ same_value (rw none at first.2) in
    record {
      schema_is = ap (λ (d : Database). d.schema) now ∙ after;
      empty = rw now (still_empty schema.tables (record table { tree = next_tree schema }) old.now.trees
          first.0.trees has.empty made.others made.empty);
      inside = did.0.shown.mode ∙ has.inside;
    }

pub creates_index : (old new : State) (count : ℕ) → HasEmpty (schema_with []) old
    → Executes create_index_text [] old new (Ok count) → HasEmpty journal_schema new
creates_index old new count has ran =
    let did = does_as create_index_means old new [] count has.schema_is (λ part runs. runs) ran in
    let all = went did.1 in
    let made = all.1 in
    let both : Ok made.index ≡ Ok (record number_index { tree = 0 }) = sym made.defined ∙ defines_index in
    let now : new.now ≡ all.0 = ap (λ (p : Tally × Database). p.1) (same_value all.2) in
    record {
      schema_is = ap (λ (d : Database). d.schema) now ∙ made.is
          ∙ ap (λ i. indexed (schema_with []) turn_table i) (same_value both);
      empty = rw now (made.rows.0 ∙ has.empty.0, (made.rows.1.0 ∙ has.empty.1.0, tt));
      inside = did.0.shown.mode ∙ has.inside;
    }

pub puts_head : (old new : State) (h : Head) (count : ℕ) → HasEmpty journal_schema old
    → Executes insert_journal_text (head_cells h) old new (Ok count) → SeesTurns new h []
puts_head old new h count has ran =
    let did = does_as insert_journal_means old new (head_cells h) count has.schema_is (λ part runs. runs) ran
    in
    let it = inserts (codes "journal") (codes "only") 0 head_columns journal_schema (mode_of old)
    (λ olds news. refl) (head_cells h) refl (cast_head h) old.step_limit old.now.trees [] did.0.tally new.now
    has.empty.0 did.1 in
    record {
      schema = it.0;
      rows = record { head = it.1; turns = it.2.1.0 (omega arith) ∙ has.empty.1.0 };
      inside = did.0.shown.mode ∙ has.inside;
    }
