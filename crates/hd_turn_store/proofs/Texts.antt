-- What the texts of SQL mean.
use Rattle.std.proofs.Common.{◌≡◌, ℕ, zero, suc, ◌+◌, pos, negsuc, List, [], ◌∷◌, length, map, false, None}
use Rattle.std.proofs.Common.{Ok, inl, inr, refl, subst, sym}
use Rattle.sqlite.specs.Compile.{index_defined_by, table_defined_by}
use Rattle.sqlite.specs.Listing.{understood}
use Rattle.sqlite_tied.specs.Compute.{everything}
use Rattle.sqlite.proofs.Callers.{IsPlain, command_of, statement_of}
use Rattle.hd_turn_store.specs.Words.{Binary, Column, Command, Compare, CreateIndex, CreateTable, Gt, Insert}
use Rattle.hd_turn_store.specs.Words.{Int, Le, Null, Query, Schema, Select, Table, Term, Update, Values, col}
use Rattle.hd_turn_store.specs.Words.{created, end, inner, lacks_sequence, lit, op2, reads_listing}
use Rattle.hd_turn_store.specs.Tables.{IsJournal, head_columns, head_schema, journal_schema, journal_table}
use Rattle.hd_turn_store.specs.Tables.{no_schema, number_index, schema_with, turn_columns, turn_table}
use Rattle.hd_turn_store.specs.Texts.{create_index_text, create_journal_text, create_turn_text}
use Rattle.hd_turn_store.specs.Texts.{insert_journal_text, insert_turn_text, select_head_text}
use Rattle.hd_turn_store.specs.Texts.{select_turns_text, update_head_text}

-- under a schema a text is one statement with no RETURNING and no time, which means this command
pub record Means (schema : Schema) (text : List ℕ) (command : Command) : Type 0 where
  pub is : command_of (understood schema text) ≡ command
  pub plain : IsPlain (understood schema text)
  pub unlisted : reads_listing schema text ≡ false

-- it does in each journal
abbrev pub MeansIn : List ℕ → Command → Type 0
MeansIn text command = (schema : Schema) → IsJournal schema → Means schema text command

-- what holds with the index of turns and without it holds in each journal
pub in_each : (P : Schema → Type 0) → P journal_schema → P (schema_with []) → (schema : Schema)
    → IsJournal schema → P schema
in_each P new old schema (inl is) = subst P (sym is) new
in_each P new old schema (inr is) = subst P (sym is) old

-- ---- tables and their index are made

pub record Creates (schema : Schema) (text : List ℕ) (table : Table) : Type 0 where
  pub means : Means schema text CreateTable
  -- the table, which counts no rowids
  pub defines : (table_defined_by (statement_of text (understood schema text)) ≡ Ok table)
      × (lacks_sequence (created schema table) ≡ false)

pub creates_journal_table : Creates no_schema create_journal_text journal_table
unfolding understood everything
creates_journal_table =
    record { means = record { is = refl; plain = (refl, refl); unlisted = refl }; defines = (refl, refl) }

pub creates_turn_table : Creates head_schema create_turn_text (record turn_table { tree = 0 })
unfolding understood everything
creates_turn_table =
    record { means = record { is = refl; plain = (refl, refl); unlisted = refl }; defines = (refl, refl) }

pub create_index_means : Means (schema_with []) create_index_text (CreateIndex 1)
unfolding understood everything
create_index_means = record { is = refl; plain = (refl, refl); unlisted = refl }

pub defines_index : index_defined_by turn_table
    (statement_of create_index_text (understood (schema_with []) create_index_text))
    ≡ Ok (record number_index { tree = 0 })
unfolding understood everything
defines_index = refl

-- ---- a row is put

-- columns of one row, from one on
abbrev pub columns_from : ℕ → ℕ → ℕ → List Term
columns_from row at zero = []
columns_from row at (suc width) = col row at ∷ columns_from row (at + 1) width

-- no rowid and no key, and then the parameters
abbrev pub row_terms : ℕ → List Term
row_terms width = lit Null ∷ lit Null ∷ columns_from 0 0 width

abbrev pub insertion : ℕ → List Column → Command
insertion table columns = Insert table (Values (row_terms (length columns)) (length columns + 2))

pub insert_journal_means : Means journal_schema insert_journal_text (insertion 0 head_columns)
unfolding understood everything
insert_journal_means = record { is = refl; plain = (refl, refl); unlisted = refl }

pub insert_turn_means : MeansIn insert_turn_text (insertion 1 turn_columns)
unfolding understood everything
insert_turn_means =
    in_each _ (record { is = refl; plain = (refl, refl); unlisted = refl })
    (record { is = refl; plain = (refl, refl); unlisted = refl })

-- ---- rows are shown

abbrev pub between : List Term
between =
    op2 (Compare Gt Binary) (col 1 0) (col 0 0) ∷ op2 (Compare Le Binary) (col 1 0) (col 0 1) ∷ []

-- all rows of a table
abbrev pub every_row : ℕ → List Term → Query
every_row table shown = record {
  from = inner table end;
  filter = [];
  group = None;
  project = shown;
  distinct = false;
  collations = [];
  order = [];
  limit = lit (Int (negsuc 0));
  offset = lit (Int (pos 0));
}

-- the rows of a table between two numbers, in their order
abbrev pub piece_query : ℕ → ℕ → Query
piece_query table width = record (every_row table (columns_from 1 2 width)) {
  filter = between;
  order = (col 1 0, record { collation = Binary; descending = false }) ∷ [];
}

abbrev pub showing : ℕ → List Column → Command
showing table columns =
    Select (record { lets = []; body = piece_query table (length columns) }) (map (λ c. c.name) columns)

pub select_head_means : MeansIn select_head_text (showing 0 head_columns)
unfolding understood everything
select_head_means =
    in_each _ (record { is = refl; plain = (refl, refl); unlisted = refl })
    (record { is = refl; plain = (refl, refl); unlisted = refl })

pub select_turns_means : MeansIn select_turns_text (showing 1 turn_columns)
unfolding understood everything
select_turns_means =
    in_each _ (record { is = refl; plain = (refl, refl); unlisted = refl })
    (record { is = refl; plain = (refl, refl); unlisted = refl })

-- ---- the head is changed

abbrev pub update_query : Query
update_query = every_row 0 (col 1 0 ∷ col 1 0 ∷ lit Null ∷ col 1 2 ∷ col 0 0 ∷ [])

abbrev pub update_head : Command
update_head = Update 0 (record { lets = []; body = update_query })

pub update_head_means : MeansIn update_head_text update_head
unfolding understood everything
update_head_means =
    in_each _ (record { is = refl; plain = (refl, refl); unlisted = refl })
    (record { is = refl; plain = (refl, refl); unlisted = refl })
