-- The two tables of a journal, and their rows.
use Rattle.std.specs.Prelude.{◌≡◌, ◌⊎◌, ℕ, ◌+◌, pos, Bool, true, false, List, [], ◌∷◌, map, Some, codes}
use Rattle.sqlite_value.specs.Keys.{plain}
use Rattle.sqlite.specs.Kind.TheVariants.{Integer, Text, Blob}
use Rattle.sqlite_schema.specs.declared.schema.Stamps.{Stamps}
use Rattle.hd_turn_store.specs.Words.{Binary, Column, Index, Int, Kind, Null, Row, Schema, Table, Trees}
use Rattle.hd_turn_store.specs.declared.columns.Column.{Column as Listed}
use Rattle.hd_turn_store.specs.Kept.{KeptTurn, Head, cells, head_cells}

-- a column of a STRICT table: its name, what it has, and whether it has a value in each row
abbrev pub column : List ℕ → Kind → Bool → Column
column name kind is_needed =
    record {
      name = name;
      kind = kind;
      is_strict = true;
      not_null = is_needed;
      default = Null;
      collation = Binary;
    }

-- such a column as the code lists it
abbrev pub column_of : Listed → Column
column_of c = column c.name.now c.kind c.is_needed

-- the columns of a journal's head, behind its key
abbrev pub head_columns : List Column
head_columns = column (codes "format") Integer true ∷ column (codes "catalogue") Blob true ∷ []

-- the columns of a turn, behind its number: who asked, for what, within which bounds, in which words, and
-- what was answered
abbrev pub turn_columns : List Column
turn_columns =
    column (codes "seat") Integer true ∷ column (codes "terminal") Text true ∷ column (codes "day") Text true
    ∷ column (codes "act") Text true ∷ column (codes "patron") Text false ∷ column (codes "copy") Text false
    ∷ column (codes "title") Text false ∷ column (codes "branch") Text false
    ∷ column (codes "admits") Text false ∷ column (codes "until") Text false
    ∷ column (codes "line") Blob false ∷ column (codes "outcome") Text true
    ∷ column (codes "number") Integer false ∷ column (codes "reply") Blob true ∷ []

-- no column's default reads the time
abbrev pub no_stamps : Stamps
no_stamps = record { places = []; terms = []; formats = [] }

-- a table has no rule but that of its key
abbrev pub HasNoRule : Table → Type 0
HasNoRule table =
    (table.uniques ≡ []) × (table.orders ≡ []) × (table.checks ≡ []) × (table.references ≡ [])
    × (table.computed ≡ []) × (table.stamps ≡ no_stamps) × (table.is_counted ≡ false)

-- a table whose first column is its INTEGER PRIMARY KEY, and which has no other rule
abbrev pub table_by : List ℕ → ℕ → List ℕ → List Column → Table
table_by name tree key columns = record {
  name = name;
  tree = tree;
  columns = column key Integer false ∷ columns;
  key = Some 0;
  primary = 0 ∷ [];
  uniques = [];
  orders = [];
  checks = [];
  references = [];
  computed = [];
  stamps = no_stamps;
  is_counted = false;
}

abbrev pub journal_table : Table
journal_table = table_by (codes "journal") 0 (codes "only") head_columns

abbrev pub turn_table : Table
turn_table = table_by (codes "turn") 1 (codes "at") turn_columns

-- the turns by the number of a command, which is not unique: a cancellation names it again
abbrev pub number_index : Index
number_index = record {
  name = codes "turn_number";
  tree = 2;
  table = 1;
  columns = 14 ∷ [];
  order = plain;
  is_unique = false;
}

-- both tables, and these indexes
abbrev pub schema_with : List Index → Schema
schema_with indexes = record { tables = journal_table ∷ turn_table ∷ []; indexes = indexes; views = [] }

abbrev pub journal_schema : Schema
journal_schema = schema_with (number_index ∷ [])

-- A journal of the format before has no index.
abbrev pub IsJournal : Schema → Type 0
IsJournal schema = (schema ≡ journal_schema) ⊎ (schema ≡ schema_with [])

-- the first table alone
abbrev pub head_schema : Schema
head_schema = record { tables = journal_table ∷ []; indexes = []; views = [] }

abbrev pub no_schema : Schema
no_schema = record { tables = []; indexes = []; views = [] }

-- rows of these values that are numbered in order from this number
abbrev pub numbered_from : ℕ → List Row → List Row
numbered_from at [] = []
numbered_from at (row ∷ rows) = (Int (pos at) ∷ Null ∷ row) ∷ numbered_from (at + 1) rows

-- a database's trees have this head and just these turns
pub record Stores (h : Head) (ks : List KeptTurn) (db : Trees) : Type 0 where
  pub head : db 0 ≡ numbered_from 1 (head_cells h ∷ [])
  pub turns : db 1 ≡ numbered_from 1 (map cells ks)
