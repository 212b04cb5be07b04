-- The texts of SQL, made of the tables' columns.
use Rattle.std.specs.Prelude.{ℕ, ◌+◌, List, [], ◌∷◌, ◌++◌, codes, decimal, flat_map, map, if◌then◌else◌}
use Rattle.sqlite.specs.Kind.TheVariants.{Any, Blob, Integer, Real, Text}
use Rattle.hd_turn_store.specs.Words.{Column, Kind}
use Rattle.hd_turn_store.specs.Tables.{head_columns, turn_columns}

-- texts with a comma between them
abbrev pub listed : List (List ℕ) → List ℕ
listed [] = []
listed (first ∷ more) = first ++ flat_map (λ text. codes ", " ++ text) more

abbrev pub kind_word : Kind → List ℕ
kind_word Integer = codes "INTEGER"
kind_word Real = codes "REAL"
kind_word Text = codes "TEXT"
kind_word Blob = codes "BLOB"
kind_word Any = codes "ANY"

-- a column as CREATE TABLE names it
abbrev pub defined : Column → List ℕ
defined c = c.name ++ codes " " ++ kind_word c.kind ++ (if c.not_null then codes " NOT NULL" else [])

-- ?1, ?2 and so on: a parameter for each column
abbrev pub parameters_from : ℕ → List Column → List (List ℕ)
parameters_from at [] = []
parameters_from at (c ∷ columns) = (codes "?" ++ decimal at) ∷ parameters_from (at + 1) columns

-- the columns of a table with this key
module _ (table key : List ℕ) (columns : List Column) where
  abbrev names : List ℕ
  names = listed (map (λ (c : Column). c.name) columns)

  abbrev pub create_text : List ℕ
  create_text =
      codes "CREATE TABLE " ++ table ++ codes " ("
      ++ listed ((key ++ codes " INTEGER PRIMARY KEY") ∷ map defined columns) ++ codes ") STRICT"

  abbrev pub insert_text : List ℕ
  insert_text =
      codes "INSERT INTO " ++ table ++ codes " (" ++ names ++ codes ") VALUES ("
      ++ listed (parameters_from 1 columns) ++ codes ")"

  -- the rows behind one number, up to another, in their order
  abbrev pub select_text : List ℕ
  select_text =
      codes "SELECT " ++ names ++ codes " FROM " ++ table ++ codes " WHERE " ++ key ++ codes " > ?1 AND "
      ++ key ++ codes " <= ?2 ORDER BY " ++ key

abbrev pub create_journal_text : List ℕ
create_journal_text = create_text (codes "journal") (codes "only") head_columns

abbrev pub create_turn_text : List ℕ
create_turn_text = create_text (codes "turn") (codes "at") turn_columns

-- the index of turns by number
abbrev pub create_index_text : List ℕ
create_index_text = codes "CREATE INDEX turn_number ON turn (number)"

abbrev pub insert_journal_text : List ℕ
insert_journal_text = insert_text (codes "journal") (codes "only") head_columns

abbrev pub insert_turn_text : List ℕ
insert_turn_text = insert_text (codes "turn") (codes "at") turn_columns

abbrev pub select_head_text : List ℕ
select_head_text = select_text (codes "journal") (codes "only") head_columns

abbrev pub select_turns_text : List ℕ
select_turns_text = select_text (codes "turn") (codes "at") turn_columns

-- another digest is put into the head
abbrev pub update_head_text : List ℕ
update_head_text = codes "UPDATE journal SET catalogue = ?1"
