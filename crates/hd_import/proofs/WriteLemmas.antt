-- What is appended to a text, and the tables so far.
use Rattle.std.proofs.Common.{◌≡◌, ℕ, ◌+◌, ◌<◌, ◌≤◌, Bool, true, List, [], ◌∷◌, ◌++◌, map, All, refl}
use Rattle.std.proofs.Common.{sym, ap, ◌∙◌, append_assoc}
use Rattle.std.proofs.Common.{get_or, length, subst, take}
use Rattle.std.specs.List.{flat_map, list_all}
use Rattle.std.proofs.lemmas.List.{append-nil, flat_map_more, map-append, take_all, take_more}
use Rattle.std.proofs.lemmas.List.Elements.{All-nil, All-push}
use Rattle.std.proofs.lemmas.List.Folds.{list_all-append}
use Rattle.hd_import.specs.Columns.{all_sheets}
use Rattle.hd_import.specs.Rows.{Row}
use Rattle.hd_import.specs.Texts.{IsTableIn, IsTableOf, IsTextOf, Table, behind_bars, counts_of}
use Rattle.hd_import.specs.Texts.{file_of, first_line, line_of, text_of_rows, text_of_table}
use Rattle.hd_import.specs.Values.{value_of}
use Rattle.hd_import.specs.declared.column.Column.{Column}
use Rattle.hd_import.specs.declared.column.Sheet.{Sheet}
use Rattle.hd_import.specs.declared.format.Format.{Format}
use Rattle.hd_import.specs.declared.settings.Settings.{Settings}
use Rattle.hd_import.specs.declared.sources.Source.{Source}
use Rattle.hd_import.specs.declared.sources.Sources.{Sources}

-- one value more
pub value_more : (settings : Settings) (headings row : Row) (start out new : List ℕ) (columns : List Column)
    (column : Column) → out ≡ start ++ behind_bars (map (value_of settings headings row) columns)
    → new ≡ out ++ 124 ∷ value_of settings headings row column
    → new ≡ start ++ behind_bars (map (value_of settings headings row) (columns ++ column ∷ []))
value_more settings headings row start out new columns column so put =
    let value = value_of settings headings row in
    put ∙ ap (λ o. o ++ 124 ∷ value column) so
    ∙ flat_map_more (λ value. 124 ∷ value) start (map value columns) (value column)
    ∙ ap (λ values. start ++ behind_bars values) (sym (map-append value columns (column ∷ [])))

pub fit_more : (test : Column → Bool) (columns : List Column) (column : Column) → list_all test columns ≡ true
    → test column ≡ true → list_all test (columns ++ column ∷ []) ≡ true
fit_more test columns column so fit = rw (list_all-append test columns (column ∷ []), so, fit) refl

-- one row more
pub row_more : (settings : Settings) (sheet : Sheet) (headings : Row) (start out new : List ℕ)
    (rows : List Row) (row : Row) → out ≡ start ++ text_of_rows settings sheet headings rows
    → new ≡ out ++ line_of settings sheet headings row ++ 10 ∷ []
    → new ≡ start ++ text_of_rows settings sheet headings (rows ++ row ∷ [])
row_more settings sheet headings start out new rows row so put =
    put ∙ append_assoc out (line_of settings sheet headings row) (10 ∷ [])
    ∙ ap (λ o. o ++ (line_of settings sheet headings row ++ 10 ∷ [])) so
    ∙ flat_map_more (λ row. line_of settings sheet headings row ++ 10 ∷ []) start rows row

-- the value of the next column
pub value_step : (settings : Settings) (headings row : Row) (start out new : List ℕ)
    (columns : List Column) (at : ℕ) (d : Column) → at < length columns
    → out ≡ start ++ behind_bars (map (value_of settings headings row) (take at columns))
    → new ≡ out ++ 124 ∷ value_of settings headings row (get_or columns at d)
    → new ≡ start ++ behind_bars (map (value_of settings headings row) (take (at + 1) columns))
value_step settings headings row start out new columns at d l so put =
    rw (take_more columns at d l)
    (value_more settings headings row start out new (take at columns) (get_or columns at d) so put)

pub fit_step : (test : Column → Bool) (columns : List Column) (at : ℕ) (d : Column)
    → at < length columns → list_all test (take at columns) ≡ true → test (get_or columns at d) ≡ true
    → list_all test (take (at + 1) columns) ≡ true
fit_step test columns at d l so fit =
    rw (take_more columns at d l) (fit_more test (take at columns) (get_or columns at d) so fit)

-- The lines of so many sheets stand behind the first line.
pub record TablesSoFar (settings : Settings) (format : Format) (sources : Sources) (sheets : List Sheet)
    (n : ℕ) (out counts : List ℕ) : Type 0 where
  pub tables : List Table
  pub of_sheets : map (λ table. table.sheet) tables ≡ take n sheets
  pub each : All (IsTableOf settings format sources) tables
  pub counted : counts ≡ counts_of tables
  pub text : out ≡ (first_line settings ++ 10 ∷ []) ++ flat_map (text_of_table settings) tables

-- none yet
pub no_tables : (settings : Settings) (format : Format) (sources : Sources)
    (sheets : List Sheet) (out : List ℕ) → out ≡ first_line settings ++ 10 ∷ []
    → TablesSoFar settings format sources sheets 0 out []
no_tables settings format sources sheets out is = record {
  tables = [];
  of_sheets = refl;
  each = All-nil (IsTableOf settings format sources);
  counted = refl;
  text = is ∙ sym (append-nil (first_line settings ++ 10 ∷ []));
}

-- one more
pub table_step : (settings : Settings) (format : Format) (sources : Sources) (sheets : List Sheet)
    (at : ℕ) (d : Sheet) (out new counts : List ℕ) (file : Source) (table : Table) → at < length sheets
    → TablesSoFar settings format sources sheets at out counts → file ≡ file_of sources (get_or sheets at d)
    → table.sheet ≡ get_or sheets at d → IsTableIn settings format file table
    → new ≡ out ++ text_of_table settings table
    → TablesSoFar settings format sources sheets (at + 1) new (counts ++ length table.rows ∷ [])
table_step settings format sources sheets at d out new counts file table l so is its read put =
    let this : IsTableOf settings format sources table =
    subst (λ f. IsTableIn settings format f table) (is ∙ ap (file_of sources) (sym its)) read in
    let start = first_line settings ++ 10 ∷ [] in
    record {
      tables = so.tables ++ table ∷ [];
      of_sheets =
          map-append (λ (t : Table). t.sheet) so.tables (table ∷ [])
          ∙ ap (λ ss. ss ++ table.sheet ∷ []) so.of_sheets ∙ ap (λ s. take at sheets ++ s ∷ []) its
          ∙ sym (take_more sheets at d l);
      counted =
          ap (λ cs. cs ++ length table.rows ∷ []) so.counted
          ∙ sym (map-append (λ (t : Table). length t.rows) so.tables (table ∷ []));
      each = All-push (IsTableOf settings format sources) so.tables table so.each this;
      text = put ∙ ap (λ o. o ++ text_of_table settings table) so.text
          ∙ flat_map_more (text_of_table settings) start so.tables table;
    }

-- all
pub all_tables : (settings : Settings) (format : Format) (sources : Sources)
    (sheets : List Sheet) (n : ℕ) (out counts : List ℕ) → sheets ≡ all_sheets
    → length sheets ≤ n → TablesSoFar settings format sources sheets n out counts
    → (tables : List Table) × IsTextOf settings format sources tables out × (counts ≡ counts_of tables)
all_tables settings format sources sheets n out counts are past so = (
  so.tables,
  record {
    sheets = so.of_sheets ∙ take_all n sheets past ∙ are;
    each = so.each;
    whole =
        so.text ∙ append_assoc (first_line settings) (10 ∷ []) (flat_map (text_of_table settings) so.tables);
  },
  so.counted,
)
