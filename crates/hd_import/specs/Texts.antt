-- The catalogue file that sheets make.
use Rattle.std.specs.Prelude.{◌≡◌, ℕ, Bool, true, false, List, [], ◌∷◌, ◌++◌, All, codes, decimal, length}
use Rattle.std.specs.Prelude.{map}
use Rattle.std.specs.List.{flat_map, list_all}
use Rattle.std.specs.Fmt.{signed_decimal}
use Rattle.hd_import.specs.Columns.{all_sheets, columns_of, is_fit, letter_of}
use Rattle.hd_import.specs.Quotes.{is_open_file}
use Rattle.hd_import.specs.Rows.{AreRowsOfFile, IsEncoded, Row}
use Rattle.hd_import.specs.Values.{IsHeaded, value_of}
use Rattle.hd_import.specs.declared.column.Column.{Column}
use Rattle.hd_import.specs.declared.column.Column.TheVariants as column
use Rattle.hd_import.specs.declared.column.Sheet.{Sheet}
use Rattle.hd_import.specs.declared.column.Sheet.TheVariants as sheet
use Rattle.hd_import.specs.declared.format.Format.{Format}
use Rattle.hd_import.specs.declared.settings.Settings.{Settings}
use Rattle.hd_import.specs.declared.sources.Source.{Source}
use Rattle.hd_import.specs.declared.sources.Sources.{Sources}

-- A sheet that was read: its headings, and the rows below them.
pub record Table : Type 0 where
  pub sheet : Sheet
  pub headings : Row
  pub rows : List Row

-- values, each behind a bar
abbrev pub behind_bars : List (List ℕ) → List ℕ
behind_bars values = flat_map (λ value. 124 ∷ value) values

-- the line of a row: its sheet's letter, and the values of the sheet's columns
abbrev pub line_of : Settings → Sheet → Row → Row → List ℕ
line_of settings sheet headings row =
    letter_of sheet ∷ behind_bars (map (value_of settings headings row) (columns_of sheet))

-- whether the catalogue takes each value of a row
abbrev pub is_fit_row : Settings → Sheet → Row → Row → Bool
is_fit_row settings sheet headings row =
    list_all (λ column. is_fit column (value_of settings headings row column)) (columns_of sheet)

-- the lines of rows, each with its end
abbrev pub text_of_rows : Settings → Sheet → Row → List Row → List ℕ
text_of_rows settings sheet headings rows =
    flat_map (λ row. line_of settings sheet headings row ++ 10 ∷ []) rows

abbrev pub text_of_table : Settings → Table → List ℕ
text_of_table settings table = text_of_rows settings table.sheet table.headings table.rows

-- the first line: version 2, the institution, the offset of local time, the limit of commands
abbrev pub first_line : Settings → List ℕ
first_line settings =
    codes "H"
    ++ behind_bars
    (codes "2" ∷ settings.institution.now ∷ signed_decimal settings.offset ∷ decimal settings.commands ∷ [])

-- the file of a sheet
abbrev pub file_of : Sources → Sheet → Source
file_of sources sheet.Branches = sources.branches
file_of sources sheet.Terminals = sources.terminals
file_of sources sheet.Patrons = sources.patrons
file_of sources sheet.Titles = sources.titles
file_of sources sheet.Copies = sources.copies

-- the file of the sheet with what a column names: of titles, where it names one, else of branches
abbrev pub file_with : Sources → Column → Source
file_with sources column.Title = sources.titles
file_with sources _ = sources.branches

-- how many rows each table has
abbrev pub counts_of : List Table → List ℕ
counts_of tables = map (λ table. length table.rows) tables

-- The table is what the file says, which is in its encoding and each of whose quotes is closed; no column is
-- missing, and the catalogue takes each value of a row.
pub record IsTableIn (settings : Settings) (format : Format) (file : Source) (table : Table) : Type 0 where
  pub encoded : IsEncoded format file.bytes.now
  pub closed : is_open_file format file.bytes.now ≡ false
  pub rows : AreRowsOfFile format file.bytes.now (table.headings ∷ table.rows)
  pub headed : IsHeaded settings table.sheet table.headings
  pub fit : All (λ row. is_fit_row settings table.sheet table.headings row ≡ true) table.rows

-- the table is what its sheet's file says
abbrev pub IsTableOf : Settings → Format → Sources → Table → Type 0
IsTableOf settings format sources table = IsTableIn settings format (file_of sources table.sheet) table

-- The text is the first line, and a line for each row of these tables, which are those of all sheets.
pub record IsTextOf (settings : Settings) (format : Format) (sources : Sources) (tables : List Table)
    (text : List ℕ) : Type 0 where
  pub sheets : map (λ table. table.sheet) tables ≡ all_sheets
  pub each : All (IsTableOf settings format sources) tables
  pub whole : text ≡ first_line settings ++ 10 ∷ flat_map (text_of_table settings) tables
