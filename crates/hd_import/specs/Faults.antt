-- Why sheets make no catalogue file.
use Rattle.std.specs.Prelude.{◌≡◌, ◌≢◌, ℕ, ◌+◌, ◌<◌, Bool, true, false, List, [], ◌∷◌, Contains, IsUtf8}
use Rattle.std.specs.Prelude.{Some, All, ◌⊎◌, ◌++◌, find, length, map, slice_index_or, string_bytes, sum}
use Rattle.std.specs.Prelude.{take}
use Rattle.std.specs.List.{HoldsAt}
use Rattle.hd_catalogue.specs.Files.{IsFirstBad, lines_of}
use Rattle.hd_catalogue.specs.Text.{is_name}
use Rattle.hd_catalogue.specs.declared.cause.CatFault.{CatFault}
use Rattle.hd_catalogue.specs.declared.cause.Cause.{Cause}
use Rattle.hd_catalogue.specs.declared.cause.Cause.TheVariants as cause
use Rattle.hd_import.specs.Columns.{all_sheets, columns_of, first_column, is_fit, naming_columns}
use Rattle.hd_import.specs.Quotes.{is_open_file, is_open_text}
use Rattle.hd_import.specs.Rows.{AreRowsOfFile, IsEncoded, Row}
use Rattle.hd_import.specs.Texts.{IsTableOf, IsTextOf, Table, counts_of, file_of, file_with}
use Rattle.hd_import.specs.Texts.{is_fit_row}
use Rattle.hd_import.specs.Values.{IsHeaded, given, is_missing, is_unfit, value_of}
use Rattle.hd_import.specs.declared.column.Column.{Column}
use Rattle.hd_import.specs.declared.column.Sheet.{Sheet}
use Rattle.hd_import.specs.declared.fault.Fault.{Fault}
use Rattle.hd_import.specs.declared.fault.Fault.TheVariants as fault
use Rattle.hd_import.specs.declared.fault.Place.{Place}
use Rattle.hd_import.specs.declared.format.Encoding.TheVariants as encoding
use Rattle.hd_import.specs.declared.format.Format.{Format}
use Rattle.hd_import.specs.declared.rows.RowsFault.{RowsFault}
use Rattle.hd_import.specs.declared.rows.RowsFault.TheVariants as rows_fault
use Rattle.hd_import.specs.declared.settings.Settings.{Settings}
use Rattle.hd_import.specs.declared.sources.Source.{Source}
use Rattle.hd_import.specs.declared.sources.Sources.{Sources}
use Rattle.hd_import.specs.declared.writing.LineFault.{LineFault}
use Rattle.hd_import.specs.declared.writing.RowFault.{RowFault}
use Rattle.hd_import.specs.declared.writing.RowFault.TheVariants as row_fault

-- a quote of the text isn't closed, by the rules with this separator; or it is out of memory
abbrev pub IsTextFault : ℕ → List ℕ → RowsFault → Type 0
IsTextFault separator text (rows_fault.NotUtf8 valid) = ⊥
IsTextFault separator text (rows_fault.OpenQuote place) = is_open_text separator text ≡ true
IsTextFault separator text rows_fault.Memory = Unit {0}

-- the file isn't UTF-8, which is its encoding; a quote of it isn't closed; or it is out of memory
abbrev pub IsRowsFault : Format → List ℕ → RowsFault → Type 0
IsRowsFault format bytes (rows_fault.NotUtf8 valid) =
    (format.encoding ≡ encoding.Utf8) × ¬ (IsUtf8 bytes)
IsRowsFault format bytes (rows_fault.OpenQuote place) =
    IsEncoded format bytes × (is_open_file format bytes ≡ true)
IsRowsFault format bytes rows_fault.Memory = Unit {0}

-- it is the first column of the sheet in which the catalogue doesn't take what the row says
abbrev pub IsUnfit : Settings → Sheet → Row → Row → Column → Type 0
IsUnfit settings sheet headings row column =
    find (is_unfit settings headings row) (columns_of sheet) ≡ Some column

abbrev pub IsValueFault : Settings → Row → Row → Column → RowFault → Type 0
IsValueFault settings headings row column (row_fault.Value named) =
    (named ≡ column) × (is_fit column (value_of settings headings row column) ≡ false)
IsValueFault settings headings row column row_fault.Memory = Unit {0}

abbrev pub IsRowFault : Settings → Sheet → Row → Row → RowFault → Type 0
IsRowFault settings sheet headings row (row_fault.Value column) = IsUnfit settings sheet headings row column
IsRowFault settings sheet headings row row_fault.Memory = Unit {0}

-- the catalogue takes each value of so many rows, the first ones
abbrev pub AreFitBefore : Settings → Sheet → Row → List Row → ℕ → Type 0
AreFitBefore settings sheet headings rows many =
    All (λ row. is_fit_row settings sheet headings row ≡ true) (take many rows)

-- the fault is of the row with this number, from 0, and those before it are without one
abbrev pub IsLineFault : Settings → Sheet → Row → List Row → LineFault → Type 0
IsLineFault settings sheet headings rows fault =
    (fault.row < length rows) × AreFitBefore settings sheet headings rows fault.row
    × IsRowFault settings sheet headings (slice_index_or rows fault.row []) fault.fault

-- it is the first column of the sheet that is missing
abbrev pub IsMissing : Settings → Sheet → Row → Column → Type 0
IsMissing settings sheet headings column =
    find (is_missing settings headings) (columns_of sheet) ≡ Some column

-- the file is in its encoding, and each quote of it is closed
abbrev pub IsReadable : Format → List ℕ → Type 0
IsReadable format bytes = IsEncoded format bytes × (is_open_file format bytes ≡ false)

-- the headings of a sheet with these rows
abbrev pub headings_of : List Row → Row
headings_of [] = []
headings_of (headings ∷ rows) = headings

-- The row of the file with this number has this value in the column, of whose values the catalogue takes none
-- such; no column is missing, and the rows before this one are without a fault.
abbrev pub IsUnfitAt : Settings → Format → Sheet → Source → ℕ → Column → List ℕ → Type 0
IsUnfitAt settings format sheet file row column value =
    (headings : Row) × (rows : List Row) × AreRowsOfFile format file.bytes.now (headings ∷ rows)
    × IsHeaded settings sheet headings × (row < length rows) × AreFitBefore settings sheet headings rows row
    × IsUnfit settings sheet headings (slice_index_or rows row []) column
    × (value ≡ given headings (slice_index_or rows row []) column)

-- The fault is of this file of a sheet: of its encoding, else of a quote, else of a column that is missing,
-- else of the first row with one.
abbrev pub IsSheetFault : Settings → Format → Sheet → Source → Fault → Type 0
IsSheetFault settings format sheet file (fault.NotUtf8 path line) =
    (path.now ≡ file.path.now) × (format.encoding ≡ encoding.Utf8) × ¬ (IsUtf8 file.bytes.now)
IsSheetFault settings format sheet file (fault.OpenQuote path line) =
    (path.now ≡ file.path.now) × IsEncoded format file.bytes.now
    × (is_open_file format file.bytes.now ≡ true)
IsSheetFault settings format sheet file (fault.NoColumn path column) =
    (path.now ≡ file.path.now) × IsReadable format file.bytes.now
    × (rows : List Row) × AreRowsOfFile format file.bytes.now rows
    × IsMissing settings sheet (headings_of rows) column
IsSheetFault settings format sheet file (fault.Value place column value) =
    (place.sheet ≡ sheet) × (place.path.now ≡ file.path.now) × IsReadable format file.bytes.now
    × IsUnfitAt settings format sheet file place.row column (string_bytes value)
IsSheetFault settings format sheet file fault.Memory = Unit {0}
IsSheetFault settings format sheet file fault.Institution = ⊥
IsSheetFault settings format sheet file (fault.Double place column value) = ⊥
IsSheetFault settings format sheet file (fault.Unknown place column value other) = ⊥
IsSheetFault settings format sheet file (fault.TooMany place) = ⊥
IsSheetFault settings format sheet file (fault.Refused refused) = ⊥

-- The line is that of a row of a sheet, where the sheets have so many rows each: behind the first line and
-- the rows of the sheets before it.
abbrev pub IsLineOfRow : List ℕ → Sheet → ℕ → ℕ → Type 0
IsLineOfRow counts sheet row line =
    (index : ℕ) × (index < length counts) × HoldsAt (λ s. s ≡ sheet) all_sheets index
    × (row < slice_index_or counts index 0) × (line ≡ 2 + sum (take index counts) + row)

-- no row of a sheet has this line
abbrev pub IsLineOfNoRow : List ℕ → ℕ → Type 0
IsLineOfNoRow counts line = (sheet : Sheet) (row : ℕ) → IsLineOfRow counts sheet row line → ⊥

-- the place is that of the row whose line this is, in the file of its sheet
abbrev pub IsPlaceOf : Sources → List ℕ → ℕ → Place → Type 0
IsPlaceOf sources counts line place =
    (place.path.now ≡ (file_of sources place.sheet).path.now) × IsLineOfRow counts place.sheet place.row line

-- the row of a file with this number, from 0, and the file's headings
abbrev pub IsRowAt : Format → Source → ℕ → Row → Row → Type 0
IsRowAt format file number headings row =
    (rows : List Row) × AreRowsOfFile format file.bytes.now (headings ∷ rows) × (number < length rows)
    × (row ≡ slice_index_or rows number [])

-- what the row at a place has in a column
abbrev pub IsGivenAt : Format → Sources → Place → Column → List ℕ → Type 0
IsGivenAt format sources place column value =
    (headings : Row) × (row : Row) × IsRowAt format (file_of sources place.sheet) place.row headings row
    × (value ≡ given headings row column)

-- whether a line is refused for what other rows are, so that its row is told
abbrev pub is_of_rows : Cause → Bool
is_of_rows cause.Double = true
is_of_rows cause.Unknown = true
is_of_rows cause.Limit = true
is_of_rows _ = false

-- The fault names the row whose line the catalogue refuses, and the cause. The catalogue's own fault is told
-- where the line alone is at fault, or is no row's.
abbrev pub IsTraced : Format → Sources → List ℕ → CatFault → Fault → Type 0
IsTraced format sources counts refused (fault.Double place column value) =
    (refused.cause ≡ cause.Double) × IsPlaceOf sources counts refused.line place
    × (column ≡ first_column place.sheet) × IsGivenAt format sources place column (string_bytes value)
IsTraced format sources counts refused (fault.Unknown place column value other) =
    (refused.cause ≡ cause.Unknown) × IsPlaceOf sources counts refused.line place
    × Contains (naming_columns place.sheet) column × (other.now ≡ (file_with sources column).path.now)
    × IsGivenAt format sources place column (string_bytes value)
IsTraced format sources counts refused (fault.TooMany place) =
    (refused.cause ≡ cause.Limit) × IsPlaceOf sources counts refused.line place
IsTraced format sources counts refused (fault.Refused told) =
    (told ≡ refused) × (refused.cause ≢ cause.Memory)
    × ((is_of_rows refused.cause ≡ false) ⊎ IsLineOfNoRow counts refused.line)
IsTraced format sources counts refused fault.Memory = Unit {0}
IsTraced format sources counts refused fault.Institution = ⊥
IsTraced format sources counts refused (fault.NotUtf8 path line) = ⊥
IsTraced format sources counts refused (fault.OpenQuote path line) = ⊥
IsTraced format sources counts refused (fault.NoColumn path column) = ⊥
IsTraced format sources counts refused (fault.Value place column value) = ⊥

-- the sheets make a file that the catalogue refuses, and the fault says where and why
abbrev pub IsCatalogueFault : Settings → Format → Sources → Fault → Type 0
IsCatalogueFault settings format sources told =
    (tables : List Table) × (text : List ℕ) × (refused : CatFault)
    × IsTextOf settings format sources tables text × IsFirstBad (lines_of text) refused
    × IsTraced format sources (counts_of tables) refused told

-- The fault is of a sheet, and the sheets before it, in the order of the catalogue's lines, are without one.
pub record IsFirstSheetFault (settings : Settings) (format : Format) (sources : Sources) (told : Fault)
    : Type 0 where
  pub before : List Table
  pub sheet : Sheet
  pub after : List Sheet
  pub order : all_sheets ≡ map (λ table. table.sheet) before ++ sheet ∷ after
  pub earlier : All (IsTableOf settings format sources) before
  pub here : IsSheetFault settings format sheet (file_of sources sheet) told

-- What a fault says is so, and it is the first: of the institution, else of a sheet, else of the catalogue.
abbrev pub IsFault : Settings → Format → Sources → Fault → Type 0
IsFault settings format sources told =
    ((told ≡ fault.Institution) × (is_name settings.institution.now ≡ false))
    ⊎ ((is_name settings.institution.now ≡ true) × IsFirstSheetFault settings format sources told)
    ⊎ ((is_name settings.institution.now ≡ true) × IsCatalogueFault settings format sources told)
