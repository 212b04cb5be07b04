-- The rows of a sheet: the records of its text, by the rules of CSV.
use Rattle.std.specs.Prelude.{◌≡◌, ℕ, Bool, List, [], ◌∷◌, Option, None, Some, if◌then◌else◌, ◌==◌, not}
use Rattle.std.specs.Prelude.{IsUtf8, length, map}
use Rattle.std.specs.List.{filter, flat_map, list_any}
use Rattle.std.specs.Char.{encode_utf8}
use Rattle.std.specs.Str as Str
use Rattle.csv.specs.Reading.{AreRecords, default_config, strip_bom}
use Rattle.csv.specs.declared.parser.Config.{Config}
use Rattle.csv.specs.declared.parser.State.TheVariants as state
use Rattle.hd_catalogue.specs.Files.{lines_of}
use Rattle.hd_import.specs.declared.format.Encoding.{Encoding}
use Rattle.hd_import.specs.declared.format.Encoding.TheVariants as encoding
use Rattle.hd_import.specs.declared.format.Format.{Format}

-- a row: its values, the blanks around each taken off
abbrev pub Row : Type 0
Row = List (List ℕ)

-- the text of a file's bytes: in Latin-1 each byte is the character of its number
abbrev pub decoded : Encoding → List ℕ → List ℕ
decoded encoding.Utf8 bytes = bytes
decoded encoding.Latin1 bytes = flat_map encode_utf8 bytes

-- the file's bytes are in its encoding: any are Latin-1
abbrev pub IsEncoded : Format → List ℕ → Type 0
IsEncoded format bytes = format.encoding ≡ encoding.Utf8 → IsUtf8 bytes

abbrev pub first_line_of : List (List ℕ) → List ℕ
first_line_of [] = []
first_line_of (line ∷ lines) = line

-- whether the first line of a text has this byte
abbrev pub heads_have : ℕ → List ℕ → Bool
heads_have byte text = list_any (λ b. b == byte) (first_line_of (lines_of text))

-- the separator that the first line shows: a tab, else a semicolon, else a comma
abbrev pub separator_found : List ℕ → ℕ
separator_found text = if heads_have 9 text then 9 else if heads_have 59 text then 59 else 44

-- the separator that is told, else the one that is found
abbrev pub separator_of : Option ℕ → List ℕ → ℕ
separator_of None text = separator_found text
separator_of (Some told) text = told

-- the rules of CSV with this separator: a value may stand in quotes, and within them a quote stands twice
abbrev pub rules_with : ℕ → Config
rules_with separator = record default_config { delimiter = separator }

-- a row where something stands
abbrev pub has_value : Row → Bool
has_value row = list_any (λ value. not (length value == 0)) row

-- the rows that these records are: the blanks around each value are dropped, and rows without a value
abbrev pub rows_of : List Row → List Row
rows_of records = filter has_value (map (map Str.trim) records)

-- These are the rows of a text, but for a mark of its encoding at its start.
abbrev pub AreRowsOf : ℕ → List ℕ → List Row → Type 0
AreRowsOf separator text rows =
    (records : List Row) × AreRecords (rules_with separator) state.StartRecord (strip_bom text) records
    × (rows ≡ rows_of records)

-- These are the rows of a sheet's file.
abbrev pub AreRowsOfFile : Format → List ℕ → List Row → Type 0
AreRowsOfFile format bytes rows =
    AreRowsOf (separator_of format.separator (decoded format.encoding bytes)) (decoded format.encoding bytes)
    rows
