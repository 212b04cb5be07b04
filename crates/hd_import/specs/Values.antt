-- What stands in a row, by the names of the columns.
use Rattle.std.specs.Prelude.{◌≡◌, ℕ, Bool, ◌&&◌, List, [], Option, None, Some, if◌then◌else◌, ◌==◌, codes}
use Rattle.std.specs.Prelude.{decimal, find, is_none, length, not, position, slice_index_or}
use Rattle.std.specs.Option.{option_map_or}
use Rattle.std.specs.Str.{str_eq_ignore_ascii_case}
use Rattle.hd_import.specs.Columns.{columns_of, heading_of, is_fit}
use Rattle.hd_import.specs.Rows.{Row}
use Rattle.hd_import.specs.declared.column.Column.{Column}
use Rattle.hd_import.specs.declared.column.Column.TheVariants as column
use Rattle.hd_import.specs.declared.column.Sheet.{Sheet}
use Rattle.hd_import.specs.declared.settings.Settings.{Settings}

-- whether a heading is that of a column, in small letters or in capitals
abbrev pub is_heading : Column → List ℕ → Bool
is_heading column text = str_eq_ignore_ascii_case text (heading_of column)

-- the place of a column: that of the first such heading
abbrev pub place_of : Row → Column → Option ℕ
place_of headings column = position (is_heading column) headings

-- what a row has in a column: nothing, where no heading is that of the column or the row ends before it
abbrev pub given : Row → Row → Column → List ℕ
given headings row column = option_map_or (λ place. slice_index_or row place []) (place_of headings column) []

-- a number that is told, in decimal digits
abbrev pub number_told : Option ℕ → List ℕ
number_told None = []
number_told (Some number) = decimal number

-- what stands for a value that a row doesn't have
abbrev pub otherwise : Settings → Column → List ℕ
otherwise settings column.LoanLimit = number_told settings.loan_limit
otherwise settings column.LoanDays = number_told settings.loan_days
otherwise settings column.Renewals = number_told settings.renewals
otherwise settings column.Priority = codes "N"
otherwise settings _ = []

-- whether no heading is that of a column, and nothing stands for its values
abbrev pub is_missing : Settings → Row → Column → Bool
is_missing settings headings column =
    is_none (place_of headings column) && length (otherwise settings column) == 0

-- no column of the sheet is missing
abbrev pub IsHeaded : Settings → Sheet → Row → Type 0
IsHeaded settings sheet headings = find (is_missing settings headings) (columns_of sheet) ≡ None

-- what a row says in a column
abbrev pub value_of : Settings → Row → Row → Column → List ℕ
value_of settings headings row column =
    if length (given headings row column) == 0
    then otherwise settings column
    else given headings row column

-- whether the catalogue doesn't take what a row says in a column
abbrev pub is_unfit : Settings → Row → Row → Column → Bool
is_unfit settings headings row column = not (is_fit column (value_of settings headings row column))
