-- Sheets and their columns.
use Rattle.std.specs.Prelude.{ℕ, Bool, List, [], ◌∷◌, codes}
use Rattle.hd_rules.specs.declared.limits.TheConstants.{MOST_LOANS, MOST_LOAN_DAYS, MOST_RENEWALS}
use Rattle.hd_catalogue.specs.Text.{is_name, is_number_to, is_priority}
use Rattle.hd_import.specs.declared.column.Column.{Column}
use Rattle.hd_import.specs.declared.column.Column.TheVariants as column
use Rattle.hd_import.specs.declared.column.Sheet.{Sheet}
use Rattle.hd_import.specs.declared.column.Sheet.TheVariants as sheet

-- the sheets, in the order of their lines in the catalogue file
abbrev pub all_sheets : List Sheet
all_sheets = sheet.Branches ∷ sheet.Terminals ∷ sheet.Patrons ∷ sheet.Titles ∷ sheet.Copies ∷ []

-- the columns of a sheet, in the order of the values of its line
abbrev pub columns_of : Sheet → List Column
columns_of sheet.Branches = column.Branch ∷ []
columns_of sheet.Terminals = column.Terminal ∷ column.Password ∷ column.Branch ∷ []
columns_of sheet.Patrons = column.Patron ∷ column.LoanLimit ∷ []
columns_of sheet.Titles = column.Title ∷ column.LoanDays ∷ column.Renewals ∷ column.Priority ∷ []
columns_of sheet.Copies = column.Copy ∷ column.Title ∷ column.Branch ∷ []

-- the first of them, in which a row has the name of what it is of
abbrev pub first_column : Sheet → Column
first_column sheet.Branches = column.Branch
first_column sheet.Terminals = column.Terminal
first_column sheet.Patrons = column.Patron
first_column sheet.Titles = column.Title
first_column sheet.Copies = column.Copy

-- the columns in which a row may name what another sheet has: of a copy its title or its branch, of any other
-- its branch
abbrev pub naming_columns : Sheet → List Column
naming_columns sheet.Copies = column.Title ∷ column.Branch ∷ []
naming_columns _ = column.Branch ∷ []

-- the letter of a sheet's lines: B, S, P, T or C
abbrev pub letter_of : Sheet → ℕ
letter_of sheet.Branches = 66
letter_of sheet.Terminals = 83
letter_of sheet.Patrons = 80
letter_of sheet.Titles = 84
letter_of sheet.Copies = 67

-- what stands above a column
abbrev pub heading_of : Column → List ℕ
heading_of column.Branch = codes "branch"
heading_of column.Terminal = codes "terminal"
heading_of column.Password = codes "password"
heading_of column.Patron = codes "patron"
heading_of column.LoanLimit = codes "loan limit"
heading_of column.Title = codes "title"
heading_of column.LoanDays = codes "loan days"
heading_of column.Renewals = codes "renewals"
heading_of column.Priority = codes "priority"
heading_of column.Copy = codes "copy"

-- whether a catalogue file takes this value in the place of a column
abbrev pub is_fit : Column → List ℕ → Bool
is_fit column.Branch value = is_name value
is_fit column.Terminal value = is_name value
is_fit column.Password value = is_name value
is_fit column.Patron value = is_name value
is_fit column.LoanLimit value = is_number_to MOST_LOANS value
is_fit column.Title value = is_name value
is_fit column.LoanDays value = is_number_to MOST_LOAN_DAYS value
is_fit column.Renewals value = is_number_to MOST_RENEWALS value
is_fit column.Priority value = is_priority value
is_fit column.Copy value = is_name value
