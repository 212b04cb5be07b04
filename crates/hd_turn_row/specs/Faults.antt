-- The first fault of a row's columns.
use Rattle.std.specs.Prelude.{◌≡◌, ◌⊎◌, ℕ, true, false, Bool, List, [], ◌∷◌, Option, Some, None, Result}
use Rattle.std.specs.Prelude.{Err, Ok, is_some}
use Rattle.hd_catalogue.specs.Contents.{Contents}
use Rattle.hd_turn_row.specs.Columns.{AreShown, IsShown, Says, asked_columns, part, text}
use Rattle.hd_ask_parts.specs.Parts.{asked_parts}
use Rattle.hd_turn_row.specs.Parts.{asked_by}
use Rattle.hd_turn_row.specs.declared.fault.Column.{Column}
use Rattle.hd_turn_row.specs.declared.fault.Column.TheVariants as columns
use Rattle.hd_turn_row.specs.declared.fault.RowFault.{RowFault}
use Rattle.hd_turn_row.specs.declared.fault.RowFault.TheVariants.{NoDay, UnknownName, UnknownWord}
use Rattle.hd_turn_row.specs.declared.fault.RowFault.TheVariants.{Unwanted, Wanting}
use Rattle.hd_ask_parts.specs.declared.parts.Parts.{Parts}
use Rattle.hd_turn_store.specs.Kept.{KeptTurn}

-- The fault is that of the first of these columns of which something doesn't hold.
abbrev pub IsFirst : (Column → Type 0) → (Column → RowFault) → List Column → RowFault → Type 0
IsFirst Holds fault_of [] fault = ⊥
IsFirst Holds fault_of (column ∷ more) fault =
    ((Holds column → ⊥) × (fault ≡ fault_of column)) ⊎ (Holds column × IsFirst Holds fault_of more fault)

-- an empty column, or one whose text says something
abbrev pub IsReadText : {V : Type 0} → (V → List ℕ → Type 0) → Option (List ℕ) → Type 0
IsReadText Says None = Unit {0}
IsReadText {V} Says (Some text) = (part : V) × Says part text

abbrev pub IsRead : Contents → KeptTurn → Column → Type 0
IsRead k row column = IsReadText (Says k column) (text row column)

-- the fault of a column that says nothing
abbrev pub unread : Column → RowFault
unread columns.Day = NoDay columns.Day
unread columns.Until = NoDay columns.Until
unread columns.Act = UnknownWord columns.Act
unread columns.Admits = UnknownWord columns.Admits
unread column = UnknownName column

-- what is read of a column: the part that it shows, or else the fault that it says nothing
abbrev pub IsReading : {V : Type 0} → (V → List ℕ → Type 0) → RowFault → Option (List ℕ)
    → Result (Option V) RowFault → Type 0
IsReading Says none text (Ok part) = IsShown Says part text × IsReadText Says text
IsReading Says none text (Err fault) = (IsReadText Says text → ⊥) × (fault ≡ none)

-- the first column that says nothing, of those of what is asked
abbrev pub IsFirstUnread : Contents → KeptTurn → RowFault → Type 0
IsFirstUnread k row = IsFirst (IsRead k row) unread asked_columns

-- the fault of a column that is filled or not, and should be otherwise
abbrev pub misfit : Bool → Column → RowFault
misfit true column = Unwanted column
misfit false column = Wanting column

-- The first column that two have otherwise: the one wants it, or has it though the other doesn't.
abbrev pub IsFirstMisfit : Parts → Parts → RowFault → Type 0
IsFirstMisfit parts other =
    IsFirst (λ column. part parts column ≡ part other column)
    (λ column. misfit (is_some (part parts column)) column) asked_columns

-- the same of the row of what parts ask
abbrev pub IsMisfit : Parts → RowFault → Type 0
IsMisfit parts fault =
    (again : Parts) × (asked_parts (asked_by parts) ≡ Some again) × IsFirstMisfit parts again fault

-- The columns' first fault: a terminal that the catalogue lacks, a column that says nothing, or else one that
-- the act wants or bars.
abbrev pub IsFirstFault : Contents → KeptTurn → RowFault → Type 0
IsFirstFault k row fault =
    IsFirst (IsRead k row) unread (columns.Terminal ∷ asked_columns) fault
    ⊎ ((parts : Parts) × IsRead k row columns.Terminal × AreShown k parts row × IsMisfit parts fault)
