-- What the columns say, by the catalogue's names.
use Rattle.std.specs.Prelude.{◌≡◌, ℕ, ◌<◌, List, [], ◌∷◌, Option, Some, None, IfSome}
use Rattle.std.specs.List.{AllByRecursion}
use Rattle.hd_rules.specs.Facts.{Facts}
use Rattle.hd_catalogue.specs.Contents.{Contents, branch_number, copy_number, patron_number, title_number}
use Rattle.hd_catalogue.specs.Names.{number_of}
use Rattle.hd_day_text.specs.Days.{IsDayText}
use Rattle.hd_ask_parts.specs.Acts.{act_word, admits_word}
use Rattle.hd_ask_parts.specs.declared.act.Act.{Act}
use Rattle.hd_ask_parts.specs.declared.act.Admits.{Admits}
use Rattle.hd_turn_row.specs.declared.fault.Column.{Column}
use Rattle.hd_turn_row.specs.declared.fault.Column.TheVariants as columns
use Rattle.hd_ask_parts.specs.declared.parts.Parts.{Parts}
use Rattle.hd_turn_store.specs.Kept.{KeptTurn}

-- the columns of what is asked, in the order of the table
abbrev pub asked_columns : List Column
asked_columns = columns.Day ∷ columns.Act ∷ columns.Patron ∷ columns.Copy ∷ columns.Title ∷ columns.Branch
    ∷ columns.Admits ∷ columns.Until ∷ []

-- what a column says something of
abbrev pub Said : Column → Type 0
Said columns.Act = Act
Said columns.Admits = Admits
Said column = ℕ

-- the part for a column; that of the terminal isn't among what is asked
abbrev pub part : Parts → (column : Column) → Option (Said column)
part p columns.Terminal = None
part p columns.Day = p.day
part p columns.Act = Some p.act
part p columns.Patron = p.patron
part p columns.Copy = p.copy
part p columns.Title = p.title
part p columns.Branch = p.branch
part p columns.Admits = p.admits
part p columns.Until = p.until

-- the text of a column; the day's is empty where there is no day
abbrev pub day_of : List ℕ → Option (List ℕ)
day_of [] = None
day_of (byte ∷ bytes) = Some (byte ∷ bytes)

abbrev pub text : KeptTurn → Column → Option (List ℕ)
text row columns.Terminal = Some row.terminal
text row columns.Day = day_of row.day
text row columns.Act = Some row.act
text row columns.Patron = row.patron
text row columns.Copy = row.copy
text row columns.Title = row.title
text row columns.Branch = row.branch
text row columns.Admits = row.admits
text row columns.Until = row.until

-- The text says it in the column: it is the name of that number, the word, or the text of the day.
abbrev pub Says : Contents → (column : Column) → Said column → List ℕ → Type 0
Says k columns.Terminal terminal text = number_of k.terminals text ≡ Some terminal
Says k columns.Day day text = IsDayText day text
Says k columns.Act act text = text ≡ act_word act
Says k columns.Patron patron text = patron_number k text ≡ Some patron
Says k columns.Copy copy text = copy_number k text ≡ Some copy
Says k columns.Title title text = title_number k text ≡ Some title
Says k columns.Branch branch text = branch_number k text ≡ Some branch
Says k columns.Admits admits text = text ≡ admits_word admits
Says k columns.Until day text = IsDayText day text

-- what a column has of a part: nothing of none, and a text that says it
abbrev pub IsShown : {V : Type 0} → (V → List ℕ → Type 0) → Option V → Option (List ℕ) → Type 0
IsShown Says None None = Unit {0}
IsShown Says (Some part) (Some text) = Says part text
IsShown Says _ _ = ⊥

-- The columns say what is asked.
abbrev pub AreShown : Contents → Parts → KeptTurn → Type 0
AreShown k parts row =
    AllByRecursion (λ column. IsShown (Says k column) (part parts column) (text row column)) asked_columns

-- the columns of names, and that the catalogue has what a number in one of them names
abbrev pub named_columns : List Column
named_columns = columns.Patron ∷ columns.Copy ∷ columns.Title ∷ columns.Branch ∷ []

abbrev pub IsKnownIn : Facts → (column : Column) → Said column → Type 0
IsKnownIn k columns.Patron patron = patron < k.patrons
IsKnownIn k columns.Copy copy = copy < k.copies
IsKnownIn k columns.Title title = title < k.titles
IsKnownIn k columns.Branch branch = branch < k.branches
IsKnownIn k column said = Unit {0}

-- all that is asked names things of the catalogue
abbrev pub AreKnownParts : Facts → Parts → Type 0
AreKnownParts k parts =
    AllByRecursion (λ column. IfSome (part parts column) (IsKnownIn k column)) named_columns
