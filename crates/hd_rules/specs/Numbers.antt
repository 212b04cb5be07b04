-- What the numbers of the definitions are. Each is a ℕ, and its name says of what.
use Rattle.std.specs.Prelude.{ℕ}

-- a branch, a terminal, a title, a copy and a patron of the catalogue: each kind is numbered from 0
abbrev pub BranchNo : Type 0
BranchNo = ℕ

abbrev pub TerminalNo : Type 0
TerminalNo = ℕ

abbrev pub TitleNo : Type 0
TitleNo = ℕ

abbrev pub CopyNo : Type 0
CopyNo = ℕ

abbrev pub PatronNo : Type 0
PatronNo = ℕ

-- a seat: those of a hall from 1, and 0 of a journal that is used alone
abbrev pub SeatNo : Type 0
SeatNo = ℕ

-- a day of the calendar
abbrev pub Day : Type 0
Day = ℕ

-- an accepted command, from 1; and a hold, by the command that added it
abbrev pub CommandNo : Type 0
CommandNo = ℕ

abbrev pub HoldStamp : Type 0
HoldStamp = ℕ

-- a place on a branch's hold shelf, from 1
abbrev pub PlaceNo : Type 0
PlaceNo = ℕ

-- how many there are
abbrev pub Count : Type 0
Count = ℕ
