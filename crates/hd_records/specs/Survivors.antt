-- The survivors that records are of, and the records before a number, of it and after it.
use Rattle.std.specs.Prelude.{ℕ, ◌==◌, nat_lt, Option, Some, None, List, [], map, filter, find, option_map}
use Rattle.hd_rules.specs.declared.cells.Change.{Change}
use Rattle.hd_rules.specs.declared.commands.Cancel.{Cancel}
use Rattle.hd_rules.specs.declared.commands.Survivor.{Survivor}
use Rattle.hd_rules.specs.Record.{Record}
use Rattle.hd_rules.specs.Searches.{target}

-- the survivor that a record is of
abbrev pub survivor_of : Record → Survivor
survivor_of r = record { number = r.number; terminal = r.terminal; command = r.command }

-- those that the records are of, in their order
abbrev pub survivors_of : List Record → List Survivor
survivors_of records = map survivor_of records

-- the record of this number, if there is one
abbrev pub record_of : ℕ → List Record → Option Record
record_of n records = find (λ r. r.number == n) records

-- those with a smaller number
abbrev pub older : ℕ → List Record → List Record
older n records = filter (λ r. nat_lt r.number n) records

-- those with a greater number
abbrev pub newer : ℕ → List Record → List Record
newer n records = filter (λ r. nat_lt n r.number) records

-- the changes of a record, or none
abbrev pub changes_in : Option Record → List Change
changes_in None = []
changes_in (Some r) = r.changes

-- the changes of the record of this number
abbrev pub changes_of : ℕ → List Record → List Change
changes_of n records = changes_in (record_of n records)

-- the number of the newest record that such a cancellation by the terminal takes back
abbrev pub target_of : ℕ → Cancel → List Record → Option ℕ
target_of terminal what records =
    option_map (λ at. at.survivor.number) (target terminal what (survivors_of records))
