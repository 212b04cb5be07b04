-- Records listed by what their commands ask about.
use Rattle.std.specs.Prelude.{◌≡◌, ℕ, ◌<◌, Bool, Option, None, Some, List, map, filter}
use Rattle.hd_index.specs.RowValue.{RowValue}
use Rattle.hd_index.specs.Rows.{places_of, room_of}
use Rattle.hd_rules.specs.Facts.{Facts}
use Rattle.hd_rules.specs.Record.{Record}
use Rattle.hd_clash.specs.declared.command_keys.CommandKeys.{CommandKeys}
use Rattle.hd_clash.specs.declared.key.Key.{Key}
use Rattle.hd_clash.specs.declared.key.Key.TheVariants as key
use Rattle.hd_clash.specs.CommandKeys.{has_key, keys_of_command}
use Rattle.hd_records.specs.IndexValue.{IndexValue}

-- the numbers that are listed under a key
abbrev pub listed_under : Key → IndexValue → List ℕ
listed_under (key.Title t) index = places_of t index.titles
listed_under (key.Branch b) index = places_of b index.branches
listed_under (key.Patron p) index = places_of p index.patrons

-- the record's command asks about the key
abbrev pub asks_about : Facts → Key → Record → Bool
asks_about k x r = has_key (keys_of_command k r.command) x

-- the records whose commands ask about a key
abbrev pub records_about : Facts → Key → List Record → List Record
records_about k x records = filter (asks_about k x) records

-- the numbers of records
abbrev pub numbers_of : List Record → List ℕ
numbers_of records = map (λ r. r.number) records

-- under each key are listed just the records whose commands ask about it
abbrev pub IsIndexOf : Facts → List Record → IndexValue → Type 0
IsIndexOf k records index = (x : Key) → listed_under x index ≡ numbers_of (records_about k x records)

-- room for one more place at a number, if there is one
abbrev pub HasRoomAt : Option ℕ → List RowValue → Type 0
HasRoomAt None rows = Unit {0}
HasRoomAt (Some n) rows = 0 < room_of n rows

-- room for one more record under these keys
pub record HasRoomUnder (keys : CommandKeys) (index : IndexValue) : Type 0 where
  pub title : HasRoomAt (Some keys.title) index.titles
  pub patron : HasRoomAt keys.patron index.patrons
  pub branch : HasRoomAt keys.branch index.branches
