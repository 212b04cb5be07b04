-- What the stored records are to their users.
use Rattle.std.specs.Prelude.{ℕ, ◌+◌, ◌<◌, ◌^◌, List}
use Rattle.hd_rules.specs.Facts.{Facts}
use Rattle.hd_rules.specs.Record.{Record}
use Rattle.hd_clash.specs.declared.command_keys.CommandKeys.{CommandKeys}
use Rattle.hd_clash.specs.About.{EachIsAbout}
use Rattle.hd_clash.specs.Records.{EachCommandIsKnown, EachRecordIsKnown}
use Rattle.hd_records.specs.IndexValue.{IndexValue}
use Rattle.hd_records.specs.Index.{HasRoomUnder, IsIndexOf}
use Rattle.hd_records.specs.Survivors.{survivors_of}

-- The records by number, the last number that was put there, how many more there is room for, and the index.
pub record RecordsValue : Type 0 where
  pub records : List Record
  pub last : ℕ
  pub room : ℕ
  pub index : IndexValue

-- the records are listed by what their commands ask about
abbrev pub AreListed : Facts → RecordsValue → Type 0
AreListed k value = IsIndexOf k value.records value.index

-- The records are of commands and questions of the catalogue, each finding is about what its command asks
-- about, and they are listed by that.
pub record AreOfCatalogue (k : Facts) (value : RecordsValue) : Type 0 where
  pub commands : EachCommandIsKnown k (survivors_of value.records)
  pub known : EachRecordIsKnown k value.records
  pub about : EachIsAbout k value.records
  pub listed : AreListed k value

-- Room for one more record of a command with these keys. A number that is listed has 32 bits.
pub record HasRoomFor (keys : CommandKeys) (value : RecordsValue) : Type 0 where
  pub slot : 0 < value.room
  pub number : value.last + 1 < 2 ^ 32
  pub lists : HasRoomUnder keys value.index
