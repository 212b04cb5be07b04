-- The records that are kept of the survivors.
use Rattle.std.specs.Prelude.{◌≡◌, ◌≢◌, ℕ, Option, Some, None, List, [], ◌∷◌}
use Rattle.hd_rules.specs.declared.commands.Survivor.{Survivor}
use Rattle.hd_rules.specs.Facts.{Facts}
use Rattle.hd_rules.specs.Run.{IsAmong}
use Rattle.hd_rules.specs.Record.{Record, IsRecord}
use Rattle.hd_clash.specs.Records.{AreRecords}
use Rattle.hd_inverse.specs.Cells.{AreApart, AreKnownChanges}
use Rattle.hd_records.specs.Survivors.{survivors_of}

-- the changes of each can be taken back
abbrev pub EachCanBeUndone : Facts → List Record → Type 0
EachCanBeUndone k [] = Unit {0}
EachCanBeUndone k (r ∷ rs) = AreKnownChanges k r.changes × AreApart r.changes × EachCanBeUndone k rs

-- each is the record of its survivor, in the run of those before it
pub record AreStored (k : Facts) (records : List Record) : Type 0 where
  pub are : AreRecords k k.opening.desk (survivors_of records) records
  pub undoable : EachCanBeUndone k records

-- the record of the survivor of this number, or none where no survivor has it
abbrev pub IsRecordOf : Facts → List Survivor → ℕ → Option Record → Type 0
IsRecordOf k survivors n None = (s : Survivor) → IsAmong s survivors → s.number ≢ n
IsRecordOf k survivors n (Some r) =
    (s : Survivor) × IsAmong s survivors × (s.number ≡ n) × IsRecord k survivors s r
