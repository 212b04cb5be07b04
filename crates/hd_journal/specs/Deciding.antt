-- The records that are kept of a run, and what a cancellation finds among them.
use Rattle.std.specs.Prelude.{◌≡◌, ℕ, ◌+◌, ◌*◌, ◌≤◌, Some, None, List, ◌∷◌, ◌++◌, length}
use Rattle.hd_rules.specs.declared.commands.Cancel.{Cancel}
use Rattle.hd_rules.specs.declared.replies.Refusal.{Refusal}
use Rattle.hd_rules.specs.declared.replies.TurnReply.TheVariants.{Refused}
use Rattle.hd_rules.specs.Facts.{Facts}
use Rattle.hd_rules.specs.Record.{Record, IsRecordAt}
use Rattle.hd_rules.specs.Run.{run, step}
use Rattle.hd_rules.specs.Searches.{target}
use Rattle.hd_rules.specs.Target.{Split}
use Rattle.hd_catalogue.specs.Contents.{Contents}
use Rattle.hd_meter.specs.Meter.{Counts}
use Rattle.hd_clash.specs.Clash.{first_clash}
use Rattle.hd_clash.specs.Records.{AreRecords}
use Rattle.hd_records.specs.Looks.{questions_of}
use Rattle.hd_records.specs.RecordsValue.{AreListed, AreOfCatalogue, RecordsValue}
use Rattle.hd_records.specs.Survivors.{changes_of, newer, older, record_of, survivor_of, survivors_of}
use Rattle.hd_journal.specs.SurvivorRun.{MayRun, SurvivorRun, Withdrawn}
use Rattle.hd_journal.specs.Stored.{AreStored}
use Rattle.hd_journal.specs.Working.{IsDecision, OnlyRise}

-- what runs, by its records
abbrev pub run_at : Contents → List Record → ℕ → SurvivorRun
run_at contents rs last = record { contents = contents; survivors = survivors_of rs; last = last }

-- The survivors may be run, each record is its survivor's, and all are listed.
pub record AreKept (k : Facts) (value : RecordsValue) : Type 0 where
  pub may_run : MayRun k (survivors_of value.records)
  pub stored : AreStored k value.records
  pub listed : AreListed k value

-- the cancellation is refused so, and the run is left as it was
abbrev pub IsRefused : Contents → ℕ → Cancel → RecordsValue → Refusal → Type 0
IsRefused contents terminal what value refusal =
    Withdrawn (run_at contents value.records value.last) terminal what (Refused refusal)
    (run_at contents value.records value.last)

-- a number, and the record of it
pub record IsAt (rs : List Record) (n : ℕ) (r : Record) : Type 0 where
  pub there : record_of n rs ≡ Some r
  pub split : rs ≡ older n rs ++ r ∷ newer n rs

-- the records older than a place, the one there, and the newer ones
pub record Parts (k : Facts) (rs : List Record) (n : ℕ) (r : Record) : Type 0 where
  pub at : IsAt rs n r
  pub before : AreRecords k k.opening.desk (survivors_of (older n rs)) (older n rs)
  pub one : IsRecordAt k (run k (survivors_of (older n rs))) (survivor_of r) r
  pub after : AreRecords k (step k (run k (survivors_of (older n rs))) (survivor_of r))
      (survivors_of (newer n rs)) (newer n rs)

-- the survivors older than a place, the one there, and the newer ones
abbrev pub split_of : List Record → ℕ → Record → Split
split_of rs n r =
    record { older = survivors_of (older n rs); survivor = survivor_of r; newer = survivors_of (newer n rs) }

-- The record of this number is that of the cancellation's target, among records that are kept.
pub record IsTargetAt (k : Facts) (terminal : ℕ) (what : Cancel) (value : RecordsValue) (n : ℕ) : Type 0 where
  pub record_there : Record
  pub number : record_there.number ≡ n
  pub parts : Parts k value.records n record_there
  pub is_target : target terminal what (survivors_of value.records)
      ≡ Some (split_of value.records n record_there)
  pub kept : AreKept k value
  pub of : AreOfCatalogue k value
  pub few : length (changes_of n value.records) ≤ 4

-- The target can be taken back: no later record clashes with its changes. At most this work was counted to
-- find that, and no cell is written yet.
pub record MayGo (k : Facts) (terminal : ℕ) (what : Cancel) (value : RecordsValue) (n : ℕ)
    (old new : Counts) : Type 0 where
  pub at : IsTargetAt k terminal what value n
  pub stands : first_clash k (changes_of n value.records) (newer n value.records) ≡ None
  pub work : IsDecision 0 (2 * length (newer n value.records) + 1) (questions_of (newer n value.records))
      old new
  pub rise : OnlyRise old new
