-- A journal under a catalogue that has grown.
use Rattle.std.specs.Prelude.{◌≡◌, ℕ, Option, List}
use Rattle.hd_rules.specs.Facts.{Facts, AreInRange}
use Rattle.hd_rules.specs.Known.{IsKnownDesk}
use Rattle.hd_rules.specs.Record.{Record}
use Rattle.hd_rules.specs.Desk.{Desk}
use Rattle.hd_rules.specs.Run.{run}
use Rattle.hd_rules.specs.Turns.{Kept}
use Rattle.hd_rules.specs.Journal.{Turn, IsLegal}
use Rattle.hd_rules.specs.Growth.{IsGrownDesk, Grows, AreOfCatalogue}
use Rattle.hd_catalogue.specs.Contents.{Contents, facts_of}
use Rattle.hd_journal.specs.Books.{IsLegalBook, IsKept}
use Rattle.hd_journal.specs.Changing.{changing}
use Rattle.hd_records.specs.RecordsValue.{RecordsValue, AreListed}
use Rattle.hd_records.specs.Survivors.{survivors_of}
use Rattle.hd_journal.specs.Stored.{AreStored}
use Rattle.hd_journal.specs.SurvivorRun.{SurvivorRun, AllKnownSurvivors, LeadsTo}

-- the same survivors, over another catalogue
abbrev pub over : Contents → SurvivorRun → SurvivorRun
over j r = record { contents = j; survivors = r.survivors; last = r.last }

-- The desk is that of the journal's catalogue, grown to that of another one.
pub record IsGrownTo (r : SurvivorRun) (j : Contents) (e : Desk) : Type 0 where
  pub grows : Grows (facts_of r.contents) (facts_of j)
  pub low : AreInRange (facts_of r.contents)
  pub high : AreInRange (facts_of j)
  pub desk : IsGrownDesk (facts_of r.contents) (facts_of j) (run (facts_of r.contents) r.survivors) e

-- What a journal is, it is under a catalogue that has grown, with the same turns.
pub record JournalsGrow : Type 0 where
  pub book : (k j : Contents) (turns : List Turn) → Grows (facts_of k) (facts_of j) → AreInRange (facts_of j) →
      AreOfCatalogue (facts_of k) turns → IsLegalBook k turns → IsLegalBook j turns
  pub kept : (r : SurvivorRun) (j : Contents) (turns : List Turn) (kept : ℕ → Option Kept) →
      Grows (facts_of r.contents) (facts_of j) → AreInRange (facts_of j) → IsKept turns r kept →
      IsKept turns (over j r) kept
  pub leads : (r : SurvivorRun) (j : Contents) (d e : Desk) → Grows (facts_of r.contents) (facts_of j) →
      AreInRange (facts_of r.contents) → AreInRange (facts_of j) → LeadsTo r d →
      IsGrownDesk (facts_of r.contents) (facts_of j) d e → LeadsTo (over j r) e
  pub stored : (k j : Facts) (records : List Record) → Grows k j → AreInRange k → IsKnownDesk k k.opening.desk →
      AllKnownSurvivors k (survivors_of records) → AreStored k records → AreStored j records
  pub listed : (k j : Facts) (value : RecordsValue) → Grows k j → AllKnownSurvivors k (survivors_of value.records) →
      AreListed k value → AreListed j value
  pub changing : (k j : Facts) (turns : List Turn) → Grows k j → AreOfCatalogue k turns → IsLegal k turns →
      changing j turns ≡ changing k turns
