-- The record of a number, as the code finds it among those of a catalogue.
use Rattle.std.proofs.Common.{◌≡◌, ◌∙◌, ap, sym, subst, ℕ, List, Option, Some, nat_lt}
use Rattle.hd_rules.specs.declared.cells.Change.{Change}
use Rattle.hd_rules.specs.Facts.{Facts}
use Rattle.hd_rules.specs.Known.{IsKnownAction}
use Rattle.hd_rules.specs.Record.{Record}
use Rattle.hd_clash.specs.About.{EachIsAbout}
use Rattle.hd_clash.specs.Law.{EachCellIsKnown}
use Rattle.hd_clash.specs.Records.{EachRecordIsKnown}
use Rattle.hd_records.specs.Index.{IsIndexOf}
use Rattle.hd_records.specs.IndexValue.{IndexValue}
use Rattle.hd_records.specs.RecordsValue.{AreOfCatalogue, RecordsValue}
use Rattle.hd_records.specs.Slots.{AreNumbered, records_there, slot_of}
use Rattle.hd_records.specs.Survivors.{changes_in, changes_of, newer}
use Rattle.hd_records.proofs.Filters.{known_filter}
use Rattle.hd_records.proofs.Numbered.{record_there}
use Rattle.hd_records.proofs.Standing.{At, at_slot, command_known, known_one}

-- what is known of it, of its changes, and of those after it
pub record IsTarget (k : Facts) (n : ℕ) (slots : List (Option Record)) (index : IndexValue) (r : Record)
    (changes : List Change) : Type 0 where
  pub at : At n slots r
  pub command : IsKnownAction k r.command.action
  pub cells : EachCellIsKnown k changes
  pub same : changes ≡ changes_of n (records_there slots)
  pub later : EachRecordIsKnown k (newer n (records_there slots))
  pub about : EachIsAbout k (records_there slots)
  pub listed : IsIndexOf k (records_there slots) index

-- the records, as they are kept
abbrev pub kept : List (Option Record) → ℕ → ℕ → IndexValue → RecordsValue
kept slots last room index = record { records = records_there slots; last = last; room = room; index = index }

pub is-target : (k : Facts) (n : ℕ) (slots : List (Option Record)) {last room : ℕ} {index : IndexValue}
    {w : RecordsValue} (r : Record)
    (changes : List Change) → AreNumbered 0 slots → kept slots last room index ≡ w → AreOfCatalogue k w
    → Some r ≡ slot_of n slots
    → changes ≡ r.changes → IsTarget k n slots index r changes
is-target k n slots {last} {room} {index} r changes numbered same all is read =
    let of : AreOfCatalogue k (kept slots last room index) = subst (AreOfCatalogue k) (sym same) all in
    let at : At n slots r = at_slot n slots r numbered (sym is) in
    record {
      at = at;
      command = command_known k (records_there slots) r of.commands at.among;
      cells = subst (EachCellIsKnown k) (sym read)
          (known_one k (records_there slots) r of.known at.among).cells;
      same = read ∙ ap changes_in (sym (record_there n slots numbered ∙ sym is));
      later = known_filter k (λ (x : Record). nat_lt n x.number) (records_there slots) of.known;
      about = of.about;
      listed = of.listed;
    }
