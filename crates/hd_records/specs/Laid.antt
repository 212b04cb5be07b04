-- Slots, and the lists in which the findings and changes of their records stand one behind the other.
use Rattle.std.specs.Prelude.{◌≡◌, ◌≤◌, ℕ, ◌+◌, Bool, Option, None, Some, List, [], ◌∷◌, drop, length, take}
use Rattle.std.specs.List.{list_any}
use Rattle.hd_rules.specs.declared.cells.Change.{Change}
use Rattle.hd_rules.specs.declared.commands.Survivor.{Survivor}
use Rattle.hd_rules.specs.declared.questions.Finding.{Finding}
use Rattle.hd_rules.specs.Record.{Record}
use Rattle.hd_clash.specs.Shift.{is_count}
use Rattle.hd_records.specs.declared.slots.RecordHead.{RecordHead}
use Rattle.hd_records.specs.declared.slots.Slot.{Slot}

-- the record of what a slot has, with these findings and changes
abbrev pub record_of_kept : RecordHead → List Finding → List Change → Record
record_of_kept kept findings changes = record {
  number = kept.survivor.number;
  terminal = kept.survivor.terminal;
  command = kept.survivor.command;
  reply = kept.reply;
  findings = findings;
  changes = changes;
}

-- the record of a slot with these findings and changes, if it has one
abbrev pub record_in : Option RecordHead → List Finding → List Change → Option Record
record_in None findings changes = None
record_in (Some kept) findings changes = Some (record_of_kept kept findings changes)

-- What stands in slots: the first of the findings and of the changes are the first slot's, the others those
-- of the slots behind it.
abbrev pub records_in : List Slot → List Finding → List Change → List (Option Record)
records_in [] findings changes = []
records_in (s ∷ ss) findings changes =
    record_in s.kept (take s.findings.count findings) (take s.changes.count changes)
    ∷ records_in ss (drop s.findings.count findings) (drop s.changes.count changes)

-- the survivors that the records of slots are of
abbrev pub kept_first : Option RecordHead → List Survivor → List Survivor
kept_first None rest = rest
kept_first (Some kept) rest = kept.survivor ∷ rest

abbrev pub survivors_in : List Slot → List Survivor
survivors_in [] = []
survivors_in (s ∷ ss) = kept_first s.kept (survivors_in ss)

-- a count is noted of one of the questions
abbrev pub have_count : List Finding → Bool
have_count findings = list_any (λ f. is_count f.question) findings

-- The slot tells where its findings and changes begin and whether a count is among them. There are as many
-- as it tells.
pub record IsLaid (f c : ℕ) (s : Slot) (fs : List Finding) (cs : List Change) : Type 0 where
  pub asked : s.findings.first ≡ f
  pub changed : s.changes.first ≡ c
  pub findings : s.findings.count ≤ length fs
  pub changes : s.changes.count ≤ length cs
  pub few : s.changes.count ≤ 4
  pub counts : s.has_count ≡ have_count (take s.findings.count fs)

-- Each slot's are behind those of the slot before it, and there are no others. So many findings and changes
-- are before these.
abbrev pub AreLaid : ℕ → ℕ → List Slot → List Finding → List Change → Type 0
AreLaid f c [] fs cs = (fs ≡ []) × (cs ≡ [])
AreLaid f c (s ∷ ss) fs cs =
    IsLaid f c s fs cs
    × AreLaid (f + s.findings.count) (c + s.changes.count) ss (drop s.findings.count fs)
    (drop s.changes.count cs)
