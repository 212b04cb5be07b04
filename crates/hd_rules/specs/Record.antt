-- What a journal keeps of a survivor (§ Clashes).
use Rattle.std.specs.Prelude.{◌≡◌, Ok, List, [], ◌∷◌}
use Rattle.hd_rules.specs.Words.{Change, Question, Finding, Command, Survivor, Reply}
use Rattle.hd_rules.specs.Numbers.{TerminalNo, CommandNo}
use Rattle.hd_rules.specs.Facts.{Facts}
use Rattle.hd_rules.specs.Desk.{Desk}
use Rattle.hd_rules.specs.Notes.{note}
use Rattle.hd_rules.specs.Ask.{asks}
use Rattle.hd_rules.specs.Step.{plan}
use Rattle.hd_rules.specs.Run.{outcome_of, run, before}
use Rattle.hd_rules.specs.Journal.{Turn, WasTold}

module _ (k : Facts) (d : Desk) where
  -- the questions with their noted answers
  abbrev pub findings : List Question → List Finding
  findings [] = []
  findings (q ∷ qs) = record { question = q; noted = note k d q } ∷ findings qs

  -- the same questions, noted at this desk
  abbrev pub noted_at : List Finding → List Finding
  noted_at [] = []
  noted_at (f ∷ fs) = record { question = f.question; noted = note k d f.question } ∷ noted_at fs

-- what is kept of an accepted command
pub record Record : Type 0 where
  pub number : CommandNo
  pub terminal : TerminalNo
  pub command : Command
  pub reply : Reply
  pub findings : List Finding
  pub changes : List Change

-- the record of an accepted survivor that asks and ends so at this desk
pub record IsRecordAt (k : Facts) (d : Desk) (s : Survivor) (r : Record) : Type 0 where
  pub number : r.number ≡ s.number
  pub terminal : r.terminal ≡ s.terminal
  pub command : r.command ≡ s.command
  pub done : outcome_of k d s ≡ Ok (record { changes = r.changes; reply = r.reply })
  pub findings : r.findings ≡ findings k d (asks k d (plan k s.number s.command))

-- the record of a survivor: all in the run of those before it
abbrev pub IsRecord : Facts → List Survivor → Survivor → Record → Type 0
IsRecord k survivors s r = IsRecordAt k (run k (before s.number survivors)) s r

-- the record with its questions noted at another desk
abbrev pub mended_record : Facts → Desk → Record → Record
mended_record k d r = record r { findings = noted_at k d r.findings }

-- what a journal keeps of a survivor: its record, the only one, with the reply that it was told
pub record IsKeptOf (k : Facts) (turns : List Turn) (survivors : List Survivor) (s : Survivor) : Type 0 where
  pub kept : Record
  pub is_record : IsRecord k survivors s kept
  pub told : WasTold turns s kept.reply
  pub only : (other : Record) → IsRecord k survivors s other → other ≡ kept
