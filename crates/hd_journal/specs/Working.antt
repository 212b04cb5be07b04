-- The work of a turn, as a meter counts it.
use Rattle.std.specs.Prelude.{◌≡◌, ◌≢◌, ℕ, ◌+◌, ◌*◌, ◌≤◌, Option, Some, None, List, [], ◌∷◌, ◌++◌, filter}
use Rattle.std.specs.Prelude.{Result, Ok, Err, length}
use Rattle.hd_rules.specs.declared.replies.Refusal.{Refusal}
use Rattle.hd_rules.specs.declared.replies.TurnReply.{TurnReply}
use Rattle.hd_rules.specs.declared.turns.Asked.{Asked}
use Rattle.hd_rules.specs.declared.turns.Asked.TheVariants as ask
use Rattle.hd_rules.specs.Ask.{Done, asks}
use Rattle.hd_rules.specs.Searches.{first_dependent}
use Rattle.hd_rules.specs.Desk.{Desk}
use Rattle.hd_rules.specs.Step.{plan}
use Rattle.hd_rules.specs.Target.{Split}
use Rattle.hd_rules.specs.Searches.{target}
use Rattle.hd_rules.specs.Facts.{Facts}
use Rattle.hd_rules.specs.Numbers.{CommandNo}
use Rattle.hd_rules.specs.Record.{Record, IsRecordAt}
use Rattle.hd_rules.specs.Run.{IsAmong, outcome_of, run, step}
use Rattle.hd_rules.specs.declared.commands.Survivor.{Survivor}
use Rattle.hd_rules.specs.Turns.{State, next_survivor}
use Rattle.hd_meter.specs.Meter.{Counts, with_one_more}
use Rattle.hd_meter.specs.declared.count.Count.{Count}
use Rattle.hd_meter.specs.declared.count.Count.TheVariants.{Step}
use Rattle.hd_inverse.specs.Work.{after_writes}
use Rattle.hd_clash.specs.About.{touches}
use Rattle.hd_clash.specs.Records.{AreRecords}
use Rattle.hd_records.specs.Looks.{after_walk}

-- the counts after these were counted, in order
abbrev pub all_added : List Count → Counts → Counts
all_added [] counts = counts
all_added (what ∷ rest) counts = all_added rest (with_one_more counts what)

-- The counts only rose: some things were counted, or none. No count falls.
abbrev pub OnlyRise : Counts → Counts → Type 0
OnlyRise old new = (counted : List Count) × (new ≡ all_added counted old)

-- the counts after a command that ended so: one step, and where it is accepted one cell written for each of
-- its changes
abbrev pub command_work : Result Done Refusal → Counts → Counts
command_work (Ok done) old = after_writes (length done.changes) (with_one_more old Step)
command_work (Err refusal) old = with_one_more old Step

-- no command is carried out; so many cells are written, at most so many records are looked at, and at most
-- four answers are compared for each of so many questions
pub record IsDecision (cells records questions : ℕ) (old new : Counts) : Type 0 where
  pub steps : new.steps ≡ old.steps
  pub written : new.written ≡ (after_writes cells old).written
  pub looks : new.looks ≤ old.looks + records
  pub compared : new.compared ≤ old.compared + 4 * questions

-- how many cells a command writes that ends so
abbrev pub cells_of : Result Done Refusal → ℕ
cells_of (Ok done) = length done.changes
cells_of (Err refusal) = 0

-- how many questions these commands ask, one after another from a desk on
abbrev pub questions_from : Facts → Desk → List Survivor → ℕ
questions_from k d [] = 0
questions_from k d (s ∷ ss) =
    length (asks k d (plan k s.number s.command)) + questions_from k (step k d s) ss

-- how many the survivors ask that are later than the target
abbrev pub later_questions : Facts → Split → ℕ
later_questions k at = questions_from k (step k (run k at.older) at.survivor) at.newer

-- The work of finding what depends on the survivor at a split. Of the later records those that its changes
-- touch are looked at, as far as the first that clashes; so each at most once, and at most four answers are
-- compared for each question that they ask.
pub record IsComparing (k : Facts) (at : Split) (old new : Counts) : Type 0 where
  pub record_there : Record
  pub later : List Record
  pub one : IsRecordAt k (run k at.older) at.survivor record_there
  pub after : AreRecords k (step k (run k at.older) at.survivor) at.newer later
  pub walk : new ≡ after_walk k record_there.changes (filter (touches k record_there.changes) later) old
  pub most : IsDecision 0 (length at.newer) (later_questions k at) old new

-- The same of the survivor of this number; nothing is counted where no survivor has it.
pub record IsDependenceWork (k : Facts) (survivors : List Survivor) (n : CommandNo)
    (old new : Counts) : Type 0 where
  pub there : (at : Split) → survivors ≡ at.older ++ at.survivor ∷ at.newer → at.survivor.number ≡ n
      → IsComparing k at old new
  pub not_there : ((s : Survivor) → IsAmong s survivors → s.number ≢ n) → new ≡ old

-- A cancellation with a target: at most each later record is looked at to find it, and once more to compare;
-- where none depends on it, its cells are written, and at most each later record is looked at to be mended.
abbrev pub IsDecidedSo : Facts → Split → Option ℕ → Counts → Counts → Type 0
IsDecidedSo k at (Some n) old new = IsDecision 0 (2 * length at.newer + 1) (later_questions k at) old new
IsDecidedSo k at None old new =
    IsDecision (cells_of (outcome_of k (run k at.older) at.survivor)) (3 * length at.newer + 1)
    (later_questions k at) old new

-- the work of a cancellation: without a target at most one look for each survivor
abbrev pub IsCancellationWork : Facts → List Survivor → Option Split → Counts → Counts → Type 0
IsCancellationWork k survivors None old new = IsDecision 0 (length survivors) 0 old new
IsCancellationWork k survivors (Some at) old new =
    IsDecidedSo k at (first_dependent k survivors at.survivor at.newer) old new

-- The work of a message, where it is a repeat or is none. A query and a repeat raise nothing.
abbrev pub IsWork : Facts → State → ℕ → Asked → Option TurnReply → Counts → Counts → Type 0
IsWork k s terminal (ask.Item copy) again old new = new ≡ old
IsWork k s terminal (ask.Command command) (Some reply) old new = new ≡ old
IsWork k s terminal (ask.Command command) None old new =
    new ≡ command_work (outcome_of k s.desk (next_survivor s terminal command)) old
IsWork k s terminal (ask.Cancel what) (Some reply) old new = new ≡ old
IsWork k s terminal (ask.Cancel what) None old new =
    IsCancellationWork k s.survivors (target terminal what s.survivors) old new
