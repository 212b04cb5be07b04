-- What a cancellation leaves, and its work.
use Rattle.std.proofs.Common.{arith, ◌≡◌, sym, ◌∙◌, ap, subst, ℕ, ◌+◌, ◌*◌, ◌≤◌}
use Rattle.std.proofs.Common.{List, [], ◌∷◌, ◌++◌, length, filter, Option, Some, None}
use Rattle.hd_rules.specs.declared.commands.Cancel.{Cancel}
use Rattle.hd_rules.specs.declared.commands.Survivor.{Survivor}
use Rattle.hd_rules.specs.declared.replies.Refusal.TheVariants as refusal
use Rattle.hd_rules.specs.declared.replies.TurnReply.TheVariants.{Cancelled}
use Rattle.hd_rules.specs.declared.cells.Change.{Change}
use Rattle.hd_rules.specs.Facts.{Facts, AreInRange, first_number}
use Rattle.hd_rules.specs.Desk.{Desk}
use Rattle.hd_rules.specs.Record.{Record}
use Rattle.hd_rules.specs.Run.{outcome_of, run, Rising, next_number}
use Rattle.hd_rules.specs.Searches.{first_dependent}
use Rattle.hd_rules.specs.Target.{Split}
use Rattle.hd_rules.specs.Searches.{target}
use Rattle.hd_rules.specs.Turns.{Kept}
use Rattle.hd_rules.specs.Machine.{answered_cancel, answered_target}
use Rattle.hd_catalogue.specs.Contents.{Contents, facts_of}
use Rattle.hd_meter.specs.Meter.{Counts}
use Rattle.hd_inverse.specs.Work.{after_writes}
use Rattle.hd_clash.specs.About.{touches}
use Rattle.hd_clash.specs.Clash.{first_clash}
use Rattle.hd_records.specs.Looks.{after_looks, questions_of}
use Rattle.hd_records.specs.RecordsValue.{RecordsValue}
use Rattle.hd_records.specs.Survivors.{survivor_of, survivors_of, changes_of, newer, older, target_of}
use Rattle.hd_journal.specs.Deciding.{AreKept, IsRefused, IsTargetAt, MayGo, Parts, run_at, split_of}
use Rattle.hd_journal.specs.Laws.{CancellationLaws}
use Rattle.hd_journal.specs.SurvivorRun.{SurvivorRun, LeadsTo, MayRun, Withdrawn, state_at}
use Rattle.hd_journal.specs.Working.{IsCancellationWork, IsDecidedSo, IsDecision, cells_of}
use Rattle.hd_journal.proofs.Runs.{may_run_without}
use Rattle.hd_journal.proofs.Stored.{CanGo, can_go, changes_there, done_of_record, first_is, parts_at}
use Rattle.hd_journal.proofs.Stored.{stored_of}
use Rattle.hd_journal.proofs.Targets.{Aimed, aimed}
use Rattle.hd_journal.proofs.Working.{cells_are, in_words, takes_back}
use Rattle.hd_lemmas.proofs.Rules.{next_up, rising_at}

-- the record of a number that was found
pub target_at : (laws : CancellationLaws) (k : Facts) (terminal : ℕ) (what : Cancel) (value : RecordsValue)
    (n : ℕ)
    → AreInRange k → AreKept k value → Some n ≡ target_of terminal what value.records
    → IsTargetAt k terminal what value n
target_at laws k terminal what value n range kept found =
    let rs : List Record = value.records in
    let aim : Aimed terminal what rs n =
    aimed laws terminal what rs n (first_number k) kept.may_run.rising found in
    let parts : Parts k rs n aim.aim = parts_at laws k rs n aim.aim aim.at kept.stored in
    record {
      record_there = aim.aim;
      number = aim.number;
      parts = parts;
      is_target = aim.is_target;
      kept = kept;
      of = stored_of laws k value range kept.may_run kept.stored kept.listed;
      few =
          subst (λ (cs : List Change). length cs ≤ 4) (sym (changes_there rs n aim.aim aim.at))
          (laws.commands.few k (run k (survivors_of (older n rs))) aim.aim.number aim.aim.command
          (done_of_record aim.aim) parts.one.done);
    }

-- the first clash is the first dependent of the target
dependent_is : (laws : CancellationLaws) (k : Facts) (terminal : ℕ) (what : Cancel) (value : RecordsValue)
    (n : ℕ) (o : Option ℕ)
    (at : IsTargetAt k terminal what value n)
    → first_clash k (changes_of n value.records) (newer n value.records) ≡ o
    → first_dependent k (survivors_of value.records) (survivor_of at.record_there)
    (survivors_of (newer n value.records)) ≡ o
dependent_is laws k terminal what value n o at is =
    sym (first_is laws k value.records n at.record_there at.parts at.kept.may_run at.of.known) ∙ is

decided : (laws : CancellationLaws) (contents : Contents) (terminal : ℕ) (what : Cancel)
    (value : RecordsValue) (n : ℕ) (o : Option ℕ)
    (kept : ℕ → Option Kept) (at : IsTargetAt (facts_of contents) terminal what value n)
    → first_clash (facts_of contents) (changes_of n value.records) (newer n value.records) ≡ o
    → answered_cancel (facts_of contents) (state_at (run_at contents value.records value.last) kept)
    (target terminal what (survivors_of value.records))
    ≡ answered_target (facts_of contents) (state_at (run_at contents value.records value.last) kept)
    (split_of value.records n at.record_there) o
decided laws contents terminal what value n o kept at is =
    let k : Facts = facts_of contents in
    let r : SurvivorRun = run_at contents value.records value.last in
    ap (answered_cancel k (state_at r kept)) at.is_target
    ∙ ap (answered_target k (state_at r kept) (split_of value.records n at.record_there))
    (dependent_is laws k terminal what value n o at is)

-- what was found can go
pub goes_at : (laws : CancellationLaws) (k : Facts) (terminal : ℕ) (what : Cancel) (value : RecordsValue)
    (n : ℕ) (old new : Counts)
    (goes : MayGo k terminal what value n old new) → CanGo k value.records n goes.at.record_there
goes_at laws k terminal what value n old new goes =
    can_go laws k value.records n goes.at.record_there goes.at.parts goes.at.kept.may_run goes.at.of.known
    goes.stands

pub refused_depends : (laws : CancellationLaws) (contents : Contents) (terminal : ℕ) (what : Cancel)
    (value : RecordsValue) (n m : ℕ)
    → IsTargetAt (facts_of contents) terminal what value n
    → first_clash (facts_of contents) (changes_of n value.records) (newer n value.records) ≡ Some m
    → IsRefused contents terminal what value (refusal.Depends m)
refused_depends laws contents terminal what value n m at is kept =
    decided laws contents terminal what value n (Some m) kept at is

pub withdrawn_stands : (laws : CancellationLaws) (contents : Contents) (terminal : ℕ) (what : Cancel)
    (value : RecordsValue) (n : ℕ)
    (next : Contents) (items : List Survivor) → IsTargetAt (facts_of contents) terminal what value n
    → first_clash (facts_of contents) (changes_of n value.records) (newer n value.records) ≡ None
    → next ≡ contents → items ≡ survivors_of (older n value.records) ++ survivors_of (newer n value.records)
    → Withdrawn (run_at contents value.records value.last) terminal what (Cancelled n)
    (record { contents = next; survivors = items; last = value.last })
withdrawn_stands laws contents terminal what value n next items at is same rest kept =
    decided laws contents terminal what value n None kept at is
    ∙ (λ j. record {
      reply = Cancelled (at.number j);
      state = state_at (record { contents = sym same j; survivors = sym rest j; last = value.last }) kept;
    })

-- the work, where a later one depends on the target, and where none does
in_rules : (k : Facts) (terminal : ℕ) (what : Cancel) (value : RecordsValue) (n : ℕ) (o : Option ℕ)
    (old new : Counts)
    (at : IsTargetAt k terminal what value n)
    → first_dependent k (survivors_of value.records) (survivor_of at.record_there)
    (survivors_of (newer n value.records)) ≡ o
    → IsDecidedSo k (split_of value.records n at.record_there) o old new
    → IsCancellationWork k (survivors_of value.records)
    (target terminal what (survivors_of value.records)) old new
in_rules k terminal what value n o old new at first is =
    subst (λ (x : Option Split). IsCancellationWork k (survivors_of value.records) x old new)
    (sym at.is_target)
    (subst (λ (x : Option ℕ). IsDecidedSo k (split_of value.records n at.record_there) x old new)
    (sym first) is)

pub work_depends : (laws : CancellationLaws) (k : Facts) (terminal : ℕ) (what : Cancel) (value : RecordsValue)
    (n m : ℕ) (old new : Counts)
    → IsTargetAt k terminal what value n
    → first_clash k (changes_of n value.records) (newer n value.records) ≡ Some m
    → IsDecision 0 (2 * length (newer n value.records) + 1) (questions_of (newer n value.records)) old new
    → IsCancellationWork k (survivors_of value.records)
    (target terminal what (survivors_of value.records)) old new
work_depends laws k terminal what value n m old new at is work =
    in_rules k terminal what value n (Some m) old new at
    (dependent_is laws k terminal what value n (Some m) at is)
    (in_words k value.records n 0 at.record_there 2 old new at.parts work)

pub work_stands : (laws : CancellationLaws) (k : Facts) (terminal : ℕ) (what : Cancel) (value : RecordsValue)
    (n : ℕ)
    (old compared back new : Counts) (goes : MayGo k terminal what value n old compared)
    → back ≡ after_writes (length goes.at.record_there.changes) compared
    → new ≡ after_looks (length (filter (touches k (changes_of n value.records))
    (newer n value.records))) back
    → IsCancellationWork k (survivors_of value.records)
    (target terminal what (survivors_of value.records)) old new
work_stands laws k terminal what value n old compared back new goes writes looks =
    let rs : List Record = value.records in
    let aim : Record = goes.at.record_there in
    let all : IsDecision (length aim.changes) (3 * length (newer n rs) + 1)
    (questions_of (newer n rs)) old new =
    takes_back laws (touches k (changes_of n rs)) rs n (length aim.changes)
    (questions_of (newer n rs)) old compared back new goes.work
    writes looks in
    in_rules k terminal what value n None old new goes.at
    (dependent_is laws k terminal what value n None goes.at goes.stands)
    (in_words k rs n (cells_of (outcome_of k (run k (survivors_of (older n rs))) (survivor_of aim))) aim 3 old
    new goes.at.parts
    (subst (λ (m : ℕ). IsDecision m (3 * length (newer n rs) + 1) (questions_of (newer n rs)) old new)
    (cells_are k rs n aim goes.at.parts) all))

-- no number of the others is above the last
next_less : (n : ℕ) (older : List Survivor) (c : Survivor) (newer : List Survivor) → n ≤ c.number + 1
    → Rising n (older ++ c ∷ newer)
    → next_number n (older ++ newer) ≤ next_number n (older ++ c ∷ newer)
next_less n [] c newer le rising = next_up n (c.number + 1) newer le
next_less n (x ∷ xs) c newer le rising =
    let up : x.number + 1 ≤ c.number = rising_at (x.number + 1) xs c newer rising.1 in
    next_less (x.number + 1) xs c newer (omega arith) rising.1

-- what is left is a run
pub running_without : (r : SurvivorRun) (d e : Desk) (older newer : List Survivor) (c : Survivor)
    (contents : Contents) (items : List Survivor)
    → LeadsTo r d → r.survivors ≡ older ++ c ∷ newer → contents ≡ r.contents → items ≡ older ++ newer
    → e ≡ run (facts_of r.contents) (older ++ newer)
    → LeadsTo (record { contents = contents; survivors = items; last = r.last }) e
running_without r d e older newer c contents items is split same rest goes =
    let k : Facts = facts_of r.contents in
    let may : MayRun k (older ++ newer) =
    may_run_without k older c newer (subst (MayRun k) split is.may_run) in
    let first : ℕ = first_number k in
    let whole : Rising first (older ++ c ∷ newer) = subst (Rising first) split is.may_run.rising in
    let low : next_number first (older ++ c ∷ newer) ≤ r.last + 1 =
    subst (λ (xs : List Survivor). next_number first xs ≤ r.last + 1) split is.last in
    subst (λ (x : SurvivorRun). LeadsTo x e)
    (λ j. record { contents = sym same j; survivors = sym rest j; last = r.last })
    (record {
      desk = goes;
      may_run = may;
      last = (let up : first ≤ c.number = rising_at first older c newer whole in
          let less : next_number first (older ++ newer) ≤ next_number first (older ++ c ∷ newer) =
          next_less first older c newer (omega arith) whole in
          omega arith);
    })
