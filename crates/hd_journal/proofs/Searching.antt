-- The work of finding the first dependent.
use Rattle.std.proofs.Common.{arith, ◌≡◌, sym, ◌∙◌, ap, subst, ℕ, ◌≤◌, List, filter, length, Some, None}
use Rattle.std.proofs.lemmas.List.{length-map}
use Rattle.hd_rules.specs.declared.cells.Change.{Change}
use Rattle.hd_rules.specs.Facts.{Facts, first_number}
use Rattle.hd_rules.specs.Record.{Record}
use Rattle.hd_rules.specs.Run.{IsAmong, Rising, run, step}
use Rattle.hd_rules.specs.Target.{Split}
use Rattle.hd_meter.specs.Meter.{Counts}
use Rattle.hd_clash.specs.About.{touches}
use Rattle.hd_records.specs.Looks.{IsWalk, after_walk, questions_of}
use Rattle.hd_records.specs.RecordsValue.{RecordsValue}
use Rattle.hd_records.specs.Survivors.{changes_of, newer, older, record_of, survivor_of, survivors_of}
use Rattle.hd_journal.specs.Deciding.{AreKept, Parts, split_of}
use Rattle.hd_journal.specs.Laws.{CancellationLaws}
use Rattle.hd_journal.specs.Working.{IsComparing, IsDependenceWork, questions_from}
use Rattle.hd_journal.proofs.Depending.{record_there}
use Rattle.hd_journal.proofs.Recorded.{Told, told}
use Rattle.hd_journal.proofs.Stored.{among_middle, changes_there, done_of_record, parts_at, questions_are}
use Rattle.hd_journal.proofs.Stored.{survivors_split}
use Rattle.hd_journal.proofs.Targets.{Cut, cut}
use Rattle.hd_journal.proofs.Working.{fewer, fewer_questions}

-- the walk over the later records that its changes touch
abbrev walked : Facts → List Change → List Record → Counts → Counts
walked k cs rs counts = after_walk k cs (filter (touches k cs) rs) counts

-- in words of the survivors
comparing : (laws : CancellationLaws) (k : Facts) (rs : List Record) (n : ℕ) (r : Record) (old new : Counts)
    → Parts k rs n r → new ≡ walked k (changes_of n rs) (newer n rs) old
    → IsComparing k (split_of rs n r) old new
comparing laws k rs n r old new parts is =
    let later : List Record = newer n rs in
    let touched : List Record = filter (touches k r.changes) later in
    let so : new ≡ walked k r.changes later old =
    is ∙ ap (λ (cs : List Change). walked k cs later old) (changes_there rs n r parts.at) in
    let walk : IsWalk (length touched) (questions_of touched) old new =
    subst (λ (x : Counts). IsWalk (length touched) (questions_of touched) old x) (sym so)
    (laws.walks.walk k r.changes touched old
    (laws.commands.few k (run k (survivors_of (older n rs))) r.number r.command (done_of_record r)
    parts.one.done)) in
    let few : length touched ≤ length later = fewer (touches k r.changes) later in
    let asked : questions_of touched ≤ questions_of later = fewer_questions (touches k r.changes) later in
    let are : questions_of later
    ≡ questions_from k (step k (run k (survivors_of (older n rs))) (survivor_of r)) (survivors_of later) =
    questions_are k (step k (run k (survivors_of (older n rs))) (survivor_of r)) (survivors_of later) later
    parts.after in
    record {
      record_there = r;
      later = later;
      one = parts.one;
      after = parts.after;
      walk = so;
      most = record {
        steps = walk.steps;
        written = walk.written;
        looks = omega (arith, walk.looks, few, length-map later survivor_of);
        compared = omega (arith, walk.compared, asked, are);
      };
    }

-- where there is a record of the number
pub work_there : (laws : CancellationLaws) (k : Facts) (value : RecordsValue) (n : ℕ) (r : Record)
    (old new : Counts)
    → AreKept k value → record_of n value.records ≡ Some r
    → new ≡ walked k (changes_of n value.records) (newer n value.records) old
    → IsDependenceWork k (survivors_of value.records) n old new
work_there laws k value n r old new kept there is =
    let rs : List Record = value.records in
    let rising : Rising (first_number k) (survivors_of rs) = kept.may_run.rising in
    let one = record_there (first_number k) n rs r rising there in
    record {
      there = λ at split number.
          let here : Cut (first_number k) n rs at.older at.survivor at.newer =
          cut (first_number k) n rs at.older at.survivor at.newer rising split number in
          let same : split_of rs n here.aim ≡ at =
          λ j. record { older = here.before j; survivor = here.is j; newer = here.after j } in
          subst (λ (x : Split). IsComparing k x old new) same
          (comparing laws k rs n here.aim old new (parts_at laws k rs n here.aim here.at kept.stored) is);
      not_there = λ none.
          absurd (none (survivor_of one.0)
          (subst (IsAmong (survivor_of one.0)) (sym (survivors_split rs n one.0 one.1))
          (among_middle (survivors_of (older n rs)) (survivor_of one.0) (survivors_of (newer n rs)))) one.2);
    }

-- where there is none
pub work_not_there : (k : Facts) (rs : List Record) (n : ℕ) (old new : Counts) → record_of n rs ≡ None
    → new ≡ old → IsDependenceWork k (survivors_of rs) n old new
work_not_there k rs n old new none same = record {
  there = λ at split number.
      absurd (subst (Told n rs) none (told n rs) at.survivor
      (subst (IsAmong at.survivor) (sym split) (among_middle at.older at.survivor at.newer)) number);
  not_there = λ no. same;
}
