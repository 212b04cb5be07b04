-- Records before a target, at it and after it.
use Rattle.std.proofs.Common.{arith, ◌≡◌, refl, sym, ◌∙◌, ap, subst, ℕ, suc, List, []}
use Rattle.std.proofs.Common.{◌∷◌}
use Rattle.std.proofs.Common.{◌++◌, length, None, Ok, inl, inr}
use Rattle.std.proofs.lemmas.List.{map-append, length-map}
use Rattle.hd_rules.specs.declared.cells.Change.{Change}
use Rattle.hd_rules.specs.declared.commands.Survivor.{Survivor}
use Rattle.hd_rules.specs.declared.questions.Question.{Question}
use Rattle.hd_rules.specs.Ask.{Done, asks}
use Rattle.hd_rules.specs.Facts.{Facts, AreInRange, first_number}
use Rattle.hd_rules.specs.Desk.{Desk, take_back}
use Rattle.hd_rules.specs.Depends.{before, less, NoneDepends}
use Rattle.hd_rules.specs.Searches.{first_dependent}
use Rattle.hd_rules.specs.Laws.{IsAcceptedIn}
use Rattle.hd_rules.specs.Record.{Record, IsRecordAt, findings}
use Rattle.hd_rules.specs.Run.{IsAmong, outcome_of, step, run, Rising}
use Rattle.hd_rules.specs.Sound.{EachBackIsFit, MayOpen}
use Rattle.hd_rules.specs.Step.{plan}
use Rattle.hd_clash.specs.Clash.{first_clash}
use Rattle.hd_clash.specs.Records.{AreRecords, EachCommandIsKnown, EachRecordIsKnown}
use Rattle.hd_clash.specs.Shift.{shift_records}
use Rattle.hd_clash.specs.Walk.{KeptRun}
use Rattle.hd_inverse.specs.Cells.{AreApart, AreKnownChanges}
use Rattle.hd_records.specs.Looks.{questions_of}
use Rattle.hd_records.specs.RecordsValue.{AreListed, AreOfCatalogue, RecordsValue}
use Rattle.hd_records.specs.Survivors.{survivor_of, survivors_of, changes_in, changes_of, newer, older}
use Rattle.hd_journal.specs.Deciding.{IsAt, Parts}
use Rattle.hd_journal.specs.Laws.{CancellationLaws}
use Rattle.hd_journal.specs.SurvivorRun.{AllKnownSurvivors, MayRun}
use Rattle.hd_journal.specs.Stored.{AreStored, EachCanBeUndone}
use Rattle.hd_journal.specs.Working.{questions_from}

abbrev pub done_of_record : Record → Done
done_of_record r = record { changes = r.changes; reply = r.reply }

pub survivors_joined : (xs ys : List Record) → survivors_of (xs ++ ys) ≡ survivors_of xs ++ survivors_of ys
survivors_joined xs ys = map-append survivor_of xs ys

pub survivors_split : (rs : List Record) (n : ℕ) (r : Record) → IsAt rs n r
    → survivors_of rs ≡ survivors_of (older n rs) ++ survivor_of r ∷ survivors_of (newer n rs)
survivors_split rs n r at =
    ap survivors_of at.split ∙ survivors_joined (older n rs) (r ∷ newer n rs)

pub changes_there : (rs : List Record) (n : ℕ) (r : Record) → IsAt rs n r → changes_of n rs ≡ r.changes
changes_there rs n r at = ap changes_in at.there

pub survivors_mended : (k : Facts) (changes : List Change) (rs : List Record)
    → survivors_of (shift_records k changes rs) ≡ survivors_of rs
survivors_mended k changes [] = refl
survivors_mended k changes (x ∷ xs) =
    ap (λ (ss : List Survivor). survivor_of x ∷ ss) (survivors_mended k changes xs)

-- those that can be taken back
undoable_first : (k : Facts) (xs ys : List Record) → EachCanBeUndone k (xs ++ ys) → EachCanBeUndone k xs
undoable_first k [] ys all = tt
undoable_first k (x ∷ xs) ys all = (all.0, all.1, undoable_first k xs ys all.2)

undoable_rest : (k : Facts) (xs ys : List Record) → EachCanBeUndone k (xs ++ ys) → EachCanBeUndone k ys
undoable_rest k [] ys all = all
undoable_rest k (x ∷ xs) ys all = undoable_rest k xs ys all.2

undoable_both : (k : Facts) (xs ys : List Record) → EachCanBeUndone k xs → EachCanBeUndone k ys
    → EachCanBeUndone k (xs ++ ys)
undoable_both k [] ys first rest = rest
undoable_both k (x ∷ xs) ys first rest = (first.0, first.1, undoable_both k xs ys first.2 rest)

undoable_mended : (k : Facts) (changes : List Change) (rs : List Record) → EachCanBeUndone k rs
    → EachCanBeUndone k (shift_records k changes rs)
undoable_mended k changes [] all = tt
undoable_mended k changes (x ∷ xs) all = (all.0, all.1, undoable_mended k changes xs all.2)

known_rest : (k : Facts) (xs ys : List Record) → EachRecordIsKnown k (xs ++ ys) → EachRecordIsKnown k ys
known_rest k [] ys all = all
known_rest k (x ∷ xs) ys all = known_rest k xs ys all.1

pub commands_known : (k : Facts) (ss : List Survivor) → AllKnownSurvivors k ss → EachCommandIsKnown k ss
commands_known k [] all = tt
commands_known k (s ∷ ss) all = (all.0, commands_known k ss all.1)

-- each record is of things of the catalogue
pub stored_known : (laws : CancellationLaws) (k : Facts) (rs : List Record) → AreInRange k
    → MayRun k (survivors_of rs) → AreStored k rs
    → EachRecordIsKnown k rs
stored_known laws k rs range may stored =
    laws.known k k.opening.desk (survivors_of rs) rs range may.opens.known
    (commands_known k (survivors_of rs) may.known) stored.are

-- the parts of records that are stored
pub parts_at : (laws : CancellationLaws) (k : Facts) (rs : List Record) (n : ℕ) (r : Record) → IsAt rs n r
    → AreStored k rs → Parts k rs n r
parts_at laws k rs n r at stored =
    let whole : AreRecords k k.opening.desk
    (survivors_of (older n rs) ++ survivor_of r ∷ survivors_of (newer n rs))
    (older n rs ++ r ∷ newer n rs) =
    subst (λ (xs : List Record). AreRecords k k.opening.desk
    (survivors_of (older n rs) ++ survivor_of r ∷ survivors_of (newer n rs)) xs)
    at.split
    (subst (λ (ss : List Survivor). AreRecords k k.opening.desk ss rs)
    (survivors_split rs n r at) stored.are) in
    let both =
    (laws.split k k.opening.desk (survivors_of (older n rs)) (survivor_of r ∷ survivors_of (newer n rs))
    (older n rs)
    (r ∷ newer n rs) (length-map (older n rs) survivor_of)).0 whole in
    record { at = at; before = both.0; one = both.1.0; after = both.1.1 }

-- what a clash is told of
pub kept_at : (laws : CancellationLaws) (k : Facts) (rs : List Record) (n : ℕ) (r : Record) → Parts k rs n r
    → MayRun k (survivors_of rs)
    → EachRecordIsKnown k rs
    → KeptRun k (survivors_of (older n rs)) (survivor_of r) (survivors_of (newer n rs)) (done_of_record r)
    (newer n rs)
kept_at laws k rs n r parts may known = record {
  opens = may.opens.sound;
  rising = subst (Rising (first_number k)) (survivors_split rs n r parts.at) may.rising;
  accepted = parts.one.done;
  known = (known_rest k (older n rs) (r ∷ newer n rs)
      (subst (EachRecordIsKnown k) parts.at.split known)).0.cells;
  records = parts.after;
}

-- the first clash is the first dependent
pub first_is : (laws : CancellationLaws) (k : Facts) (rs : List Record) (n : ℕ) (r : Record) → Parts k rs n r
    → MayRun k (survivors_of rs)
    → EachRecordIsKnown k rs
    → first_clash k (changes_of n rs) (newer n rs)
    ≡ first_dependent k (survivors_of rs) (survivor_of r) (survivors_of (newer n rs))
first_is laws k rs n r parts may known =
    ap (λ (cs : List Change). first_clash k cs (newer n rs)) (changes_there rs n r parts.at)
    ∙ laws.clash k (survivors_of (older n rs)) (survivor_of r) (survivors_of (newer n rs)) (done_of_record r)
    (newer n rs)
    (kept_at laws k rs n r parts may known)
    ∙ ap (λ (ss : List Survivor). first_dependent k ss (survivor_of r) (survivors_of (newer n rs)))
    (sym (survivors_split rs n r parts.at))

pub among_middle : (xs : List Survivor) (s : Survivor) (ys : List Survivor) → IsAmong s (xs ++ s ∷ ys)
among_middle [] s ys = inl refl
among_middle (x ∷ xs) s ys = inr (among_middle xs s ys)

-- the command at the place was accepted, and none depends on it
pub record CanGo (k : Facts) (rs : List Record) (n : ℕ) (r : Record) : Type 0 where
  pub opens : MayOpen k
  pub accepted : IsAcceptedIn k (survivors_of rs) (survivor_of r) (done_of_record r)
  pub none : NoneDepends k (survivors_of rs) (survivor_of r)
  pub less_is : less r.number (survivors_of rs) ≡ survivors_of (older n rs) ++ survivors_of (newer n rs)

pub can_go : (laws : CancellationLaws) (k : Facts) (rs : List Record) (n : ℕ) (r : Record) → Parts k rs n r
    → MayRun k (survivors_of rs)
    → EachRecordIsKnown k rs → first_clash k (changes_of n rs) (newer n rs) ≡ None → CanGo k rs n r
can_go laws k rs n r parts may known clash =
    let older : List Survivor = survivors_of (older n rs) in
    let newer : List Survivor = survivors_of (newer n rs) in
    let s : Survivor = survivor_of r in
    let split : survivors_of rs ≡ older ++ s ∷ newer = survivors_split rs n r parts.at in
    let up : Rising (first_number k) (older ++ s ∷ newer) =
    subst (Rising (first_number k)) split may.rising in
    let numbers = laws.target.split (first_number k) older s newer up in
    let first : first_dependent k (older ++ s ∷ newer) s newer ≡ None =
    ap (λ (ss : List Survivor). first_dependent k ss s newer) (sym split)
    ∙ sym (first_is laws k rs n r parts may known) ∙ clash in
    let none : NoneDepends k (older ++ s ∷ newer) s = rw first at (laws.dependent.least k older s newer up) in
    record {
      opens = may.opens.sound;
      accepted = record {
        rising = may.rising;
        among = subst (IsAmong s) (sym split) (among_middle older s newer);
        accepted =
            subst (λ (ss : List Survivor). outcome_of k (run k ss) s ≡ Ok (done_of_record r))
            (sym (ap (before s.number) split ∙ numbers.0)) parts.one.done;
      };
      none = subst (λ (ss : List Survivor). NoneDepends k ss s) (sym split) none;
      less_is = ap (less s.number) split ∙ numbers.1;
    }

-- its changes taken back
pub undone_is : (laws : CancellationLaws) (k : Facts) (rs : List Record) (n : ℕ) (r : Record) → CanGo k rs n r
    → take_back r.changes (run k (survivors_of rs))
    ≡ run k (survivors_of (older n rs) ++ survivors_of (newer n rs))
undone_is laws k rs n r goes =
    laws.undoing.run_without k (survivors_of rs) (survivor_of r)
    (done_of_record r) goes.opens goes.accepted goes.none ∙ ap (run k) goes.less_is

pub each_back : (laws : CancellationLaws) (k : Facts) (rs : List Record) (n : ℕ) (r : Record) → CanGo k rs n r
    → EachBackIsFit k r.changes (run k (survivors_of rs))
each_back laws k rs n r goes =
    laws.undoing.fit k (survivors_of rs) (survivor_of r) (done_of_record r) goes.opens goes.accepted goes.none

pub undoable_at : (k : Facts) (rs : List Record) (n : ℕ) (r : Record) → IsAt rs n r → AreStored k rs
    → AreKnownChanges k r.changes × AreApart r.changes
undoable_at k rs n r at stored =
    let here = undoable_rest k (older n rs) (r ∷ newer n rs)
    (subst (EachCanBeUndone k) at.split stored.undoable) in (here.0, here.1)

-- the records that are left
abbrev pub left_at : Facts → List Record → ℕ → List Record
left_at k rs n = older n rs ++ shift_records k (changes_of n rs) (newer n rs)

pub left_survivors : (k : Facts) (rs : List Record) (n : ℕ)
    → survivors_of (left_at k rs n) ≡ survivors_of (older n rs) ++ survivors_of (newer n rs)
left_survivors k rs n =
    survivors_joined (older n rs) (shift_records k (changes_of n rs) (newer n rs))
    ∙ ap (λ (ss : List Survivor). survivors_of (older n rs) ++ ss)
    (survivors_mended k (changes_of n rs) (newer n rs))

pub left_stored : (laws : CancellationLaws) (k : Facts) (rs : List Record) (n : ℕ) (r : Record)
    → Parts k rs n r → MayRun k (survivors_of rs)
    → EachRecordIsKnown k rs → AreStored k rs → first_clash k (changes_of n rs) (newer n rs) ≡ None
    → AreStored k (left_at k rs n)
left_stored laws k rs n r parts may known stored clash =
    let cs : List Change = changes_of n rs in
    let same : cs ≡ r.changes = changes_there rs n r parts.at in
    let mended : List Record = shift_records k cs (newer n rs) in
    let later : AreRecords k (run k (survivors_of (older n rs))) (survivors_of (newer n rs)) mended =
    subst (λ (xs : List Change). AreRecords k (run k (survivors_of (older n rs))) (survivors_of (newer n rs))
    (shift_records k xs (newer n rs)))
    (sym same)
    (laws.mended k (survivors_of (older n rs)) (survivor_of r) (survivors_of (newer n rs)) (done_of_record r)
    (newer n rs)
    (kept_at laws k rs n r parts may known)
    (ap (λ (xs : List Change). first_clash k xs (newer n rs)) (sym same) ∙ clash)) in
    let undoable = subst (EachCanBeUndone k) parts.at.split stored.undoable in
    record {
      are =
          subst (λ (ss : List Survivor). AreRecords k k.opening.desk ss (left_at k rs n))
          (sym (left_survivors k rs n))
          ((laws.split k k.opening.desk (survivors_of (older n rs)) (survivors_of (newer n rs))
          (older n rs) mended
          (length-map (older n rs) survivor_of)).1 (parts.before, later));
      undoable = undoable_both k (older n rs) mended (undoable_first k (older n rs) (r ∷ newer n rs) undoable)
          (undoable_mended k cs (newer n rs) (undoable_rest k (older n rs) (r ∷ newer n rs) undoable).2);
    }

-- one record more
pub stored_more : (laws : CancellationLaws) (k : Facts) (rs more : List Record) (r : Record) → AreStored k rs
    → IsRecordAt k (run k (survivors_of rs)) (survivor_of r) r → AreKnownChanges k r.changes
    → AreApart r.changes
    → more ≡ rs ++ r ∷ [] → AreStored k more
stored_more laws k rs more r stored one known apart is =
    subst (AreStored k) (sym is) (record {
      are =
          subst (λ (ss : List Survivor). AreRecords k k.opening.desk ss (rs ++ r ∷ []))
          (sym (survivors_joined rs (r ∷ [])))
          ((laws.split k k.opening.desk (survivors_of rs) (survivor_of r ∷ []) rs (r ∷ [])
          (length-map rs survivor_of)).1
          (stored.are, (one, tt)));
      undoable = undoable_both k rs (r ∷ []) stored.undoable (known, apart, tt);
    })

-- how many questions the records have
length_findings : (k : Facts) (d : Desk) (qs : List Question) → length (findings k d qs) ≡ length qs
length_findings k d [] = refl
length_findings k d (q ∷ qs) = ap suc (length_findings k d qs)

pub questions_are : (k : Facts) (d : Desk) (ss : List Survivor) (rs : List Record) → AreRecords k d ss rs
    → questions_of rs ≡ questions_from k d ss
questions_are k d [] [] are = refl
questions_are k d (s ∷ ss) (r ∷ rs) are =
    let here : length r.findings ≡ length (asks k d (plan k s.number s.command)) =
    ap length are.0.findings ∙ length_findings k d (asks k d (plan k s.number s.command)) in
    let rest : questions_of rs ≡ questions_from k (step k d s) ss =
    questions_are k (step k d s) ss rs are.1 in
    omega (arith, here, rest)
questions_are k d [] (r ∷ rs) are = absurd are
questions_are k d (s ∷ ss) [] are = absurd are

-- the records that are stored and listed
pub stored_of : (laws : CancellationLaws) (k : Facts) (value : RecordsValue) → AreInRange k
    → MayRun k (survivors_of value.records)
    → AreStored k value.records → AreListed k value → AreOfCatalogue k value
stored_of laws k value range may stored listed = record {
  commands = commands_known k (survivors_of value.records) may.known;
  known = stored_known laws k value.records range may stored;
  about = laws.about k (survivors_of value.records) value.records may.opens.sound may.rising stored.are;
  listed = listed;
}
