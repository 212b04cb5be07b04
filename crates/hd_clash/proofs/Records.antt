-- Lists of records: parts of them, and that they name things of the catalogue.
use Rattle.std.proofs.Common.{arith, ◌≡◌, refl, sym, subst, List, [], ◌∷◌, ◌++◌, length, Result, Ok, Err}
use Rattle.hd_rules.specs.declared.questions.Question.{Question}
use Rattle.hd_rules.specs.declared.commands.Survivor.{Survivor}
use Rattle.hd_rules.specs.declared.replies.Refusal.{Refusal}
use Rattle.hd_rules.specs.Facts.{Facts, AreInRange}
use Rattle.hd_rules.specs.Desk.{Desk}
use Rattle.hd_rules.specs.Ask.{Done, asks}
use Rattle.hd_rules.specs.Step.{plan}
use Rattle.hd_rules.specs.Run.{outcome_of, changed_by, step, run_from}
use Rattle.hd_rules.specs.Record.{Record, IsRecordAt, findings}
use Rattle.hd_rules.specs.Known.{IsKnownAction, IsKnownDesk}
use Rattle.hd_lemmas.proofs.Rules.{after_known}
use Rattle.hd_clash.specs.Counting.{EachIsSmall}
use Rattle.hd_clash.specs.Law.{EachQuestionIsKnown}
use Rattle.hd_clash.specs.Records.{AreRecords, EachCommandIsKnown, IsKnownRecord, EachRecordIsKnown}
use Rattle.hd_clash.specs.Rules.{Rules}
use Rattle.hd_clash.proofs.Known.{known_asks}
use Rattle.hd_clash.proofs.Untouched.{counts_small, done_known}

pub split : (k : Facts) (d : Desk) (older newer : List Survivor) (rs ts : List Record)
    → length older ≡ length rs → AreRecords k d (older ++ newer) (rs ++ ts)
    → AreRecords k d older rs × AreRecords k (run_from k d older) newer ts
split k d [] newer [] ts same are = (tt, are)
split k d [] newer (r ∷ rs) ts same are = absurd (omega (arith, same))
split k d (s ∷ ss) newer [] ts same are = absurd (omega (arith, same))
split k d (s ∷ ss) newer (r ∷ rs) ts same are =
    let parts : AreRecords k (step k d s) ss rs × AreRecords k (run_from k (step k d s) ss) newer ts =
    split k (step k d s) ss newer rs ts (omega (arith, same)) are.1 in
    ((are.0, parts.0), parts.1)

pub join : (k : Facts) (d : Desk) (older newer : List Survivor) (rs ts : List Record)
    → AreRecords k d older rs × AreRecords k (run_from k d older) newer ts
    → AreRecords k d (older ++ newer) (rs ++ ts)
join k d [] newer [] ts are = are.1
join k d [] newer (r ∷ rs) ts are = absurd are.0
join k d (s ∷ ss) newer [] ts are = absurd are.0
join k d (s ∷ ss) newer (r ∷ rs) ts are = (are.0.0, join k (step k d s) ss newer rs ts (are.0.1, are.1))

-- a known desk stays one
step_known : Rules → (k : Facts) (d : Desk) (s : Survivor) → AreInRange k → IsKnownDesk k d
    → IsKnownAction k s.command.action → IsKnownDesk k (step k d s)
step_known rules k d s range known fine = by_outcome (outcome_of k d s) refl
  where
    by_outcome : (r : Result Done Refusal) → outcome_of k d s ≡ r → IsKnownDesk k (changed_by r d)
    by_outcome (Ok done) is = after_known k d done.changes known
        (rules.commands.known k d s.number s.command done range known fine is).changes
    by_outcome (Err r) is = known

each_small : (k : Facts) (d : Desk) (qs : List Question) → AreInRange k → EachIsSmall (findings k d qs)
each_small k d [] range = tt
each_small k d (q ∷ qs) range = (counts_small k d q range, each_small k d qs range)

record_known : Rules → (k : Facts) (d : Desk) (s : Survivor) (r : Record) → AreInRange k → IsKnownDesk k d
    → IsKnownAction k s.command.action → IsRecordAt k d s r → IsKnownRecord k r
record_known rules k d s r range desk known is = record {
  cells = done_known k (record { changes = r.changes; reply = r.reply })
      (rules.commands.known k d s.number s.command _ range desk known is.done);
  questions =
      subst (EachQuestionIsKnown k) (sym is.findings) (known_asks k d s.number s.command range desk known);
  counts = subst EachIsSmall (sym is.findings) (each_small k d (asks k d (plan k s.number s.command)) range);
}

pub records_known : Rules → (k : Facts) (d : Desk) (ss : List Survivor) (rs : List Record) → AreInRange k
    → IsKnownDesk k d → EachCommandIsKnown k ss → AreRecords k d ss rs → EachRecordIsKnown k rs
records_known rules k d [] [] range desk known are = tt
records_known rules k d [] (r ∷ rs) range desk known are = absurd are
records_known rules k d (s ∷ ss) [] range desk known are = absurd are
records_known rules k d (s ∷ ss) (r ∷ rs) range desk known are = (
  record_known rules k d s r range desk known.0 are.0,
  records_known rules k (step k d s) ss rs range (step_known rules k d s range desk known.0) known.1 are.1,
)
