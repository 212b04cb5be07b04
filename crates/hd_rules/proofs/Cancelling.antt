-- A command on which nothing later depends is cancelled by taking back its changes.
use Rattle.std.proofs.Common.{◌≡◌, refl, sym, ◌∙◌, ap, subst, ℕ, zero, suc, List, [], ◌∷◌, ◌++◌, Result, Ok}
use Rattle.std.proofs.Common.{Err}
use Rattle.hd_rules.specs.Words.{Cell, Value, Change, Refusal, Survivor}
use Rattle.hd_rules.specs.Facts.{Facts}
use Rattle.hd_rules.specs.Desk.{Desk, value, put, after}
use Rattle.hd_rules.specs.Ask.{Plan, Ask, Refuse, Accept, Done, answer}
use Rattle.hd_rules.specs.Step.{plan}
use Rattle.hd_rules.specs.Run.{outcome_of, changed_by, step, run_from, run, AreChanges}
use Rattle.hd_rules.specs.Depends.{AnsweredAlike}
use Rattle.hd_rules.proofs.Standing.{AllStand, EndAlike}
use Rattle.hd_rules.specs.Differ.{DifferAtEach, DifferBy}
use Rattle.hd_rules.proofs.Undo.{same_outcome, EachSame, differ_after, after_elsewhere, put_same}
use Rattle.hd_rules.proofs.Undo.{same_cell_refl}
use Rattle.hd_rules.proofs.Grounded.{EachKnown}
use Rattle.hd_rules.proofs.Written.{Written, plan_written, value_both}

-- the cell has this value at both desks
pub record Both (d e : Desk) (x : Cell) (v : Value) : Type 0 where
  pub first : value d x ≡ v
  pub second : value e x ≡ v

-- each change's old value is that of both desks
abbrev pub EachBoth : Desk → Desk → List Change → Type 0
EachBoth d e [] = Unit {0}
EachBoth d e (c ∷ cs) = Both d e c.cell c.old × EachBoth d e cs

each_both : (k : Facts) (d e : Desk) (p : Plan) → AnsweredAlike k d e p → (most : ℕ) (cs : List Change)
    → EachKnown most (Written k d p) cs → EachBoth d e cs
each_both k d e p alike most [] h = tt
each_both k d e p alike zero (c ∷ cs) h = absurd h
each_both k d e p alike (suc most) (c ∷ cs) h = (
  record { first = h.0.has; second = sym (value_both k d e p c.cell alike h.0.asked) ∙ h.0.has },
  each_both k d e p alike most cs h.1,
)

-- what a survivor that stands writes has one value at both desks
pub survivor_both : (k : Facts) (d e : Desk) (s : Survivor) → AnsweredAlike k d e (plan k s.number s.command)
    → (done : Done) → outcome_of k d s ≡ Ok done → EachBoth d e done.changes
survivor_both k d e s alike done is =
    each_both k d e (plan k s.number s.command) alike 4 done.changes
    (plan_written k d s.number s.command done is)

both_same : (d e : Desk) (cs : List Change) → EachBoth d e cs → EachSame d e cs
both_same d e [] h = tt
both_same d e (c ∷ cs) h = (h.0.first ∙ sym h.0.second, both_same d e cs h.1)

pub alike_refl : (k : Facts) (d : Desk) (plan : Plan) → AnsweredAlike k d d plan
alike_refl k d (Ask q rest) = (refl, alike_refl k d (rest (answer k d q)))
alike_refl k d (Refuse r) = tt
alike_refl k d (Accept done) = tt

differ_step : (k : Facts) (d e : Desk) (cs : List Change) (s : Survivor) → DifferBy cs d e
    → AnsweredAlike k d e (plan k s.number s.command) → (r : Result Done Refusal) → outcome_of k d s ≡ r
    → DifferBy cs (changed_by r d) (changed_by r e)
differ_step k d e cs s h alike (Ok done) is =
    differ_after d e cs done.changes h (both_same d e done.changes (survivor_both k d e s alike done is))
differ_step k d e cs s h alike (Err r) is = h

-- the desks of both runs go on to differ by just those changes
pub differ_run : (k : Facts) (d e : Desk) (cs : List Change) (ss : List Survivor) → DifferBy cs d e
    → AllStand k d e ss → DifferBy cs (run_from k d ss) (run_from k e ss)
differ_run k d e cs [] h stand = h
differ_run k d e cs (s ∷ ss) h stand =
    let same : outcome_of k d s ≡ outcome_of k e s = same_outcome k d e (plan k s.number s.command) stand.0 in
    let next : DifferBy cs (step k d s) (step k e s) =
    subst (λ (r : Result Done Refusal). DifferBy cs (step k d s) (changed_by r e)) same
    (differ_step k d e cs s h stand.0 (outcome_of k d s) refl) in
    differ_run k (step k d s) (step k e s) cs ss next stand.1

pub end_alike : (k : Facts) (d e : Desk) (ss : List Survivor) → AllStand k d e ss → EndAlike k d e ss
end_alike k d e [] stand = tt
end_alike k d e (s ∷ ss) stand =
    (same_outcome k d e (plan k s.number s.command) stand.0, end_alike k (step k d s) (step k e s) ss stand.1)

pub run_from-append : (k : Facts) (d : Desk) (xs ys : List Survivor)
    → run_from k d (xs ++ ys) ≡ run_from k (run_from k d xs) ys
run_from-append k d [] ys = refl
run_from-append k d (x ∷ xs) ys = run_from-append k (step k d x) xs ys

-- each has its new value once the changes are made
each_made : (d e : Desk) (cs : List Change) → AreChanges cs → EachBoth e e cs → DifferAtEach (after cs d) e cs
each_made d e [] ok old = tt
each_made d e (c ∷ cs) ok old = (
  record {
    new = after_elsewhere cs (put d c.cell c.new) c.cell ok.2
        ∙ put_same d c.cell c.new c.cell ok.1 (same_cell_refl c.cell);
    old = old.0.first;
    differ = ok.0;
  },
  each_made (put d c.cell c.new) e cs ok.3 old.1,
)

pub differ_made : (d : Desk) (cs : List Change) → AreChanges cs → EachBoth d d cs → DifferBy cs (after cs d) d
differ_made d cs ok old = record {
  elsewhere = λ y apart. after_elsewhere cs d y apart;
  each = each_made d d cs ok old;
}

-- The command c made these changes at the desk before it, and all later ones stand. Then the runs with and
-- without c differ by just those.
pub runs_differ : (k : Facts) (before later : List Survivor) (c : Survivor) (done : Done)
    → outcome_of k (run k before) c ≡ Ok done → AreChanges done.changes
    → AllStand k (after done.changes (run k before)) (run k before) later
    → DifferBy done.changes (run k (before ++ c ∷ later)) (run k (before ++ later))
runs_differ k before later c done is ok stand =
    let made : DifferBy done.changes (after done.changes (run k before)) (run k before) =
    differ_made (run k before) done.changes ok
    (survivor_both k (run k before) (run k before) c
    (alike_refl k (run k before) (plan k c.number c.command)) done is) in
    let with_c : run k (before ++ c ∷ later) ≡ run_from k (after done.changes (run k before)) later =
    run_from-append k k.opening.desk before (c ∷ later)
    ∙ ap (λ (r : Result Done Refusal). run_from k (changed_by r (run k before)) later) is in
    subst (λ (x : Desk). DifferBy done.changes x (run k (before ++ later))) (sym with_c)
    (subst (λ (x : Desk). DifferBy done.changes (run_from k (after done.changes (run k before)) later) x)
    (sym (run_from-append k k.opening.desk before later))
    (differ_run k _ _ done.changes later made stand))
