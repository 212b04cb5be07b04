-- In the run without a command on which none depends, each record is the same but for what is noted.
use Rattle.std.proofs.Common.{arith, ◌≡◌, refl, sym, ◌∙◌, ap, subst, ℕ, ◌<◌, ◌≤◌, ◌⊎◌, inl, inr, Bool, true}
use Rattle.std.proofs.Common.{false, not, ◌==◌, List, []}
use Rattle.std.proofs.Common.{◌∷◌}
use Rattle.std.specs.Prelude.{nat_lt, filter}
use Rattle.std.proofs.lemmas.Bool.{ltb-true, ltb-false}
use Rattle.hd_rules.specs.Words.{Survivor, Question, Finding}
use Rattle.hd_rules.specs.Facts.{Facts, first_number}
use Rattle.hd_rules.specs.Desk.{Desk}
use Rattle.hd_rules.specs.Ask.{Plan, asks}
use Rattle.hd_rules.specs.Step.{plan}
use Rattle.hd_rules.specs.Run.{IsAmong, run, Rising}
use Rattle.hd_rules.specs.Depends.{AnsweredOtherwise, AnsweredAlike, before, less, NoneDepends}
use Rattle.hd_rules.specs.Notes.{note}
use Rattle.hd_rules.specs.Record.{findings, noted_at, Record, IsRecord, mended_record}
use Rattle.hd_rules.proofs.Tests.{number_not, other_number}
use Rattle.hd_rules.proofs.Splits.{keeps, drops, less_before}
use Rattle.hd_rules.proofs.Undo.{same_asks}
use Rattle.hd_rules.proofs.Dependence.{otherwise_or_alike}
use Rattle.hd_rules.proofs.Legal.{outcomes_stand}

-- what passes a test is in the list, and passes
among_filter : (test : Survivor → Bool) (x : Survivor) (ss : List Survivor) → IsAmong x (filter test ss)
    → IsAmong x ss × (test x ≡ true)
among_filter test x [] h = absurd h
among_filter test x (s ∷ ss) h = by_test (test s) refl (among_filter test x ss)
  where
    here : test s ≡ true → IsAmong x (s ∷ filter test ss)
        → (IsAmong x (filter test ss) → IsAmong x ss × (test x ≡ true)) → IsAmong x (s ∷ ss) × (test x ≡ true)
    here is (inl e) more = (inl e, ap test e ∙ is)
    here is (inr later) more = let r : IsAmong x ss × (test x ≡ true) = more later in (inr r.0, r.1)

    by_test : (b : Bool) → test s ≡ b → (IsAmong x (filter test ss) → IsAmong x ss × (test x ≡ true))
        → IsAmong x (s ∷ ss) × (test x ≡ true)
    by_test true is more = here is (subst (IsAmong x) (keeps test s ss is) h) more
    by_test false is more = let r : IsAmong x ss × (test x ≡ true) =
        more (subst (IsAmong x) (drops test s ss is) h) in (inr r.0, r.1)

-- a number that none of them has
less_none : (n : ℕ) (ss : List Survivor) → ((x : Survivor) → IsAmong x ss → x.number ≡ n → ⊥) → less n ss ≡ ss
less_none n [] none = refl
less_none n (s ∷ ss) none =
    keeps (λ (x : Survivor). not (x.number == n)) s ss (ap not (other_number s.number n (none s (inl refl))))
    ∙ ap (λ (xs : List Survivor). s ∷ xs) (less_none n ss (λ x among. none x (inr among)))

noted_same : (k : Facts) (d e : Desk) (qs : List Question) → noted_at k e (findings k d qs) ≡ findings k e qs
noted_same k d e [] = refl
noted_same k d e (q ∷ qs) = ap (λ (fs : List Finding). findings_first k e q fs) (noted_same k d e qs)
  where
    findings_first : Facts → Desk → Question → List Finding → List Finding
    findings_first k e q fs = record { question = q; noted = note k e q } ∷ fs

-- a survivor asks the same in the run without the command
asks_stand : (k : Facts) (ss : List Survivor) (c s : Survivor) → NoneDepends k ss c → IsAmong s ss
    → (s.number ≡ c.number → ⊥) → asks k (run k (before s.number ss)) (plan k s.number s.command)
    ≡ asks k (run k (before s.number (less c.number ss))) (plan k s.number s.command)
asks_stand k ss c s none among other =
    by_order (nat_lt c.number s.number) refl
    ∙ ap (λ (xs : List Survivor). asks k (run k xs) (plan k s.number s.command))
    (less_before c.number s.number ss)
  where
    those : List Survivor
    those = before s.number ss

    stands : AnsweredOtherwise k (run k those) (run k (less c.number those)) (plan k s.number s.command)
        ⊎ AnsweredAlike k (run k those) (run k (less c.number those)) (plan k s.number s.command)
        → c.number < s.number
        → asks k (run k those) (plan k s.number s.command) ≡ asks k (run k (less c.number those))
        (plan k s.number s.command)
    stands (inl dep) lt = absurd (none s among lt dep)
    stands (inr alike) lt =
        same_asks k (run k those) (run k (less c.number those)) (plan k s.number s.command) alike

    by_order : (b : Bool) → nat_lt c.number s.number ≡ b → asks k (run k those)
        (plan k s.number s.command) ≡ asks k (run k (less c.number those)) (plan k s.number s.command)
    by_order true is =
        stands (otherwise_or_alike k (run k those) (run k (less c.number those)) (plan k s.number s.command))
        (ltb-true c.number s.number is)
    by_order false is =
        ap (λ (xs : List Survivor). asks k (run k xs) (plan k s.number s.command))
        (sym (less_none c.number those (λ x h same.
        let low : x.number < s.number =
        ltb-true x.number s.number (among_filter (λ (y : Survivor). nat_lt y.number s.number) x ss h).1 in
        let up : s.number ≤ c.number = ltb-false c.number s.number is in
        (let no_ : ⊥ = omega arith in no_))))

other_of : (m n : ℕ) → not (m == n) ≡ true → m ≡ n → ⊥
other_of m n is e = by_test (m == n) refl is
  where
    by_test : (b : Bool) → (m == n) ≡ b → not b ≡ true → ⊥
    by_test true same is = cc
    by_test false same is = number_not m n same e

pub records_stand : (k : Facts) (ss : List Survivor) (c : Survivor)
    → Rising (first_number k) ss → IsAmong c ss → NoneDepends k ss c
    → (s : Survivor) (r : Record) → IsAmong s (less c.number ss) → IsRecord k ss s r
    → IsRecord k (less c.number ss) s (mended_record k (run k (before s.number (less c.number ss))) r)
records_stand k ss c rising in_c none s r among is =
    let d : Desk = run k (before s.number ss) in
    let e : Desk = run k (before s.number (less c.number ss)) in
    let p : Plan = plan k s.number s.command in
    let both : IsAmong s ss × (not (s.number == c.number) ≡ true) =
    among_filter (λ (x : Survivor). not (x.number == c.number)) s ss among in
    record {
      number = is.number;
      terminal = is.terminal;
      command = is.command;
      done = outcomes_stand k ss c rising in_c none s among ∙ is.done;
      findings =
          ap (noted_at k e) is.findings ∙ noted_same k d e (asks k d p)
          ∙ ap (findings k e) (asks_stand k ss c s none both.0 (other_of s.number c.number both.1));
    }
