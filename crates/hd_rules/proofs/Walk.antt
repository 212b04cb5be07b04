-- The first later command that depends on one, and the runs with and without that one.
use Rattle.std.proofs.Common.{arith, ◌≡◌, refl, sym, ◌∙◌, ap, subst, ℕ, ◌+◌, ◌<◌, ◌≤◌, inl, inr, Bool, true}
use Rattle.std.proofs.Common.{false, cond, List, [], ◌∷◌}
use Rattle.std.proofs.Common.{◌++◌, append_assoc, Option, Some, None}
use Rattle.std.proofs.lemmas.List.{append-nil}
use Rattle.hd_rules.specs.Words.{Survivor}
use Rattle.hd_rules.specs.Facts.{Facts}
use Rattle.hd_rules.specs.Desk.{Desk}
use Rattle.hd_rules.specs.Step.{plan}
use Rattle.hd_rules.specs.Run.{IsAmong, step, run, Rising}
use Rattle.hd_rules.specs.Searches.{answered_otherwise, depends, first_dependent}
use Rattle.hd_rules.specs.Depends.{before, less, Depends, NoneDepends, IsLeastDependent}
use Rattle.hd_rules.specs.Searches.{first_otherwise}
use Rattle.hd_rules.proofs.Standing.{AllStand}
use Rattle.hd_rules.proofs.Splits.{among_right, among_newer, rising_after, rising_later, above, before_split}
use Rattle.hd_rules.proofs.Splits.{less-append, less_above}
use Rattle.hd_rules.proofs.Splits.{less_split, rising_first}
use Rattle.hd_rules.proofs.Dependence.{alike_is, otherwise_is, is_otherwise}
use Rattle.hd_rules.proofs.Cancelling.{run_from-append}
use Rattle.hd_rules.proofs.Tests.{some_is}

-- what is tested of a later command, by the two lists of those before it
test_at : (k : Facts) (n : ℕ) (xs : List Survivor) (d : Survivor) (rest : List Survivor)
    (c : Survivor) (ys : List Survivor) → Rising n (xs ++ d ∷ rest) → less c.number xs ≡ ys
    → depends k (xs ++ d ∷ rest) c d ≡ answered_otherwise k (run k xs) (run k ys) (plan k d.number d.command)
test_at k n xs d rest c ys rising without =
    let those : before d.number (xs ++ d ∷ rest) ≡ xs = before_split n xs d rest rising in
    ap (λ (zs : List Survivor). answered_otherwise k (run k zs) (run k (less c.number zs))
    (plan k d.number d.command)) those
    ∙ ap (λ (zs : List Survivor). answered_otherwise k (run k xs) (run k zs) (plan k d.number d.command))
    without

pub run_one_more : (k : Facts) (xs : List Survivor) (s : Survivor)
    → run k (xs ++ s ∷ []) ≡ step k (run k xs) s
run_one_more k xs s = run_from-append k k.opening.desk xs (s ∷ [])

-- a walk from the two desks on finds the same as the tests one by one
walk_from : (k : Facts) (n : ℕ) (xs : List Survivor) (c : Survivor) (ys rest : List Survivor)
    → Rising n (xs ++ rest) → Rising (c.number + 1) rest → less c.number xs ≡ ys
    → first_dependent k (xs ++ rest) c rest ≡ first_otherwise k (run k xs) (run k ys) rest
walk_from k n xs c ys [] rising later without = refl
walk_from k n xs c ys (d ∷ rest) rising later without =
    by_test (depends k (xs ++ d ∷ rest) c d)
    (answered_otherwise k (run k xs) (run k ys) (plan k d.number d.command))
    (test_at k n xs d rest c ys rising without)
    (walk_from k n (xs ++ d ∷ []) c (ys ++ d ∷ []) rest
    (subst (λ (zs : List Survivor). Rising n zs) joined rising) later_on goes_on)
  where
    joined : xs ++ d ∷ rest ≡ (xs ++ d ∷ []) ++ rest
    joined = sym (append_assoc xs (d ∷ []) rest)

    goes_on : less c.number (xs ++ d ∷ []) ≡ ys ++ d ∷ []
    goes_on =
        less-append c.number xs (d ∷ [])
        ∙ ap (λ (zs : List Survivor). zs ++ less c.number (d ∷ [])) without
        ∙ ap (λ (zs : List Survivor). ys ++ zs)
        (less_above c.number (c.number + 1) (d ∷ []) (later.0, tt)
        (let lt : c.number < c.number + 1 = omega arith in lt))

    later_on : Rising (c.number + 1) rest
    later_on = let up : c.number + 1 ≤ d.number = later.0 in
        rising_later (c.number + 1) (d.number + 1) rest (omega arith) later.1

    by_test : (a b : Bool) → a ≡ b → first_dependent k ((xs ++ d ∷ []) ++ rest) c rest ≡ first_otherwise k
        (run k (xs ++ d ∷ [])) (run k (ys ++ d ∷ [])) rest
        → cond a (Some d.number) (first_dependent k (xs ++ d ∷ rest) c rest)
        ≡ cond b (Some d.number) (first_otherwise k (step k (run k xs) d) (step k (run k ys) d) rest)
    by_test true true e more = refl
    by_test false false e more =
        ap (λ (zs : List Survivor). first_dependent k zs c rest) joined
        ∙ more
        ∙ ap (λ (e : Desk). first_otherwise k e (run k (ys ++ d ∷ [])) rest) (run_one_more k xs d)
        ∙ ap (λ (e : Desk). first_otherwise k (step k (run k xs) d) e rest) (run_one_more k ys d)
    by_test true false e more = cc
    by_test false true e more = cc

pub walk_is : (k : Facts) (n : ℕ) (older : List Survivor) (c : Survivor) (newer : List Survivor)
    → Rising n (older ++ c ∷ newer) → first_dependent k (older ++ c ∷ newer) c newer ≡ first_otherwise k
    (run k (older ++ c ∷ [])) (run k older) newer
walk_is k n older c newer rising =
    ap (λ (zs : List Survivor). first_dependent k zs c newer) joined
    ∙ walk_from k n (older ++ c ∷ []) c older newer rises (rising_after n older c newer rising)
    (less_split n older c [] (rising_first n (older ++ c ∷ []) newer rises) ∙ append-nil older)
  where
    joined : older ++ c ∷ newer ≡ (older ++ c ∷ []) ++ newer
    joined = sym (append_assoc older (c ∷ []) newer)

    rises : Rising n ((older ++ c ∷ []) ++ newer)
    rises = subst (λ (zs : List Survivor). Rising n zs) joined rising

-- where the walk finds none, all stand
pub walk_stands : (k : Facts) (d e : Desk) (ss : List Survivor) → first_otherwise k d e ss ≡ None
    → AllStand k d e ss
walk_stands k d e [] none = tt
walk_stands k d e (s ∷ ss) none =
    by_test (answered_otherwise k d e (plan k s.number s.command)) refl none
    (walk_stands k (step k d s) (step k e s) ss)
  where
    by_test : (b : Bool) → answered_otherwise k d e (plan k s.number s.command) ≡ b
        → cond b (Some s.number) (first_otherwise k (step k d s) (step k e s) ss) ≡ None
        → (first_otherwise k (step k d s) (step k e s) ss ≡ None → AllStand k (step k d s) (step k e s) ss)
        → AllStand k d e (s ∷ ss)
    by_test true is none more = cc
    by_test false is none more = (alike_is k d e (plan k s.number s.command) is, more none)

-- of these the first that depends
pub record FirstOf (k : Facts) (survivors : List Survivor) (c : Survivor) (ss : List Survivor)
    (n : ℕ) : Type 0 where
  pub dependent : Survivor
  pub among : IsAmong dependent ss
  pub depends : Depends k survivors c dependent
  pub named : n ≡ dependent.number
  pub first : (d : Survivor) → IsAmong d ss → d.number < n → Depends k survivors c d → ⊥

none_of : (k : Facts) (survivors : List Survivor) (c d : Survivor) → depends k survivors c d ≡ false
    → Depends k survivors c d → ⊥
none_of k survivors c d is dep =
    let one : depends k survivors c d ≡ true =
    is_otherwise k (run k (before d.number survivors)) (run k (less c.number (before d.number survivors)))
    (plan k d.number d.command)
    dep in cc

pub first_is : (k : Facts) (survivors : List Survivor) (c : Survivor) (m : ℕ) (ss : List Survivor)
    → Rising m ss → (n : ℕ) → first_dependent k survivors c ss ≡ Some n → FirstOf k survivors c ss n
first_is k survivors c m [] rising n is = cc
first_is k survivors c m (s ∷ ss) rising n is =
    by_test (depends k survivors c s) refl is (first_is k survivors c (s.number + 1) ss rising.1 n)
  where
    by_test : (b : Bool) → depends k survivors c s ≡ b
        → cond b (Some s.number) (first_dependent k survivors c ss) ≡ Some n
        → (first_dependent k survivors c ss ≡ Some n → FirstOf k survivors c ss n)
        → FirstOf k survivors c (s ∷ ss) n
    by_test true does is more =
        let e : s.number ≡ n = some_is s.number n is in
        record {
          dependent = s;
          among = inl refl;
          depends =
              otherwise_is k (run k (before s.number survivors))
              (run k (less c.number (before s.number survivors)))
              (plan k s.number s.command) does;
          named = sym e;
          first = λ d h lt dep. (let up : s.number ≤ d.number =
              above s.number d (s ∷ ss) ((let le : s.number ≤ s.number = omega arith in le), rising.1) h in
              let no : ⊥ = omega arith in no);
        }
    by_test false isnt is more =
        let rest : FirstOf k survivors c ss n = more is in
        record {
          dependent = rest.dependent;
          among = inr rest.among;
          depends = rest.depends;
          named = rest.named;
          first = λ d h. earlier_one d h rest.first;
        }
      where
        earlier_one : (d : Survivor) → IsAmong d (s ∷ ss)
            → ((x : Survivor) → IsAmong x ss → x.number < n → Depends k survivors c x → ⊥) → d.number < n
            → Depends k survivors c d → ⊥
        earlier_one d (inl e) later lt dep =
            none_of k survivors c s isnt (subst (λ (x : Survivor). Depends k survivors c x) e dep)
        earlier_one d (inr h) later lt dep = later d h lt dep

pub none_is : (k : Facts) (survivors : List Survivor) (c : Survivor) (ss : List Survivor)
    → first_dependent k survivors c ss ≡ None → (d : Survivor) → IsAmong d ss → Depends k survivors c d → ⊥
none_is k survivors c [] is d h dep = absurd h
none_is k survivors c (s ∷ ss) is d h dep =
    by_test (depends k survivors c s) refl is h (none_is k survivors c ss)
  where
    by_test : (b : Bool) → depends k survivors c s ≡ b
        → cond b (Some s.number) (first_dependent k survivors c ss) ≡ None → IsAmong d (s ∷ ss)
        → (first_dependent k survivors c ss ≡ None → (x : Survivor) → IsAmong x ss
        → Depends k survivors c x → ⊥) → ⊥
    by_test true does is h more = cc
    by_test false isnt is (inl e) more =
        none_of k survivors c s isnt (subst (λ (x : Survivor). Depends k survivors c x) e dep)
    by_test false isnt is (inr h) more = more is d h dep

-- among the survivors, split at the command
pub none_depends : (k : Facts) (n : ℕ) (older : List Survivor) (c : Survivor) (newer : List Survivor)
    → Rising n (older ++ c ∷ newer) → first_dependent k (older ++ c ∷ newer) c newer ≡ None
    → NoneDepends k (older ++ c ∷ newer) c
none_depends k n older c newer rising is d h lt dep =
    none_is k (older ++ c ∷ newer) c newer is d (among_newer n older c newer d rising h lt) dep

pub least_depends : (k : Facts) (n : ℕ) (older : List Survivor) (c : Survivor) (newer : List Survivor)
    → Rising n (older ++ c ∷ newer) → (m : ℕ) → first_dependent k (older ++ c ∷ newer) c newer ≡ Some m
    → IsLeastDependent k (older ++ c ∷ newer) c m
least_depends k n older c newer rising m is =
    let f : FirstOf k (older ++ c ∷ newer) c newer m =
    first_is k (older ++ c ∷ newer) c (c.number + 1) newer (rising_after n older c newer rising) m is in
    record {
      dependent = f.dependent;
      survives = among_right f.dependent older (c ∷ newer) (inr f.among);
      later = (let up : c.number + 1 ≤ f.dependent.number =
          above (c.number + 1) f.dependent newer (rising_after n older c newer rising) f.among in
          let lt : c.number < f.dependent.number = omega arith in lt);
      depends = f.depends;
      named = f.named;
      least = λ d h lt low dep. f.first d (among_newer n older c newer d rising h lt) low dep;
    }

-- where no later survivor depends, the search finds none
pub finds_none : (k : Facts) (n : ℕ) (older : List Survivor) (c : Survivor) (newer : List Survivor)
    → Rising n (older ++ c ∷ newer) → NoneDepends k (older ++ c ∷ newer) c
    → first_dependent k (older ++ c ∷ newer) c newer ≡ None
finds_none k n older c newer rising none = cases (first_dependent k (older ++ c ∷ newer) c newer) refl
  where
    cases : (o : Option ℕ) → first_dependent k (older ++ c ∷ newer) c newer ≡ o → o ≡ None
    cases None is = refl
    cases (Some m) is =
        let l : IsLeastDependent k (older ++ c ∷ newer) c m = least_depends k n older c newer rising m is in
        absurd (none l.dependent l.survives l.later l.depends)

pub all_stand : (k : Facts) (n : ℕ) (older : List Survivor) (c : Survivor) (newer : List Survivor)
    → Rising n (older ++ c ∷ newer) → NoneDepends k (older ++ c ∷ newer) c
    → AllStand k (step k (run k older) c) (run k older) newer
all_stand k n older c newer rising none =
    subst (λ (d : Desk). AllStand k d (run k older) newer) (run_one_more k older c)
    (walk_stands k (run k (older ++ c ∷ [])) (run k older) newer (sym (walk_is k n older c newer rising)
    ∙ finds_none k n older c newer rising none))
