-- What holds of a command that is accepted in a legal run.
use Rattle.std.proofs.Common.{ℕ, ◌≡◌, sym, ◌∙◌, ap, subst, ◌⊎◌, inl, inr, List, [], ◌∷◌, ◌++◌, append_assoc}
use Rattle.std.proofs.Common.{Result, Ok}
use Rattle.hd_rules.specs.Words.{Survivor, Refusal}
use Rattle.hd_rules.specs.Facts.{Facts, first_number}
use Rattle.hd_rules.specs.Desk.{Desk, take_back}
use Rattle.hd_rules.specs.Ask.{Done}
use Rattle.hd_rules.specs.Run.{IsAmong, outcome_of, changed_by, step, run_from, run, Rising, next_number}
use Rattle.hd_rules.specs.Run.{AreChanges}
use Rattle.hd_rules.specs.Depends.{before, less, NoneDepends}
use Rattle.hd_rules.specs.Laws.{IsAcceptedIn}
use Rattle.hd_rules.proofs.Standing.{AllStand, EndAlike}
use Rattle.hd_rules.proofs.Splits.{SplitAt, among_either, among_split, before_split, less_split}
use Rattle.hd_rules.proofs.Splits.{rising_first, rising_without}
use Rattle.hd_rules.proofs.Walk.{all_stand}
use Rattle.hd_rules.specs.Sound.{EachBackIsFit, MayOpen}
use Rattle.hd_rules.proofs.Cancelling.{run_from-append, end_alike}
use Rattle.hd_rules.specs.Differ.{DifferBy}
use Rattle.hd_rules.proofs.Undo.{undone_is}
use Rattle.hd_rules.proofs.Gentle.{AreGentle}
use Rattle.hd_rules.proofs.Back.{each_back}
use Rattle.hd_rules.proofs.Reach.{reachable_sound, reachable_changes, reachable_gentle, differ}

-- what is asked of a split run holds of the run
pub on_split : (P : List Survivor → Type 0) (c : Survivor) (ss : List Survivor) → IsAmong c ss
    → ((older newer : List Survivor) → P (older ++ c ∷ newer)) → P ss
on_split P c ss among ok = let s : SplitAt c ss = among_split c ss among in
    subst P (sym s.is) (ok s.older s.newer)

-- more survivors at the end change nothing of those before one of the first
pub before_more : (n : ℕ) (ss zs : List Survivor) (s : Survivor) → Rising n (ss ++ zs) → IsAmong s ss
    → before s.number (ss ++ zs) ≡ before s.number ss
before_more n ss zs s rising among =
    on_split (λ xs. Rising n (xs ++ zs) → before s.number (xs ++ zs) ≡ before s.number xs) s ss
    among at rising
  where
    at : (older newer : List Survivor) → Rising n ((older ++ s ∷ newer) ++ zs)
        → before s.number ((older ++ s ∷ newer) ++ zs) ≡ before s.number (older ++ s ∷ newer)
    at older newer r =
        let e : (older ++ s ∷ newer) ++ zs ≡ older ++ s ∷ (newer ++ zs) = append_assoc older (s ∷ newer) zs in
        ap (before s.number) e
        ∙ before_split n older s (newer ++ zs) (subst (Rising n) e r)
        ∙ sym (before_split n older s newer (rising_first n (older ++ s ∷ newer) zs r))

outcome_at : (k : Facts) (older : List Survivor) (c : Survivor) (newer : List Survivor) (done : Done)
    → Rising (first_number k) (older ++ c ∷ newer)
    → outcome_of k (run k (before c.number (older ++ c ∷ newer))) c ≡ Ok done
    → outcome_of k (run k older) c ≡ Ok done
outcome_at k older c newer done rising is =
    subst (λ (xs : List Survivor). outcome_of k (run k xs) c ≡ Ok done)
    (before_split (first_number k) older c newer rising) is

pub changes_distinct : (k : Facts) (ss : List Survivor) (c : Survivor) (done : Done) → MayOpen k
    → IsAcceptedIn k ss c done → AreChanges done.changes
changes_distinct k ss c done may h =
    on_split (λ xs. Rising (first_number k) xs → outcome_of k (run k (before c.number xs)) c ≡ Ok done
    → AreChanges done.changes) c ss h.among
    (λ older newer rising is. reachable_changes k older newer c done may rising
    (outcome_at k older c newer done rising is))
    h.rising h.accepted

-- the runs with and without a command on which none depends
differ_split : (k : Facts) (older : List Survivor) (c : Survivor) (newer : List Survivor) (done : Done)
    → MayOpen k → Rising (first_number k) (older ++ c ∷ newer)
    → outcome_of k (run k older) c ≡ Ok done → NoneDepends k (older ++ c ∷ newer) c
    → DifferBy done.changes (run k (older ++ c ∷ newer)) (run k (less c.number (older ++ c ∷ newer)))
differ_split k older c newer done may rising is none =
    subst (λ (xs : List Survivor). DifferBy done.changes (run k (older ++ c ∷ newer)) (run k xs))
    (sym (less_split (first_number k) older c newer rising))
    (differ k older newer c done may rising is
    (subst (λ (r : Result Done Refusal). AllStand k (changed_by r (run k older)) (run k older) newer) is
    (all_stand k (first_number k) older c newer rising none)))

differ_without : (k : Facts) (ss : List Survivor) (c : Survivor) (done : Done)
    → MayOpen k → IsAcceptedIn k ss c done → NoneDepends k ss c
    → DifferBy done.changes (run k ss) (run k (less c.number ss))
differ_without k ss c done may h =
    on_split (λ xs. Rising (first_number k) xs → outcome_of k (run k (before c.number xs)) c ≡ Ok done
    → NoneDepends k xs c
    → DifferBy done.changes (run k xs) (run k (less c.number xs))) c ss h.among
    (λ older newer rising is none. differ_split k older c newer done may rising
    (outcome_at k older c newer done rising is) none)
    h.rising h.accepted

pub undone_without : (k : Facts) (ss : List Survivor) (c : Survivor) (done : Done)
    → MayOpen k → IsAcceptedIn k ss c done → NoneDepends k ss c
    → take_back done.changes (run k ss) ≡ run k (less c.number ss)
undone_without k ss c done may h none =
    undone_is (run k ss) (run k (less c.number ss)) done.changes (differ_without k ss c done may h none)

changes_gentle : (k : Facts) (ss : List Survivor) (c : Survivor) (done : Done) → MayOpen k
    → IsAcceptedIn k ss c done → AreGentle done.changes
changes_gentle k ss c done may h =
    on_split (λ xs. Rising (first_number k) xs → outcome_of k (run k (before c.number xs)) c ≡ Ok done
    → AreGentle done.changes) c ss h.among
    (λ older newer rising is. reachable_gentle k older newer c done may rising
    (outcome_at k older c newer done rising is))
    h.rising h.accepted

-- a run without one of its commands is legal too
less_rising : (n : ℕ) (ss : List Survivor) (c : Survivor) → IsAmong c ss → Rising n ss
    → Rising n (less c.number ss)
less_rising n ss c among rising =
    on_split (λ xs. Rising n xs → Rising n (less c.number xs)) c ss among
    (λ older newer r. subst (Rising n) (sym (less_split n older c newer r))
    (rising_without n older c newer r)) rising

-- taking the changes back leads through fit desks
pub back_through_fit : (k : Facts) (ss : List Survivor) (c : Survivor) (done : Done) → MayOpen k
    → IsAcceptedIn k ss c done → NoneDepends k ss c → EachBackIsFit k done.changes (run k ss)
back_through_fit k ss c done may h none =
    each_back k (next_number (first_number k) ss) (next_number (first_number k) (less c.number ss)) (run k ss)
    (run k (less c.number ss)) done.changes
    (differ_without k ss c done may h none) (changes_distinct k ss c done may h)
    (changes_gentle k ss c done may h)
    (reachable_sound k ss may h.rising)
    (reachable_sound k (less c.number ss) may (less_rising (first_number k) ss c h.among h.rising))

-- a later one that ends alike, at the place where it stands
ends_at : (k : Facts) (d e : Desk) (xs : List Survivor) (s : Survivor) (ys : List Survivor)
    → EndAlike k d e (xs ++ s ∷ ys) → outcome_of k (run_from k d xs) s ≡ outcome_of k (run_from k e xs) s
ends_at k d e [] s ys alike = alike.0
ends_at k d e (x ∷ xs) s ys alike = ends_at k (step k d x) (step k e x) xs s ys alike.1

-- a survivor older than the command
older_stands : (k : Facts) (xs : List Survivor) (s : Survivor) (ys : List Survivor)
    (c : Survivor) (newer : List Survivor) → Rising (first_number k) ((xs ++ s ∷ ys) ++ c ∷ newer)
    → outcome_of k (run k (before s.number ((xs ++ s ∷ ys) ++ newer))) s
    ≡ outcome_of k (run k (before s.number ((xs ++ s ∷ ys) ++ c ∷ newer))) s
older_stands k xs s ys c newer rising =
    ap (λ (zs : List Survivor). outcome_of k (run k zs) s) (left ∙ sym right)
  where
    right : before s.number ((xs ++ s ∷ ys) ++ c ∷ newer) ≡ xs
    right =
        let e : (xs ++ s ∷ ys) ++ c ∷ newer ≡ xs ++ s ∷ (ys ++ c ∷ newer) =
        append_assoc xs (s ∷ ys) (c ∷ newer) in
        ap (before s.number) e
        ∙ before_split (first_number k) xs s (ys ++ c ∷ newer) (subst (Rising (first_number k)) e rising)

    left : before s.number ((xs ++ s ∷ ys) ++ newer) ≡ xs
    left =
        let e : (xs ++ s ∷ ys) ++ newer ≡ xs ++ s ∷ (ys ++ newer) = append_assoc xs (s ∷ ys) newer in
        ap (before s.number) e ∙ before_split (first_number k) xs s (ys ++ newer) (subst
        (Rising (first_number k)) e (rising_without (first_number k) (xs ++ s ∷ ys) c newer rising))

-- a survivor newer than the command
newer_stands : (k : Facts) (older : List Survivor) (c : Survivor) (xs : List Survivor)
    (s : Survivor) (ys : List Survivor) → Rising (first_number k) (older ++ c ∷ (xs ++ s ∷ ys))
    → AllStand k (step k (run k older) c) (run k older) (xs ++ s ∷ ys)
    → outcome_of k (run k (before s.number (older ++ (xs ++ s ∷ ys)))) s
    ≡ outcome_of k (run k (before s.number (older ++ c ∷ (xs ++ s ∷ ys)))) s
newer_stands k older c xs s ys rising stand =
    ap (λ (zs : List Survivor). outcome_of k (run k zs) s) left
    ∙ ap (λ (d : Desk). outcome_of k d s) (run_from-append k k.opening.desk older xs)
    ∙ sym (ends_at k (step k (run k older) c) (run k older) xs s ys
    (end_alike k (step k (run k older) c) (run k older) (xs ++ s ∷ ys) stand))
    ∙ ap (λ (d : Desk). outcome_of k d s) (sym (run_from-append k k.opening.desk older (c ∷ xs)))
    ∙ ap (λ (zs : List Survivor). outcome_of k (run k zs) s) (sym right)
  where
    right : before s.number (older ++ c ∷ (xs ++ s ∷ ys)) ≡ older ++ c ∷ xs
    right =
        let e : older ++ c ∷ (xs ++ s ∷ ys) ≡ (older ++ c ∷ xs) ++ s ∷ ys =
        sym (append_assoc older (c ∷ xs) (s ∷ ys)) in
        ap (before s.number) e
        ∙ before_split (first_number k) (older ++ c ∷ xs) s ys (subst (Rising (first_number k)) e rising)

    left : before s.number (older ++ (xs ++ s ∷ ys)) ≡ older ++ xs
    left =
        let e : older ++ (xs ++ s ∷ ys) ≡ (older ++ xs) ++ s ∷ ys = sym (append_assoc older xs (s ∷ ys)) in
        ap (before s.number) e ∙ before_split (first_number k) (older ++ xs) s ys (subst
        (Rising (first_number k)) e (rising_without (first_number k) older c (xs ++ s ∷ ys) rising))

stand_split : (k : Facts) (older : List Survivor) (c : Survivor) (newer : List Survivor)
    → Rising (first_number k) (older ++ c ∷ newer) → AllStand k (step k (run k older) c) (run k older) newer
    → (s : Survivor) → IsAmong s (older ++ newer) → outcome_of k (run k (before s.number (older ++ newer))) s
    ≡ outcome_of k (run k (before s.number (older ++ c ∷ newer))) s
stand_split k older c newer rising stand s h = cases (among_either s older newer h)
  where
    cases : IsAmong s older ⊎ IsAmong s newer → outcome_of k (run k (before s.number (older ++ newer))) s
        ≡ outcome_of k (run k (before s.number (older ++ c ∷ newer))) s
    cases (inl left) =
        on_split (λ xs. Rising (first_number k) (xs ++ c ∷ newer)
        → outcome_of k (run k (before s.number (xs ++ newer))) s ≡ outcome_of k
        (run k (before s.number (xs ++ c ∷ newer))) s) s older
        left
        (λ xs ys r. older_stands k xs s ys c newer r) rising
    cases (inr right) =
        on_split (λ xs. Rising (first_number k) (older ++ c ∷ xs)
        → AllStand k (step k (run k older) c) (run k older) xs
        → outcome_of k (run k (before s.number (older ++ xs))) s ≡ outcome_of k
        (run k (before s.number (older ++ c ∷ xs))) s) s newer
        right
        (λ xs ys r st. newer_stands k older c xs s ys r st) rising stand

-- without a command on which none depends, each survivor ends as it did
pub outcomes_stand : (k : Facts) (ss : List Survivor) (c : Survivor) → Rising (first_number k) ss
    → IsAmong c ss → NoneDepends k ss c → (s : Survivor) → IsAmong s (less c.number ss) → outcome_of k
    (run k (before s.number (less c.number ss))) s ≡ outcome_of k (run k (before s.number ss)) s
outcomes_stand k ss c rising among none s h =
    on_split (λ xs. Rising (first_number k) xs → NoneDepends k xs c → IsAmong s (less c.number xs)
    → outcome_of k (run k (before s.number (less c.number xs))) s ≡ outcome_of k
    (run k (before s.number xs)) s) c ss among
    (λ older newer r no_one. split older newer r no_one) rising none h
  where
    split : (older newer : List Survivor) → Rising (first_number k) (older ++ c ∷ newer)
        → NoneDepends k (older ++ c ∷ newer) c → IsAmong s (less c.number (older ++ c ∷ newer))
        → outcome_of k (run k (before s.number (less c.number (older ++ c ∷ newer)))) s
        ≡ outcome_of k (run k (before s.number (older ++ c ∷ newer))) s
    split older newer r no_one =
        let e : less c.number (older ++ c ∷ newer) ≡ older ++ newer =
        less_split (first_number k) older c newer r in
        subst (λ (xs : List Survivor). IsAmong s xs
        → outcome_of k (run k (before s.number xs)) s ≡ outcome_of k
        (run k (before s.number (older ++ c ∷ newer))) s) (sym e)
        (stand_split k older c newer r (all_stand k (first_number k) older c newer r no_one) s)
