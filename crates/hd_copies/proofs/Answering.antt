-- The answers of the indexes are those of the rules.
use Rattle.std.proofs.Common.{◌≡◌, ◌≢◌, ℕ, zero, suc, ◌+◌, ◌<◌, ◌≤◌, ◌==◌, ◌&&◌, Bool, true, false, nat_lt}
use Rattle.std.proofs.Common.{Option, None, Some, List, get_or, refl, ap, sym}
use Rattle.std.proofs.Common.{◌∙◌, inl, inr, arith, eq-eqb}
use mir.Val.{bool_byte}
use Rattle.std.proofs.lemmas.Bool.{cases_lt, ne_eqb}
use Rattle.std.proofs.lemmas.Bool.Decides.{nat_tests}
use Rattle.std.specs.Prelude.{MatchOption}
use Rattle.std.specs.List.{slice_get, filter, range_with_len}
use Rattle.std.specs.FinMap.{get}
use Rattle.hd_rules.specs.declared.holds.HoldKind.{HoldKind}
use Rattle.hd_rules.specs.declared.holds.HoldKind.TheVariants.{Any, One, AtBranch}
use Rattle.hd_rules.specs.declared.copies.CopyState.{CopyState}
use Rattle.hd_rules.specs.declared.copies.CopyState.TheVariants.{Shelf, OnLoan, OnHoldShelf, InTransit}
use Rattle.hd_rules.specs.Facts.{Facts}
use Rattle.hd_rules.specs.Desk.{Desk}
use Rattle.hd_rules.specs.Choose.{admits, count_below, is_lent_to, is_on_shelf, loans, on_shelf, stands_at}
use Rattle.hd_rules.specs.Find.{place}
use Rattle.hd_rules.specs.Laws.{PlaceIsTheLeastFree}
use Rattle.hd_shelf.specs.Shelf.{LeastFree as IsLeast}
use Rattle.hd_loans.specs.Counts.{is_loan_to, loans_of}
use Rattle.hd_loans.specs.Lent.{lent_to as lent_by}
use Rattle.hd_lemmas.proofs.Counts.{one, count_below-changed, count_below-none, count_below-same}
use Rattle.hd_open_shelf.specs.Counts.{of_home, of_title}
use Rattle.hd_copies.specs.IndexesValue.{IndexesValue}
use Rattle.hd_copies.specs.Standing.{AreStates, IsFree, StandsAt, lent_to, stands_ready, state_in}
use Rattle.hd_copies.specs.Indexing.{copy_at, is_placed, is_on_open_shelf, loan_of, no_shelf, shelf_count}
use Rattle.hd_copies.specs.Keeping.{AreKept}
use Rattle.hd_copies.proofs.Moving.{found_in}
use Rattle.hd_copies.proofs.Indexed.{placed_in}
use Rattle.hd_copies.proofs.Counting.{is_counted}
use Rattle.hd_lemmas.proofs.Options.{some_number}

lent : (p : ℕ) (v : CopyState) → is_loan_to p (loan_of (Some v)) ≡ is_lent_to p v
lent p (OnLoan l) = refl
lent p (Shelf b) = refl
lent p (OnHoldShelf s) = refl
lent p (InTransit t) = refl

-- the copy of the desk is the entry of the list
at_desk : (k : Facts) (states : List CopyState) (d : Desk) → AreStates k states → d.copy ≡ state_in states
    → (n : ℕ) → n < k.copies → slice_get states n ≡ Some (d.copy n)
at_desk k states d fit e n l = found_in states n (omega (arith, fit.copies)) ∙ (λ i. Some (sym e i n))

-- a patron's loans
pub loans-are : (k : Facts) (states : List CopyState) (x : IndexesValue) (d : Desk) (p count : ℕ)
    → AreKept k states x → d.copy ≡ state_in states → count ≡ loans_of x.loans.loans x.loans.copies p
    → count ≡ loans k d p
loans-are k states x d p count kept e is =
    is ∙ ap (count_below (λ c. is_loan_to p (get x.loans.loans c))) kept.indexed.loans.copies_in
    ∙ count_below-same (λ n. is_lent_to p (d.copy n)) (λ c. is_loan_to p (get x.loans.loans c)) k.copies
    (λ n l. ap (is_loan_to p) (kept.indexed.loans.loan n)
    ∙ ap (λ (o : Option CopyState). is_loan_to p (loan_of o)) (at_desk k states d kept.fit e n l)
    ∙ lent p (d.copy n))

-- tests that agree keep the same numbers of a row
filter-alike : (t u : ℕ → Bool) (n from : ℕ) → ((q : ℕ) → q < from + n → t q ≡ u q) →
    filter t (range_with_len from n) ≡ filter u (range_with_len from n)
filter-alike t u zero from same = refl
filter-alike t u (suc n) from same =
    rw (same from (omega arith), filter-alike t u n (from + 1) (λ q l. same q (omega arith))) refl

-- the list of a patron's loans
pub lent-are : (k : Facts) (states : List CopyState) (x : IndexesValue) (p : ℕ) (copies : List ℕ)
    → AreKept k states x → copies ≡ lent_by x.loans.loans x.loans.copies p
    → copies ≡ lent_to k (state_in states) p
lent-are k states x p copies kept is =
    is ∙ ap (λ n. filter (λ c. is_loan_to p (get x.loans.loans c)) (range_with_len 0 n))
    kept.indexed.loans.copies_in
    ∙ filter-alike (λ c. is_loan_to p (get x.loans.loans c))
    (λ c. is_lent_to p (state_in states c)) k.copies 0
    (λ n l. ap (is_loan_to p) (kept.indexed.loans.loan n)
    ∙ ap (λ (o : Option CopyState). is_loan_to p (loan_of o))
    (found_in states n (omega (arith, kept.fit.copies)))
    ∙ lent p (state_in states n))

-- the copies on open shelves
pub shelved-are : (k : Facts) (states : List CopyState) (d : Desk) (t : ℕ) (kind : HoldKind) (pickup : ℕ)
    → AreStates k states → d.copy ≡ state_in states
    → shelf_count k (slice_get states) t kind pickup ≡ on_shelf k d t kind pickup
shelved-are k states d t kind pickup fit e =
    count_below-same (λ n. ((k.title_of n) == t) && (admits k kind pickup n && is_on_shelf (d.copy n)))
    (is_counted k (slice_get states) t kind pickup) k.copies
    (λ n l. ap (λ (o : Option CopyState). ((k.title_of n) == t)
    && (admits k kind pickup n && is_on_open_shelf o)) (at_desk k states d fit e n l))

-- those of a title
pub title-is : (k : Facts) (states : List CopyState) (x : IndexesValue) (d : Desk) (t pickup count : ℕ)
    → AreKept k states x → d.copy ≡ state_in states → count ≡ of_title x.stock t
    → count ≡ on_shelf k d t Any pickup
title-is k states x d t pickup count kept e is =
    is ∙ kept.indexed.stock.title t pickup ∙ shelved-are k states d t Any pickup kept.fit e

-- and with this home
pub home-is : (k : Facts) (states : List CopyState) (x : IndexesValue) (d : Desk) (t pickup count : ℕ)
    → AreKept k states x → d.copy ≡ state_in states → count ≡ of_home x.stock t pickup
    → count ≡ on_shelf k d t AtBranch pickup
home-is k states x d t pickup count kept e is =
    is ∙ kept.indexed.stock.home t pickup ∙ shelved-are k states d t AtBranch pickup kept.fit e

-- where one number alone may pass, it is counted or none is
count-one : (test : ℕ → Bool) (c n : ℕ) → ((x : ℕ) → x ≢ c → test x ≡ false)
    → count_below test n ≡ one (nat_lt c n && test c)
count-one test c n only = elim (cases_lt c n) [
  | inl below ↦ (let lt : nat_lt c n ≡ true = grind (arith, nat_tests) in
      let changed = count_below-changed (λ x. false) test n c below only in
      rw lt (omega (arith, changed, count_below-none (λ x. false) n (λ k l. refl))))
  | inr above ↦ (let not_lt : (nat_lt c n && test c) ≡ false = grind (arith, nat_tests) in
      rw not_lt (count_below-none test n (λ k l. only k (λ at. omega arith))))
]

no_other : (a b : Bool) → (a && (false && b)) ≡ false
no_other true b = refl
no_other false b = refl

-- the named copy alone
pub one-is : (k : Facts) (d : Desk) (f : ℕ → CopyState) (t c pickup : ℕ) → d.copy ≡ f →
    one (stands_ready k f t c) ≡ on_shelf k d t (One c) pickup
one-is k d f t c pickup e = ap (λ (g : ℕ → CopyState). one (stands_ready k g t c)) (sym e) ∙ sym (
    count-one test c k.copies
    (λ x other. let apart : (c == x) ≡ false = ne_eqb c x (λ same. other (sym same)) in
    rw apart (no_other ((k.title_of x) == t) (is_on_shelf (d.copy x))))
    ∙ (let itself : (c == c) ≡ true = eq-eqb c c refl in rw itself refl))
  where
    test : ℕ → Bool
    test x = ((k.title_of x) == t) && ((c == x) && is_on_shelf (d.copy x))

-- the least free place
pub least-is : PlaceIsTheLeastFree
    → (k : Facts) (states : List CopyState) (x : IndexesValue) (d : Desk) (b f : ℕ) → AreKept k states x
    → b < k.branches → d.copy ≡ state_in states → IsLeast (get_or x.shelves b no_shelf).copies f
    → f ≡ place k d b
least-is law k states x d b f kept l e is =
    (law k d b f).0 (record { from_one = is.from_one; free = free; least = least })
  where
    free : (c : ℕ) → c < k.copies → stands_at b f (d.copy c) ≡ false
    free c in_c = by_test (stands_at b f (d.copy c)) refl
      where
        by_test : (t : Bool) → stands_at b f (d.copy c) ≡ t → t ≡ false
        by_test true stands = absurd (
            let placed : is_placed b f (slice_get states c) ≡ true =
            ap (is_placed b f) (at_desk k states d kept.fit e c in_c) ∙ stands in
            let some : copy_at x.shelves b f ≡ Some c = kept.indexed.shelves.found b f c l placed in
            let no : None ≡ Some c = sym is.free ∙ some in let never : ⊥ = cc in never)
        by_test false stands = refl

    least : (g : ℕ) → 1 ≤ g → g < f → (c : ℕ) × (c < k.copies) × (stands_at b g (d.copy c) ≡ true)
    least g from below =
        let taken = some_number (copy_at x.shelves b g) (is.least g from below) in
        let there =
        placed_in k states taken.0 b g kept.fit (kept.indexed.shelves.stands b g taken.0 taken.1) in
        (taken.0, there.0, (λ i. stands_at b g (e i taken.0)) ∙ there.1)

-- the copy at a place, or none
pub at-is : (k : Facts) (states : List CopyState) (x : IndexesValue) (b q : ℕ) (o : Option ℕ)
    → AreKept k states x → b < k.branches → o ≡ copy_at x.shelves b q
    → MatchOption o (IsFree k (state_in states) b q) (StandsAt k (state_in states) b q)
at-is k states x b q (Some c) kept l is =
    let there = placed_in k states c b q kept.fit (kept.indexed.shelves.stands b q c (sym is)) in
    record { known = there.0; there = there.1 }
at-is k states x b q None kept l is = λ c in_c. by_test c in_c (stands_at b q (state_in states c)) refl
  where
    by_test : (c : ℕ) → c < k.copies → (t : Bool) → stands_at b q (state_in states c) ≡ t → t ≡ false
    by_test c in_c true stands = absurd (
        let placed : is_placed b q (slice_get states c) ≡ true =
        ap (is_placed b q) (found_in states c (omega (arith, kept.fit.copies))) ∙ stands in
        let some : copy_at x.shelves b q ≡ Some c = kept.indexed.shelves.found b q c l placed in
        let no : None ≡ Some c = is ∙ some in let never : ⊥ = cc in never)
    by_test c in_c false stands = refl

-- a test as a number
pub bit-one : (b : Bool) → bool_byte b ≡ one b
bit-one true = refl
bit-one false = refl
