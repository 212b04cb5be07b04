-- The place that a question gives is at least 1, and free.
use Rattle.std.proofs.Common.{arith, ◌≡◌, refl, sym, ◌∙◌, ap, subst, ℕ, ◌+◌, ◌<◌, ◌≤◌, ◌⊎◌, inl, inr, zero}
use Rattle.std.proofs.Common.{suc, Bool, true, false, ◌==◌}
use Rattle.std.proofs.Common.{cond, eq-eqb}
use Rattle.std.specs.Prelude.{max}
use Rattle.std.proofs.lemmas.Bool.{eqb-true}
use Rattle.hd_rules.specs.Words.{HoldPlace, CopyState, Shelf, OnLoan, OnHoldShelf, InTransit}
use Rattle.hd_rules.specs.Facts.{Facts}
use Rattle.hd_rules.specs.Desk.{Desk}
use Rattle.hd_rules.specs.Choose.{count_below, stands_at, LeastFree}
use Rattle.hd_rules.specs.Find.{is_free, free_from, place_there, highest, place}
use Rattle.hd_rules.proofs.Fits.{Welcome}
use Rattle.hd_rules.proofs.Tests.{and_left, and_right, both_true, number_is}

-- a number below a later one is the last before it, or below that
pub last_or_below : (m n : ℕ) → m < suc n → (m ≡ n) ⊎ (m < n)
last_or_below m n lt = by_test (m == n) refl
  where
    by_test : (t : Bool) → (m == n) ≡ t → (m ≡ n) ⊎ (m < n)
    by_test true is = inl (eqb-true m n is)
    by_test false is =
        inr (let ne : m ≡ n → ⊥ = λ e. (let y : (m == n) ≡ true = eq-eqb m n e in cc) in omega arith)

under_highest : (d : Desk) (b : ℕ) (n m : ℕ) → m < n → place_there b (d.copy m) ≤ highest d b n
under_highest d b zero m lt = absurd (let no : ⊥ = omega arith in no)
under_highest d b (suc n) m lt = cases (last_or_below m n lt) (under_highest d b n m)
  where
    here : ℕ
    here = place_there b (d.copy n)

    cases : (m ≡ n) ⊎ (m < n) → (m < n → place_there b (d.copy m) ≤ highest d b n)
        → place_there b (d.copy m) ≤ max (highest d b n) here
    cases (inl e) before =
        subst (λ (x : ℕ). place_there b (d.copy x) ≤ max (highest d b n) here) (sym e)
        (let le : here ≤ max (highest d b n) here =
        omega arith in le)
    cases (inr below) before =
        let le : place_there b (d.copy m) ≤ highest d b n = before below in
        omega arith

-- where the count is 0, each number fails
none_below : (test : ℕ → Bool) (n m : ℕ) → count_below test n ≡ 0 → m < n → test m ≡ false
none_below test zero m none lt = absurd (let no : ⊥ = omega arith in no)
none_below test (suc n) m none lt =
    cases (last_or_below m n lt) (test n) refl none (λ all below. none_below test n m all below)
  where
    cases : (m ≡ n) ⊎ (m < n) → (b : Bool) → test n ≡ b → cond b 1 0 + count_below test n ≡ 0
        → (count_below test n ≡ 0 → m < n → test m ≡ false) → test m ≡ false
    cases at true is all before = absurd (let no : ⊥ = omega arith in no)
    cases (inl e) false is all before = ap test e ∙ is
    cases (inr below) false is all before =
        before (let same : count_below test n ≡ 0 = omega arith in same) below

-- the place found is free, or the one after the last tried
pub record Found (k : Facts) (d : Desk) (b : ℕ) (after : ℕ) (first : ℕ) (f : ℕ) : Type 0 where
  pub from_first : first ≤ f
  pub free : (is_free k d b f ≡ true) ⊎ (f ≡ after)
  pub least : (g : ℕ) → first ≤ g → g < f → is_free k d b g ≡ false

pub first_or_later : (first g : ℕ) → first ≤ g → (first ≡ g) ⊎ (first + 1 ≤ g)
first_or_later first g le = by_test (first == g) refl
  where
    by_test : (t : Bool) → (first == g) ≡ t → (first ≡ g) ⊎ (first + 1 ≤ g)
    by_test true same = inl (eqb-true first g same)
    by_test false other = inr
        (let ne : first ≡ g → ⊥ = λ e. (let y : (first == g) ≡ true = eq-eqb first g e in cc) in omega arith)

found : (k : Facts) (d : Desk) (b : ℕ) (tries first : ℕ)
    → Found k d b (first + tries) first (free_from k d b tries first)
found k d b zero first =
    record {
      from_first = omega arith;
      free = inr (omega arith);
      least = λ g le lt. absurd (let none : ⊥ = omega arith in none);
    }
found k d b (suc tries) first = by_test (is_free k d b first) refl (found k d b tries (first + 1))
  where
    below : is_free k d b first ≡ false → (f : ℕ)
        → ((g : ℕ) → first + 1 ≤ g → g < f → is_free k d b g ≡ false) → (g : ℕ) → g < f
        → (first ≡ g) ⊎ (first + 1 ≤ g) → is_free k d b g ≡ false
    below taken f rest g lt (inl e) = subst (λ (x : ℕ). is_free k d b x ≡ false) e taken
    below taken f rest g lt (inr up) = rest g up lt

    by_test : (t : Bool) → is_free k d b first ≡ t
        → Found k d b ((first + 1) + tries) (first + 1) (free_from k d b tries (first + 1))
        → Found k d b (first + suc tries) first (cond t first (free_from k d b tries (first + 1)))
    by_test true is r = record {
      from_first = omega arith;
      free = inl is;
      least = λ g le lt. absurd (let none : ⊥ = omega arith in none);
    }
    by_test false is r =
        let le : first + 1 ≤ free_from k d b tries (first + 1) = r.from_first in
        let same : (first + 1) + tries ≡ first + suc tries = omega arith in
        record {
          from_first = omega arith;
          free = subst (λ (x : ℕ). (is_free k d b (free_from k d b tries (first + 1)) ≡ true)
              ⊎ (free_from k d b tries (first + 1) ≡ x)) same r.free;
          least = λ g from lt. below is (free_from k d b tries (first + 1)) r.least g lt
              (first_or_later first g from);
        }

stands_there : (b : ℕ) (r : HoldPlace) (f : ℕ) → b ≡ r.branch → f ≡ r.place
    → stands_at b f (OnHoldShelf r) ≡ true
stands_there b r f branch place =
    both_true _ _ (eq-eqb r.branch b (sym branch)) (eq-eqb r.place f (sym place))

its_place : (b : ℕ) (r : HoldPlace) → b ≡ r.branch → place_there b (OnHoldShelf r) ≡ r.place
its_place b r branch = rw (eq-eqb r.branch b (sym branch)) refl

-- no copy of the catalogue stands at the place found
nobody_there : (k : Facts) (d : Desk) (b : ℕ) (f : ℕ)
    → (is_free k d b f ≡ true) ⊎ (f ≡ 1 + highest d b k.copies) → (x : ℕ) (r : HoldPlace) → x < k.copies
    → d.copy x ≡ OnHoldShelf r → b ≡ r.branch → f ≡ r.place → ⊥
nobody_there k d b f (inl free) x r in_x is branch place =
    let no : stands_at b f (d.copy x) ≡ false =
    none_below (λ n. stands_at b f (d.copy n)) k.copies x (eqb-true _ _ free) in_x in
    let at : stands_at b f (d.copy x) ≡ true = ap (λ (s : CopyState). stands_at b f s) is
    ∙ stands_there b r f branch place in
    cc
nobody_there k d b f (inr last) x r in_x is branch place =
    let le : place_there b (d.copy x) ≤ highest d b k.copies = under_highest d b k.copies x in_x in
    let at : place_there b (d.copy x) ≡ r.place = ap (λ (s : CopyState). place_there b s) is
    ∙ its_place b r branch in
    let no : ⊥ = omega arith in no

-- what stands at a place is on the hold shelf there
stood : (b : ℕ) (f : ℕ) (s : CopyState) → stands_at b f s ≡ true
    → ((r : HoldPlace) → s ≡ OnHoldShelf r → b ≡ r.branch → f ≡ r.place → ⊥) → ⊥
stood b f (OnHoldShelf r) is nobody =
    nobody r refl (sym (number_is r.branch b (and_left _ _ is))) (sym (eqb-true r.place f (and_right _ _ is)))
stood b f (Shelf x) is nobody = cc
stood b f (OnLoan l) is nobody = cc
stood b f (InTransit t) is nobody = cc

-- a copy may take the branch's place
pub place_is_free : (k : Facts) (d : Desk) (c : ℕ) (b : ℕ) (p : ℕ)
    → Welcome k d.copy c (record { branch = b; place = place k d b; patron = p })
place_is_free k d c b p = record {
  from_one = (found k d b (highest d b k.copies) 1).from_first;
  alone = λ x r in_c in_x other is branch place. nobody_there k d b _
      (found k d b (highest d b k.copies) 1).free x r in_x is branch place;
}

-- where the count isn't 0, some number passes
some_below : (test : ℕ → Bool) (n : ℕ) → (count_below test n == 0) ≡ false
    → (m : ℕ) × (m < n) × (test m ≡ true)
some_below test zero some = cc
some_below test (suc n) some = cases (test n) refl some (some_below test n)
  where
    cases : (b : Bool) → test n ≡ b → ((cond b 1 0 + count_below test n) == 0) ≡ false
        → ((count_below test n == 0) ≡ false → (m : ℕ) × (m < n) × (test m ≡ true))
        → (m : ℕ) × (m < suc n) × (test m ≡ true)
    cases true is some lower = (n, omega arith, is)
    cases false is some lower =
        let same : 0 + count_below test n ≡ count_below test n = omega arith in
        let r : (m : ℕ) × (m < n) × (test m ≡ true) = lower (subst (λ (x : ℕ). (x == 0) ≡ false) same some) in
        (r.0, (let lt : r.0 < n = r.1 in omega arith), r.2)

pub place_is_least : (k : Facts) (d : Desk) (b : ℕ) → LeastFree k d b (place k d b)
place_is_least k d b = record {
  from_one = f.from_first;
  free = λ c in_c. by_test c in_c (stands_at b (place k d b) (d.copy c)) refl;
  least = λ g from lt.
      let r : (m : ℕ) × (m < k.copies) × (stands_at b g (d.copy m) ≡ true) =
      some_below (λ n. stands_at b g (d.copy n)) k.copies (f.least g from lt) in
      (r.0, r.1, r.2);
}
  where
    f : Found k d b (1 + highest d b k.copies) 1 (place k d b)
    f = found k d b (highest d b k.copies) 1

    by_test : (c : ℕ) → c < k.copies → (t : Bool) → stands_at b (place k d b) (d.copy c) ≡ t → t ≡ false
    by_test c in_c false is = refl
    by_test c in_c true is =
        absurd (stood b (place k d b) (d.copy c) is
        (λ r e branch spot. nobody_there k d b (place k d b) f.free c r in_c e branch spot))
