-- How the copies that are lent to a patron follow one another.
use Rattle.std.proofs.Common.{◌≡◌, ℕ, zero, suc, ◌+◌, ◌-◌, ◌<◌, ◌≤◌, Bool, true, false, cond, List, [], ◌∷◌}
use Rattle.std.proofs.Common.{length}
use Rattle.std.proofs.Common.{ap, refl, arith, inl, inr, sym, ◌∙◌, add-one}
use Rattle.std.specs.List.{filter, range_with_len}
use Rattle.std.proofs.lemmas.Bool.{cases_lt, cases_Bool}
use Rattle.std.specs.FinMap.{get}
use Rattle.hd_loans.specs.LoansValue.{LoansMap}
use Rattle.hd_rules.specs.declared.limits.TheConstants.{MOST_COPIES}
use Rattle.hd_rules.specs.Choose.{count_below}
use Rattle.hd_loans.specs.Counts.{loans_of}
use Rattle.hd_loans.specs.Lent.{is_lent_to, lent_to, lent_from}
use Rattle.hd_loans.specs.Links.{AreKnown, LeadsOn}
use Rattle.hd_loans.proofs.LinkedLemmas.{lent_known}

-- a range begins with its first number
range-step : (from n m : ℕ) → n ≡ suc m → range_with_len from n ≡ from ∷ range_with_len (from + 1) m
range-step from n m e = ap (range_with_len from) e

-- the first copy is one of them or isn't, and the others come after it
pub lent_from-step : (m : LoansMap) (n p c : ℕ) → c < n →
    lent_from m n p c ≡ cond (is_lent_to m p c) (c ∷ lent_from m n p (c + 1)) (lent_from m n p (c + 1))
lent_from-step m n p c l = ap (filter (is_lent_to m p)) (range-step c (n - c) (n - (c + 1)) (omega arith))

-- past the last copy there are none
pub lent_from-past : (m : LoansMap) (n p c : ℕ) → n ≤ c → lent_from m n p c ≡ []
lent_from-past m n p c l = ap (λ k. filter (is_lent_to m p) (range_with_len c k)) none
  where
    none : n - c ≡ 0
    none = omega arith

-- the copies up to one are left out where they aren't lent to the patron
skip : (m : LoansMap) (n p d from to : ℕ) → from + d ≡ to →
    ((q : ℕ) → from ≤ q → q < to → is_lent_to m p q ≡ false) → lent_from m n p from ≡ lent_from m n p to
skip m n p zero from to e none = let same : from ≡ to = omega arith in ap (lent_from m n p) same
skip m n p (suc d) from to e none = elim (cases_lt from n) [
  | inl small ↦
      let here : is_lent_to m p from ≡ false = none from (omega arith) (omega arith)
      in lent_from-step m n p from small
      ∙ rw here (skip m n p d (from + 1) to (omega arith) (λ q a b. none q (omega arith) b))
  | inr past ↦ lent_from-past m n p from past ∙ sym (lent_from-past m n p to (omega arith))
]

-- what comes from a number on is what comes from where the link leads
pub lent_from-linked : (m : LoansMap) (n p from link : ℕ) → LeadsOn (is_lent_to m p) from link →
    lent_from m n p from ≡ lent_from m n p link
lent_from-linked m n p from link l =
    let up : from ≤ link = l.onward in skip m n p (link - from) from link (omega arith) l.first

-- and from the first copy on it is all
pub lent_to-linked : (m : LoansMap) (n p link : ℕ) → LeadsOn (is_lent_to m p) 0 link →
    lent_from m n p link ≡ lent_to m n p
lent_to-linked m n p link l =
    sym (lent_from-linked m n p 0 link l) ∙ ap (λ k. filter (is_lent_to m p) (range_with_len 0 k)) whole
  where
    whole : n - 0 ≡ n
    whole = omega arith

-- a copy that is lent is the first of those from it on
pub lent_from-lent : (m : LoansMap) (n ps p c : ℕ) → AreKnown m n ps → is_lent_to m p c ≡ true →
    lent_from m n p c ≡ c ∷ lent_from m n p (c + 1)
lent_from-lent m n ps p c a is = lent_from-step m n p c (lent_known m n ps p c a is).0 ∙ rw is refl

-- at the end of the list there are none
pub lent_from-end : (m : LoansMap) (n ps p link : ℕ) → AreKnown m n ps → MOST_COPIES ≤ link →
    lent_from m n p link ≡ []
lent_from-end m n ps p link a l = elim (cases_lt link n) [
  | inl small ↦
      skip m n p (n - link) link n (omega arith) (λ q low high. none q low)
      ∙ lent_from-past m n p n (omega arith)
  | inr past ↦ lent_from-past m n p link past
]
  where
    none : (q : ℕ) → link ≤ q → is_lent_to m p q ≡ false
    none q low = elim (cases_Bool (is_lent_to m p q)) [
      | inl is ↦ absurd (let known = (lent_known m n ps p q a is).1 in let no : ⊥ = omega arith in no)
      | inr well ↦ well
    ]

-- those that pass among numbers in a row, and those below them, are those below the end
counted_from : (t : ℕ → Bool) (n from : ℕ) →
    length (filter t (range_with_len from n)) + count_below t from ≡ count_below t (from + n)
counted_from t zero from = let e : from + 0 ≡ from = omega arith in rw e (omega arith)
counted_from t (suc n) from =
    let e : from + suc n ≡ (from + 1) + n = omega arith
    in elim (cases_Bool (t from)) [
      | inl is ↦
          let one : count_below t (from + 1) ≡ 1 + count_below t from = rw (add-one, is) refl
          in rw (e, is) (omega (arith, counted_from t n (from + 1), one))
      | inr not_it ↦
          let none : count_below t (from + 1) ≡ count_below t from = rw (add-one, not_it) (omega arith)
          in rw (e, not_it) (omega (arith, counted_from t n (from + 1), none))
    ]

-- a patron's list has as many copies as the patron has loans
pub lent_to-count : (m : LoansMap) (n p : ℕ) → length (lent_to m n p) ≡ loans_of m n p
lent_to-count m n p =
    let e : 0 + n ≡ n = omega arith
    in omega (arith, counted_from (is_lent_to m p) n 0, ap (count_below (is_lent_to m p)) e)
