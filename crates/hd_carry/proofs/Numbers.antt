-- Cells after a write, and numbers.
use Rattle.std.proofs.Common.{◌≡◌, refl, sym, ◌∙◌, ap, ℕ, suc, ◌<◌, ◌⊎◌, inl, inr, Bool, true, false, ◌==◌}
use Rattle.std.proofs.Common.{◌&&◌, cond, Option}
use Rattle.std.proofs.Common.{Some, None, nat_lt, eq-eqb, eqb-true, arith}
use Rattle.std.proofs.lemmas.Bool.{cases_Bool}
use Rattle.std.proofs.lemmas.Bool.Decides.{nat_tests}
use Rattle.std.proofs.lemmas.Option.{same_Some}
use Rattle.hd_rules.specs.declared.holds.Hold.{Hold}
use Rattle.hd_rules.specs.declared.copies.CopyState.{CopyState}
use Rattle.hd_lemmas.proofs.Rules.{copy_cases}
use Rattle.hd_lemmas.proofs.Tests.{number_not, and_left, and_right, both_true}

pub none_hold : (x : Hold) (o : Option Hold) → o ≡ None → o ≡ Some x → ⊥
none_hold x o e f = let never : Some x ≡ None = sym f ∙ e in cc

pub none_number : (x : ℕ) (o : Option ℕ) → o ≡ None → o ≡ Some x → ⊥
none_number x o e f = let never : Some x ≡ None = sym f ∙ e in cc

pub is_none_by : (o : Option Hold) → ((h : Hold) → o ≡ Some h → ⊥) → o ≡ None
is_none_by None never = refl
is_none_by (Some h) never = absurd (never h refl)

pub not_less : (n : ℕ) → n < n → ⊥
not_less n l = absurd (omega (arith, l))

pub below_next : (c n : ℕ) → c < n → c < suc n
below_next c n l = omega (arith, l)

pub this_below_next : (n : ℕ) → n < suc n
this_below_next n = omega arith

pub below_or_this : (c n : ℕ) → c < suc n → (c < n) ⊎ (c ≡ n)
below_or_this c n l = elim (cases_Bool (c == n)) [
  | inl t ↦ inr (eqb-true c n t)
  | inr f ↦ inl (let apart : (c ≡ n → ⊥) = λ e. differ (eq-eqb c n e) f in omega (arith, l, apart))
]
  where
    differ : {b : Bool} → b ≡ true → b ≡ false → ⊥
    differ t f = cc

-- what the hold of t and p, or another, is after that one becomes o
pub hold_cases : (P : Option Hold → Type 0) (t u : ℕ) (p q : ℕ) (o v : Option Hold) → (t ≡ u → p ≡ q → P o)
    → ((t ≡ u → p ≡ q → ⊥) → P v) → P (cond ((t == u) && (p == q)) o v)
hold_cases P t u p q o v here there = by_test ((t == u) && (p == q)) refl
  where
    by_test : (b : Bool) → ((t == u) && (p == q)) ≡ b → P (cond b o v)
    by_test true is = here (eqb-true t u (and_left _ _ is)) (eqb-true p q (and_right _ _ is))
    by_test false is = there
        (λ e f. let yes : ((t == u) && (p == q)) ≡ true = both_true _ _ (eq-eqb t u e) (eq-eqb p q f) in cc)

pub copy_here : (c x : ℕ) (s v : CopyState) → c ≡ x → cond (c == x) s v ≡ s
copy_here c x s v e = copy_cases (λ w. w ≡ s) c x s v (λ is. refl) (λ apart. absurd (number_not c x apart e))

pub hold_here : (t u : ℕ) (p q : ℕ) (o v : Option Hold) → t ≡ u → p ≡ q → cond ((t == u) && (p == q)) o v ≡ o
hold_here t u p q o v e f = hold_cases (λ w. w ≡ o) t u p q o v (λ i j. refl) (λ apart. absurd (apart e f))

pub hold_there : (t u : ℕ) (p q : ℕ) (o v : Option Hold) → (t ≡ u → p ≡ q → ⊥)
    → cond ((t == u) && (p == q)) o v ≡ v
hold_there t u p q o v apart = hold_cases (λ w. w ≡ v) t u p q o v (λ e f. absurd (apart e f)) (λ is. refl)

-- a copy, where its number is below n
abbrev pub copy_below : ℕ → Option ℕ → Option ℕ
copy_below n None = None
copy_below n (Some c) = cond (nat_lt c n) (Some c) None

pub below_zero : (o : Option ℕ) → copy_below 0 o ≡ None
below_zero None = refl
below_zero (Some c) = grind (arith, nat_tests)

pub below_all : (n : ℕ) (o : Option ℕ) → ((c : ℕ) → o ≡ Some c → c < n) → copy_below n o ≡ o
below_all n None all = refl
below_all n (Some c) all = let l : c < n = all c refl in grind (arith, nat_tests, l)

pub below_other : (n : ℕ) (o : Option ℕ) → (o ≡ Some n → ⊥) → copy_below (suc n) o ≡ copy_below n o
below_other n None other = refl
below_other n (Some c) other = let apart : (c ≡ n → ⊥) = λ e. other (ap (λ (m : ℕ). Some m) e) in
    grind (arith, nat_tests, apart)

pub below_this : (n : ℕ) (o : Option ℕ) → o ≡ Some n → copy_below n o ≡ None
below_this n None is = refl
below_this n (Some c) is = let same : c ≡ n = same_Some c n is in grind (arith, nat_tests, same)

pub below_next_this : (n : ℕ) (o : Option ℕ) → o ≡ Some n → copy_below (suc n) o ≡ Some n
below_next_this n None is = is
below_next_this n (Some c) is = let same : c ≡ n = same_Some c n is in grind (arith, nat_tests, same)

-- one pair of numbers, or two
pub same_or_apart : (t u p q : ℕ) → ((t ≡ u) × (p ≡ q)) ⊎ (t ≡ u → p ≡ q → ⊥)
same_or_apart t u p q = by_test (t == u) refl (p == q) refl
  where
    by_test : (a : Bool) → (t == u) ≡ a → (b : Bool) → (p == q) ≡ b
        → ((t ≡ u) × (p ≡ q)) ⊎ (t ≡ u → p ≡ q → ⊥)
    by_test true one true two = inl (eqb-true t u one, eqb-true p q two)
    by_test true one false two = inr (λ e f. number_not p q two f)
    by_test false one b two = inr (λ e f. number_not t u one e)
