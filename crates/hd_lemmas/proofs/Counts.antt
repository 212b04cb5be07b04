-- The numbers below another that pass a test, counted.
use Rattle.std.proofs.Common.{◌≡◌, ◌≢◌, ℕ, zero, suc, ◌+◌, ◌<◌, ◌≤◌, Bool, true, false, cond, refl, arith}
use Rattle.std.proofs.Common.{inl, inr}
use Rattle.std.proofs.lemmas.Bool.{cases_lt}
use Rattle.hd_rules.specs.Choose.{count_below}

-- what a number counts for
abbrev pub one : Bool → ℕ
one b = cond b 1 0

-- tests that agree have one count
pub count_below-same : (t u : ℕ → Bool) (n : ℕ) → ((k : ℕ) → k < n → u k ≡ t k)
    → count_below u n ≡ count_below t n
count_below-same t u zero h = refl
count_below-same t u (suc n) h = rw (h n (omega arith), count_below-same t u n (λ k l. h k (omega arith)))

-- tests that differ at one number alone have counts that differ by it alone
pub count_below-changed : (t u : ℕ → Bool) (n k : ℕ) → k < n → ((q : ℕ) → q ≢ k → u q ≡ t q) →
    count_below u n + one (t k) ≡ count_below t n + one (u k)
count_below-changed t u zero k l h = absurd (omega arith)
count_below-changed t u (suc n) k l h = elim (cases_lt k n) [
  | inl below ↦ rw (h n (omega arith)) (omega (arith, count_below-changed t u n k below h))
  | inr above ↦
      let at : k ≡ n = omega arith
      in rw at (omega (arith, count_below-same t u n (λ q m. h q (omega arith))))
]

-- no more are counted than there are
pub count_below-le : (t : ℕ → Bool) (n : ℕ) → count_below t n ≤ n
count_below-le t zero = omega arith
count_below-le t (suc n) = grind (arith, count_below-le t n)

-- where one number fails, not all are counted
pub count_below-free : (t : ℕ → Bool) (n k : ℕ) → k < n → t k ≡ false → count_below t n < n
count_below-free t zero k l e = absurd (omega arith)
count_below-free t (suc n) k l e = elim (cases_lt k n) [
  | inl below ↦ grind (arith, count_below-free t n k below e)
  | inr above ↦
      let at : k ≡ n = omega arith
      in rw (← at, e) (omega (arith, count_below-le t k))
]

-- where none passes, none is counted
pub count_below-none : (t : ℕ → Bool) (n : ℕ) → ((k : ℕ) → k < n → t k ≡ false) → count_below t n ≡ 0
count_below-none t zero h = refl
count_below-none t (suc n) h = rw (h n (omega arith), count_below-none t n (λ k l. h k (omega arith)))

-- where one number passes, the count isn't 0
pub count_below-some : (t : ℕ → Bool) (n k : ℕ) → k < n → t k ≡ true → 1 ≤ count_below t n
count_below-some t zero k l e = absurd (omega arith)
count_below-some t (suc n) k l e = elim (cases_lt k n) [
  | inl below ↦ grind (arith, count_below-some t n k below e)
  | inr above ↦
      let at : k ≡ n = omega arith
      in rw (← at, e) (omega arith)
]
