-- Counts of numbers, and of the holds of a queue by patron.
use Rattle.std.proofs.Common.{◌≡◌, ◌≢◌, ℕ, ◌+◌, ◌<◌, Bool, true, false, cond, List, [], ◌∷◌, Option, None}
use Rattle.std.proofs.Common.{Some, refl, ap, sym, ◌∙◌}
use Rattle.std.proofs.Common.{inl, inr, arith, length, zero, suc, eq-eqb}
use Rattle.std.specs.List.{count_by}
use Rattle.std.proofs.lemmas.Bool.Decides.{nat_tests}
use Rattle.std.proofs.lemmas.Grind.{common_steps}
use Rattle.std.proofs.lemmas.Bool.{cases_lt}
use Rattle.std.proofs.lemmas.List.Sums.{sum_by-cons}
use Rattle.hd_rules.specs.declared.holds.Hold.{Hold}
use Rattle.hd_rules.specs.Choose.{count_below}
use Rattle.hd_queue.specs.Holds.{hold_of, HasPatronsOnce}
use Rattle.hd_holds.specs.Held.{AreOfPatrons}

pub count-same : (f g : ℕ → Bool) (m : ℕ) → ((n : ℕ) → n < m → f n ≡ g n) → count_below f m ≡ count_below g m
count-same f g zero same = refl
count-same f g (suc m) same =
    λ i. cond (same m (omega arith) i) 1 0 + count-same f g m (λ n l. same n (omega arith)) i

pub count-none : (m : ℕ) → count_below (λ n. false) m ≡ 0
count-none zero = refl
count-none (suc m) = omega (arith, count-none m)

-- two tests that differ at one number alone, which passes the first and not the second
pub count-differs : (f g : ℕ → Bool) (p m : ℕ) → g p ≡ false → ((n : ℕ) → n ≢ p → f n ≡ g n) → p < m →
    count_below f m ≡ cond (f p) 1 0 + count_below g m
count-differs f g p zero none same l = absurd (omega arith)
count-differs f g p (suc m) none same l = elim (cases_lt p m) [
  | inl below ↦ (let here : f m ≡ g m = same m (λ e. omega arith) in
      let rest : count_below f m ≡ cond (f p) 1 0 + count_below g m = count-differs f g p m none same below in
      rw (here, rest) (omega arith))
  | inr there ↦ (let at : m ≡ p = omega arith in
      let rest : count_below f m ≡ count_below g m = count-same f g m (λ n l. same n (λ e. omega arith)) in
      let off : g m ≡ false = ap g at ∙ none in
      let on : f m ≡ f p = ap f at in
      rw (rest, off, on) (omega arith))
]

-- the patron's hold is the first, or one of the others
pub hold_of-other : (h : Hold) (hs : List Hold) (n : ℕ) → n ≢ h.patron → hold_of (h ∷ hs) n ≡ hold_of hs n
hold_of-other h hs n other = grind (arith, nat_tests, common_steps, other)

pub hold_of-here : (h : Hold) (hs : List Hold) → hold_of (h ∷ hs) h.patron ≡ Some h
hold_of-here h hs = rw (eq-eqb h.patron h.patron refl) refl

-- the holds of a queue that pass, counted by patron
pub count-holds : (test : Option Hold → Bool) → test None ≡ false → (hs : List Hold) (m : ℕ)
    → HasPatronsOnce hs → AreOfPatrons m hs →
    count_below (λ n. test (hold_of hs n)) m ≡ count_by (λ h. test (Some h)) hs
count-holds test none [] m once patrons = rw none (count-none m)
count-holds test none (h ∷ hs) m once patrons =
    let off : test (hold_of hs h.patron) ≡ false = ap test once.0 ∙ none in
    let on : test (hold_of (h ∷ hs) h.patron) ≡ test (Some h) = ap test (hold_of-here h hs) in
    let split : count_below (λ n. test (hold_of (h ∷ hs) n)) m
    ≡ cond (test (hold_of (h ∷ hs) h.patron)) 1 0 + count_below
    (λ n. test (hold_of hs n)) m =
    count-differs (λ n. test (hold_of (h ∷ hs) n)) (λ n. test (hold_of hs n)) h.patron m off
    (λ n other. ap test (hold_of-other h hs n other)) patrons.0 in
    let rest : count_below (λ n. test (hold_of hs n)) m
    ≡ count_by (λ k. test (Some k)) hs = count-holds test none hs m once.1 patrons.1 in
    split ∙ (λ i. cond (on i) 1 0 + rest i) ∙ sym (sum_by-cons (λ k. cond (test (Some k)) 1 0) h hs)

-- all of a list are counted
pub count-all : (hs : List Hold) → count_by (λ h. true) hs ≡ length hs
count-all [] = refl
count-all (h ∷ hs) = sum_by-cons (λ (k : Hold). 1) h hs ∙ omega (arith, count-all hs)
