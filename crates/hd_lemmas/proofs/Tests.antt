-- Bool, and tests of numbers.
use Rattle.std.proofs.Common.{◌≡◌, ℕ, ◌==◌, sym, ◌∙◌, inl, inr}
use Rattle.std.proofs.lemmas.Bool.{cases_Bool, eqb-true, eqb-false, eq-eqb}
pub use Rattle.hd_rules.proofs.Tests.{number_self, number_not, and_left, and_right, both_true}

-- a test of numbers, from the other side
pub turned : (m n : ℕ) → (m == n) ≡ (n == m)
turned m n = elim (cases_Bool (m == n)) [
  | inl is ↦ is ∙ sym (eq-eqb n m (sym (eqb-true m n is)))
  | inr not_is ↦ elim (cases_Bool (n == m)) [
    | inl is ↦ absurd (eqb-false m n not_is (sym (eqb-true n m is)))
    | inr other ↦ not_is ∙ sym other
  ]
]
