-- What a desk has in a cell after another value is put there.
use Rattle.std.proofs.Common.{ℕ, eq-eqb, ◌≡◌, refl, ap, Bool, true, false, ◌==◌, ◌&&◌, cond, Option}
use Rattle.hd_rules.specs.Words.{Hold, CopyState}
use Rattle.hd_rules.proofs.Tests.{and_left, and_right, both_true, number_is}

pub other_hold : (t u : ℕ) (p q : ℕ) → ((t == u) && (p == q)) ≡ false → t ≡ u → p ≡ q → ⊥
other_hold t u p q is e f =
    let both : ((t == u) && (p == q)) ≡ true =
    both_true _ _ (eq-eqb t u (ap (λ (y : ℕ). y) e)) (eq-eqb p q (ap (λ (y : ℕ). y) f)) in cc

-- what the copy c, or another, has after c gets the value s
pub copy_cases : (P : CopyState → Type 0) (c x : ℕ) (s v : CopyState) → (c ≡ x → P s)
    → ((c == x) ≡ false → P v) → P (cond (c == x) s v)
copy_cases P c x s v here there = by_test (c == x) refl
  where
    by_test : (b : Bool) → (c == x) ≡ b → P (cond b s v)
    by_test true is = here (number_is c x is)
    by_test false is = there is

-- what the hold of t and p, or another, is after that one becomes o
pub hold_cases : (P : Option Hold → Type 0) (t u : ℕ) (p q : ℕ) (o v : Option Hold) → (t ≡ u → p ≡ q → P o)
    → (((t == u) && (p == q)) ≡ false → P v) → P (cond ((t == u) && (p == q)) o v)
hold_cases P t u p q o v here there = by_test ((t == u) && (p == q)) refl
  where
    by_test : (b : Bool) → ((t == u) && (p == q)) ≡ b → P (cond b o v)
    by_test true is = here (number_is t u (and_left _ _ is)) (number_is p q (and_right _ _ is))
    by_test false is = there is
