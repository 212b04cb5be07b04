-- What tests of numbers say, and what equal results have in common.
use Rattle.std.proofs.Common.{◌≡◌, ℕ, refl, Bool, true, false, ◌==◌, ◌&&◌, eq-eqb, Option, Some, Result, Ok}
use Rattle.std.proofs.lemmas.Bool.{eqb-true}
use Rattle.hd_rules.specs.Words.{Refusal}
use Rattle.hd_rules.specs.Ask.{Done}

pub number_is : (m n : ℕ) → (m == n) ≡ true → m ≡ n
number_is m n is = eqb-true m n is

pub number_self : (n : ℕ) → (n == n) ≡ true
number_self n = eq-eqb n n refl

-- numbers that the test tells apart aren't equal
pub number_not : (m n : ℕ) → (m == n) ≡ false → m ≡ n → ⊥
number_not m n is e = let t : (m == n) ≡ true = eq-eqb m n e in cc

pub other_number : (m n : ℕ) → (m ≡ n → ⊥) → (m == n) ≡ false
other_number m n other = by_test (m == n) refl
  where
    by_test : (b : Bool) → (m == n) ≡ b → b ≡ false
    by_test true is = absurd (other (eqb-true m n is))
    by_test false is = refl

pub and_left : (a b : Bool) → (a && b) ≡ true → a ≡ true
and_left true b h = refl
and_left false b h = h

pub and_right : (a b : Bool) → (a && b) ≡ true → b ≡ true
and_right true b h = h
and_right false b h = cc

pub both_true : (a b : Bool) → a ≡ true → b ≡ true → (a && b) ≡ true
both_true a b h g = rw h g

pub some_is : {A : Type 0} (a b : A) → (let x : Option A = Some a in x ≡ Some b) → a ≡ b
some_is a b e = cc

pub done_is : (a b : Done) → (let x : Result Done Refusal = Ok a in x ≡ Ok b) → a ≡ b
done_is a b e = cc
