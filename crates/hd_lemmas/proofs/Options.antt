-- Values that may be there.
use Rattle.std.proofs.Common.{◌≡◌, ℕ, Bool, true, false, Option, None, Some, refl}
use Rattle.std.specs.Prelude.{IsSome, if◌then◌else◌}
use Rattle.std.proofs.lemmas.Option.{none-some}
-- one number of a name
pub use Rattle.hd_rules.proofs.Carried.{one_new}

-- a number that is there
pub some_number : (o : Option ℕ) → IsSome o → (n : ℕ) × (o ≡ Some n)
some_number None is = absurd (let no : ⊥ = cc in no)
some_number (Some n) is = (n, refl)

-- what no number is, isn't there
pub no_number : (o : Option ℕ) → ((n : ℕ) → o ≡ Some n → ⊥) → o ≡ None
no_number None never = refl
no_number (Some n) never = absurd (never n refl)

-- what is there only where a test passes
pub some_if : {A : Type 0} (t : Bool) (x : Option A) (n : A) → (if t then x else None) ≡ Some n
    → (t ≡ true) × (x ≡ Some n)
some_if true x n h = (refl, h)
some_if false x n h = absurd (none-some n h)
