-- The number of a name that was found.
use Rattle.std.proofs.Common.{◌≡◌, ℕ, ◌<◌, ◌≤◌, List, length, Option, Some, None, SomeIff, IfSome, IfNone, ap}
use Rattle.std.proofs.Common.{arith}
use Rattle.hd_catalogue.specs.Names.{name_at, number_of}

-- A place in a list of at most so many names is a number below that limit.
pub place_is_number : {r : Option ℕ} {place count most : ℕ} → SomeIff r (place < most) place → place < count
    → count ≤ most → r ≡ Some place
place_is_number {r = None} made below few = absurd (made (omega (arith, below, few)))
place_is_number {r = Some number} made below few = ap Some made.1

-- what is said of the number that a look-up by name answers
pub record IsFound {F : Type 0} (names : List (List ℕ × F)) (name : List ℕ) (r : Option ℕ) : Type 0 where
  pub number : r ≡ number_of names name
  pub named : IfSome r (λ number. name_at names number ≡ Some name)
  pub in_range : IfSome r (λ number. number < length names)
  pub none : IfNone r ((number : ℕ) → ¬ (name_at names number ≡ Some name))

-- it is the place at which the name stands
pub found : {F : Type 0} {names : List (List ℕ × F)} {name : List ℕ} {r : Option ℕ} {place most : ℕ}
    → SomeIff r (place < most) place → Some place ≡ number_of names name → name_at names place ≡ Some name
    → place < length names → length names ≤ most → IsFound names name r
found {r = r} made number named below few = rw (place_is_number made below few) (record {
  number = number;
  named = named;
  in_range = below;
  none = tt;
})
