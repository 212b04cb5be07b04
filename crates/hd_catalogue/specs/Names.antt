-- Names in the order in which they were defined, each with its facts. A name's number is its place, from 0.
use Rattle.std.specs.Prelude.{◌≡◌, ℕ, List, Option, Some, bytes_eq, option_map, position, slice_get}

-- the name with a number, if there is one
abbrev pub name_at : {F : Type 0} → List (List ℕ × F) → ℕ → Option (List ℕ)
name_at names number = option_map (λ e. e.0) (slice_get names number)

-- the facts of the name with a number, if there is one
abbrev pub facts_at : {F : Type 0} → List (List ℕ × F) → ℕ → Option F
facts_at names number = option_map (λ e. e.1) (slice_get names number)

-- the number of a name: the first place where it stands, byte by byte
abbrev pub number_of : {F : Type 0} → List (List ℕ × F) → List ℕ → Option ℕ
number_of names name = position (λ e. bytes_eq name e.0) names

-- no name stands twice: each is found again by its bytes, at its own number
abbrev pub AreDistinct : {F : Type 0} → List (List ℕ × F) → Type 0
AreDistinct names =
    (number : ℕ) (name : List ℕ) → name_at names number ≡ Some name → number_of names name ≡ Some number
