-- Places for things that come back.
use Rattle.std.specs.Prelude.{ℕ, List, [], ◌∷◌, Option, Some, None, count_by, is_some}

-- what stands at the places, in their order
abbrev pub all_in : {X : Type 0} → List (Option X) → List X
all_in [] = []
all_in (None ∷ places) = all_in places
all_in (Some x ∷ places) = x ∷ all_in places

-- at how many of the places something stands
abbrev pub taken : {X : Type 0} → List (Option X) → ℕ
taken places = count_by is_some places
