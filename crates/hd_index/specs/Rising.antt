-- Rising lists of numbers.
use Rattle.std.specs.Prelude.{ℕ, ◌<◌, ◌==◌, not, nat_lt, List, [], ◌∷◌}
use Rattle.std.specs.List.{AllByRecursion, filter}

-- each number of the list is below this one
abbrev pub AreBelow : ℕ → List ℕ → Type 0
AreBelow n ns = AllByRecursion (λ m. m < n) ns

-- each number is below all later ones
abbrev pub IsRising : List ℕ → Type 0
IsRising [] = Unit {0}
IsRising (n ∷ ns) = AllByRecursion (λ m. n < m) ns × IsRising ns

-- the list without a number
abbrev pub without : ℕ → List ℕ → List ℕ
without n ns = filter (λ m. not (m == n)) ns

-- those of the list that are above a number
abbrev pub above : ℕ → List ℕ → List ℕ
above n ns = filter (λ m. nat_lt n m) ns
