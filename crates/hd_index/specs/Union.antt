-- The union of rising lists.
use Rattle.std.specs.Prelude.{◌≡◌, ℕ, ◌≤◌, ◌==◌, nat_lt, if◌then◌else◌, Bool, Option, None, Some, List, []}
use Rattle.std.specs.Prelude.{◌∷◌, map, min}
use Rattle.std.specs.List.{AllByRecursion, filter, list_any}
use Rattle.hd_index.specs.Rising.{IsRising, above}

-- a number put at its place in a rising list, where it isn't there yet
abbrev pub put_in_place : ℕ → List ℕ → List ℕ
put_in_place n [] = n ∷ []
put_in_place n (m ∷ ms) =
    if nat_lt n m then n ∷ (m ∷ ms) else if n == m then m ∷ ms else m ∷ put_in_place n ms

-- the numbers of one list put into another
abbrev pub union_with : List ℕ → List ℕ → List ℕ
union_with [] ms = ms
union_with (n ∷ ns) ms = put_in_place n (union_with ns ms)

-- the numbers of all the lists, rising, each once
abbrev pub union : List (List ℕ) → List ℕ
union [] = []
union (ns ∷ lists) = union_with ns (union lists)

-- the number stands in the list
abbrev pub has : ℕ → List ℕ → Bool
has n ns = list_any (λ m. m == n) ns

-- Of parts of one rising list, each of them what passes a test, the union is what passes one of the tests.
abbrev pub UnionsAreFilters : Type 0
UnionsAreFilters = (ns : List ℕ) (tests : List (ℕ → Bool)) → IsRising ns
    → union (map (λ test. filter test ns) tests) ≡ filter (λ n. list_any (λ test. test n) tests) ns

-- So it is with what is above a number in each part.
abbrev pub UnionsAboveAreFilters : Type 0
UnionsAboveAreFilters = (n : ℕ) (ns : List ℕ) (tests : List (ℕ → Bool)) → IsRising ns
    → union (map (λ test. above n (filter test ns)) tests)
    ≡ filter (λ m. list_any (λ test. test m) tests) (above n ns)

-- A union rises, and has the numbers that one of the lists has.
pub record UnionsHaveEachOnce : Type 0 where
  pub rising : (lists : List (List ℕ)) → IsRising (union lists)
  pub numbers : (lists : List (List ℕ)) (n : ℕ) → has n (union lists) ≡ list_any (has n) lists

-- the list begins with no number below this one
abbrev pub IsNotBelow : ℕ → List ℕ → Type 0
IsNotBelow n [] = Unit {0}
IsNotBelow n (m ∷ ms) = n ≤ m

-- So it is with each list behind the first. Without lists the number is 0.
abbrev pub IsBehindFirst : ℕ → List (List ℕ) → Type 0
IsBehindFirst n [] = n ≡ 0
IsBehindFirst n (ns ∷ lists) = AllByRecursion (IsNotBelow n) lists

-- lists of a union: at most twelve, each rises, and those behind the first begin with no number below one
pub record AreUnionLists (count others : ℕ) (lists : List (List ℕ)) : Type 0 where
  pub few : count ≤ 12
  pub rising : AllByRecursion IsRising lists
  pub behind : IsBehindFirst others lists

-- the lesser of a number, if there is one, and the first of a list, if it has one
abbrev pub lesser : Option ℕ → List ℕ → Option ℕ
lesser least [] = least
lesser None (n ∷ ns) = Some n
lesser (Some least) (n ∷ ns) = Some (min least n)

-- the least of a number, if there is one, and the first of each list
abbrev pub least_first : Option ℕ → List (List ℕ) → Option ℕ
least_first least [] = least
least_first least (ns ∷ lists) = least_first (lesser least ns) lists

-- what follows the number, in a list that begins with it; another list whole
abbrev pub past : ℕ → List ℕ → List ℕ
past n [] = []
past n (m ∷ ms) = if m == n then ms else m ∷ ms
