-- Receipts of which no two are the same, as many as there are turns and all of turns that stand there, are
-- the turns' receipts in
-- another order.
use Rattle.std.proofs.Common.{◌≡◌, ℕ, zero, suc, ◌+◌, ◌-◌, ◌<◌, List, [], ◌∷◌, ◌++◌, length, map, drop}
use Rattle.std.proofs.Common.{get_or, Some, slice_get, refl}
use Rattle.std.proofs.Common.{arith, sym, subst, inl, inr}
use Rattle.std.specs.List.{All, Contains, remove}
use Rattle.std.specs.List.Sorted.{IsPermutation}
use Rattle.std.proofs.lemmas.List.{drop_more}
use Rattle.std.proofs.lemmas.List.Elements.{All-contains, Contains-append_right, Contains-append_cases}
use Rattle.std.proofs.lemmas.List.Sorted.{IsPermutation-refl, IsPermutation-cons, IsPermutation-trans}
use Rattle.std.proofs.lemmas.List.Sorted.{IsPermutation-remove}
use Rattle.std.proofs.lemmas.List.Sorted.{Contains-permutation, length_permutation}
use Rattle.hd_rules.specs.Journal.{Turn}
use Rattle.hd_hall.specs.Closings.{AreThere}
use Rattle.hd_hall.specs.Receipts.{Receipted, StandsAt, with_numbers}
use Rattle.hd_hall.specs.Seats.{SeatView, AreOfSeat, EachSeat, IsWhole, RiseAbove, all_receipts, without_part}
use Rattle.hd_hall.specs.Seats.{shares}
use Rattle.hd_hall.proofs.Lending.{whole_counts}

-- no two are the same
abbrev pub Differ : List Receipted → Type 0
Differ [] = Unit {0}
Differ (r ∷ rs) = (Contains rs r → ⊥) × Differ rs

-- of a list with x in front, a member that is another is behind it
behind : (x y : Receipted) (rs : List Receipted) → (x ≡ y → ⊥) → Contains (x ∷ rs) y → Contains rs y
behind x y rs other (zero, h, is) = absurd (other is)
behind x y rs other (suc k, h, is) = (k, omega arith, is)

pub differ_permutes : (rs xs : List Receipted) → Differ rs → ((r : Receipted) → Contains rs r → Contains xs r)
    → length rs ≡ length xs
    → IsPermutation xs rs
differ_permutes [] [] differ within len = IsPermutation-refl []
differ_permutes [] (x ∷ xs) differ within len = absurd (omega arith)
differ_permutes (r ∷ rs) xs differ within len =
    let at = within r (0, omega arith, refl) in
    let i = at.0 in
    let out = IsPermutation-remove xs i r at.1 (sym at.2) in
    let fewer = length_permutation xs (r ∷ remove xs i) out in
    let rest = differ_permutes rs (remove xs i) differ.1
    (λ y has. behind r y (remove xs i)
    (λ same. differ.0 (subst (λ (z : Receipted). Contains rs z) (sym same) has))
    (Contains-permutation xs (r ∷ remove xs i) y out (within y (Contains-append_right (r ∷ []) rs y has))))
    (omega arith) in
    IsPermutation-trans xs (r ∷ remove xs i) (r ∷ rs) out (IsPermutation-cons r (remove xs i) rs rest)

pub differ-append : (xs ys : List Receipted) → Differ xs → Differ ys
    → ((r : Receipted) → Contains xs r → Contains ys r → ⊥)
    → Differ (xs ++ ys)
differ-append [] ys first second apart = second
differ-append (x ∷ xs) ys first second apart = (
  (λ has. elim (Contains-append_cases xs ys x has) [
    | inl p ↦ first.0 p
    | inr q ↦ apart x (0, omega arith, refl) q
  ]),
  differ-append xs ys first.1 second (λ r p q. apart r (Contains-append_right (x ∷ []) xs r p) q),
)

-- of numbers that rise from above n, each is above n
pub rise_over : (n : ℕ) (rs : List Receipted) (r : Receipted) → RiseAbove n rs → Contains rs r → n < r.number
rise_over n [] r up (k, h, is) = absurd (omega arith)
rise_over n (x ∷ xs) r up (zero, h, is) = subst (λ (y : Receipted). n < y.number) is up.0
rise_over n (x ∷ xs) r up (suc k, h, is) = let low = up.0 in
    let more = rise_over x.number xs r up.1 (k, omega arith, is) in omega arith

pub rise_differ : (n : ℕ) (rs : List Receipted) → RiseAbove n rs → Differ rs
rise_differ n [] up = tt
rise_differ n (x ∷ xs) up = (
  (λ has. let h = rise_over x.number xs x up.1 has in absurd (omega arith)),
  rise_differ x.number xs up.1,
)

-- each of a seat's receipts is its own
pub own_each : (seat : ℕ) (rs : List Receipted) (r : Receipted) → AreOfSeat seat rs → Contains rs r
    → r.turn.seat ≡ seat
own_each seat [] r own (k, h, is) = absurd (omega arith)
own_each seat (x ∷ xs) r own (zero, h, is) = subst (λ (y : Receipted). y.turn.seat ≡ seat) is own.0
own_each seat (x ∷ xs) r own (suc k, h, is) = own_each seat xs r own.1 (k, omega arith, is)

-- the receipts of seats whose numbers rise from above n are of seats above n
pub there_above : (turns : List Turn) (n : ℕ) (ss : List SeatView) (r : Receipted) → AreThere turns n ss
    → EachSeat ss IsWhole
    → Contains (all_receipts ss) r → n < r.turn.seat
there_above turns n [] r there whole (k, h, is) = absurd (omega arith)
there_above turns n (s ∷ ss) r there whole has =
    let first = there.0 in
    elim (Contains-append_cases s.receipts (all_receipts ss) r has) [
      | inl p ↦ let is = own_each s.number s.receipts r (whole 0 s refl).own p in omega arith
      | inr q ↦ let more = there_above turns s.number ss r there.2 (λ k x is. whole (suc k) x is) q in
          omega arith
    ]

pub there_differ : (turns : List Turn) (n : ℕ) (ss : List SeatView) → AreThere turns n ss
    → EachSeat ss IsWhole → Differ (all_receipts ss)
there_differ turns n [] there whole = tt
there_differ turns n (s ∷ ss) there whole =
    let rest : EachSeat ss IsWhole = λ k x is. whole (suc k) x is in
    differ-append s.receipts (all_receipts ss) (rise_differ 0 s.receipts (whole 0 s refl).in_order)
    (there_differ turns s.number ss there.2 rest)
    (λ r p q.
    let is = own_each s.number s.receipts r (whole 0 s refl).own p in
    let more = there_above turns s.number ss r there.2 rest q in
    absurd (omega arith))

pub there_stands : (turns : List Turn) (n : ℕ) (ss : List SeatView) (r : Receipted) → AreThere turns n ss
    → Contains (all_receipts ss) r
    → StandsAt turns r
there_stands turns n [] r there (k, h, is) = absurd (omega arith)
there_stands turns n (s ∷ ss) r there has =
    elim (Contains-append_cases s.receipts (all_receipts ss) r has) [
      | inl p ↦ All-contains (StandsAt turns) s.receipts r there.1 p
      | inr q ↦ there_stands turns s.number ss r there.2 q
    ]

-- what stands at a number is among the numbered turns
pub numbered_has : (n : ℕ) (ts : List Turn) (k m : ℕ) (t : Turn) → slice_get ts k ≡ Some t → m ≡ n + k + 1
    → Contains (with_numbers n ts) (record { number = m; turn = t })
numbered_has n [] k m t is eq = absurd (let e : slice_get [] k ≡ Some t = is in cc)
numbered_has n (x ∷ xs) zero m t is eq =
    let same : x ≡ t = cc in
    let number : n + 1 ≡ m = omega arith in
    (0, omega arith, λ j. record { number = number j; turn = same j })
numbered_has n (x ∷ xs) (suc k) m t is eq =
    Contains-append_right (record { number = n + 1; turn = x } ∷ []) (with_numbers (n + 1) xs)
    (record { number = m; turn = t })
    (numbered_has (n + 1) xs k m t is (omega arith))

pub length-numbered : (n : ℕ) (ts : List Turn) → length (with_numbers n ts) ≡ length ts
length-numbered n [] = refl
length-numbered n (t ∷ ts) = let h = length-numbered (n + 1) ts in omega arith

-- a seat that lends its part has its number and its receipts
pub lent_there : (turns : List Turn) (n : ℕ) (ss : List SeatView) → AreThere turns n (map without_part ss)
    → AreThere turns n ss
lent_there turns n [] there = tt
lent_there turns n (s ∷ ss) there = (there.0, there.1, lent_there turns s.number ss there.2)

pub there_permutes : (turns : List Turn) (ss : List SeatView) → AreThere turns 0 ss → EachSeat ss IsWhole
    → length turns ≡ shares ss
    → IsPermutation (with_numbers 0 turns) (all_receipts ss)
there_permutes turns ss there whole counted =
    differ_permutes (all_receipts ss) (with_numbers 0 turns) (there_differ turns 0 ss there whole)
    (λ r has.
    let stands = there_stands turns 0 ss r there has in
    let low = stands.0 in
    numbered_has 0 turns (r.number - 1) r.number r.turn stands.1 (omega arith))
    (omega (arith, whole_counts ss whole, length-numbered 0 turns))

-- a seat that comes above n and whose receipts stand, and those behind it
pub there_more : (turns : List Turn) (n : ℕ) (ss : List SeatView) (i : ℕ) (s : SeatView) → i < length ss
    → s ≡ get_or ss i s
    → n < s.number → All (StandsAt turns) s.receipts
    → AreThere turns s.number (drop (i + 1) ss) → AreThere turns n (drop i ss)
there_more turns n ss i s within is above stand rest =
    let P : SeatView → Type 0 = λ x. AreThere turns n (x ∷ drop (i + 1) ss) in
    subst (λ (rs : List SeatView). AreThere turns n rs) (sym (drop_more ss i s within))
    (subst P is (above, stand, rest))

-- the seat at i comes above n and its receipts stand, where those from it on do
pub there_here : (turns : List Turn) (n : ℕ) (ss : List SeatView) (i : ℕ) (s : SeatView) → i < length ss
    → s ≡ get_or ss i s
    → AreThere turns n (drop i ss) → AreThere turns n (s ∷ drop (i + 1) ss)
there_here turns n ss i s within is there =
    let P : SeatView → Type 0 = λ x. AreThere turns n (x ∷ drop (i + 1) ss) in
    subst P (sym is) (subst (λ (rs : List SeatView). AreThere turns n rs) (drop_more ss i s within) there)
