-- Seats that lend their parts one after another.
use Rattle.std.proofs.Common.{◌≡◌, ℕ, zero, suc, ◌+◌, ◌<◌, ◌≤◌, List, [], ◌∷◌, ◌++◌, length, map, set, get_or}
use Rattle.std.proofs.Common.{Some, slice_get, refl}
use Rattle.std.proofs.Common.{arith, length-append, sym, ◌∙◌, ap, subst, take, drop, inl, inr}
use Rattle.std.proofs.lemmas.List.{take-append-le}
use Rattle.std.proofs.lemmas.Option.{slice_get-get_or}
use Rattle.std.proofs.lemmas.List.Elements.{Contains-append_left, Contains-append_right}
use Rattle.std.proofs.lemmas.List.Elements.{Contains-append_cases}
use Rattle.std.specs.List.{Contains}
use Rattle.hd_hall.specs.Receipts.{Receipted}
use Rattle.hd_hall.specs.Seats.{SeatView, IsWhole, without_part, with_part, EachSeat, shares, all_receipts}

-- f of the first k, and the others as they are
abbrev pub map_first : (SeatView → SeatView) → ℕ → List SeatView → List SeatView
map_first f zero xs = xs
map_first f (suc k) [] = []
map_first f (suc k) (x ∷ xs) = f x ∷ map_first f k xs

-- the shares of the first k
abbrev pub shares_first : ℕ → List SeatView → ℕ
shares_first zero xs = 0
shares_first (suc k) [] = 0
shares_first (suc k) (x ∷ xs) = x.share + shares_first k xs

-- how many receipts all but the first k have
abbrev pub receipts_after : ℕ → List SeatView → ℕ
receipts_after zero xs = length (all_receipts xs)
receipts_after (suc k) [] = 0
receipts_after (suc k) (x ∷ xs) = receipts_after k xs

pub map_first-all : (f : SeatView → SeatView) (k : ℕ) (xs : List SeatView) → k ≡ length xs
    → map_first f k xs ≡ map f xs
map_first-all f zero [] is = refl
map_first-all f zero (x ∷ xs) is = absurd (omega arith)
map_first-all f (suc k) [] is = refl
map_first-all f (suc k) (x ∷ xs) is =
    ap (λ (ys : List SeatView). f x ∷ ys) (map_first-all f k xs (omega arith))

pub length-map_first : (f : SeatView → SeatView) (k : ℕ) (xs : List SeatView)
    → length (map_first f k xs) ≡ length xs
length-map_first f zero xs = refl
length-map_first f (suc k) [] = refl
length-map_first f (suc k) (x ∷ xs) = let h = length-map_first f k xs in omega arith

pub get_map_first : (f : SeatView → SeatView) (k : ℕ) (xs : List SeatView) (d : SeatView)
    → get_or (map_first f k xs) k d ≡ get_or xs k d
get_map_first f zero xs d = refl
get_map_first f (suc k) [] d = refl
get_map_first f (suc k) (x ∷ xs) d = get_map_first f k xs d

pub set_map_first : (f : SeatView → SeatView) (k : ℕ) (xs : List SeatView) (d : SeatView) → k < length xs
    → set (map_first f k xs) k (f (get_or xs k d)) ≡ map_first f (suc k) xs
set_map_first f zero [] d h = absurd (omega arith)
set_map_first f zero (x ∷ xs) d h = refl
set_map_first f (suc k) [] d h = absurd (omega arith)
set_map_first f (suc k) (x ∷ xs) d h =
    ap (λ (ys : List SeatView). f x ∷ ys) (set_map_first f k xs d (omega arith))

pub shares_first-more : (k : ℕ) (xs : List SeatView) (d : SeatView) → k < length xs
    → shares_first (suc k) xs ≡ shares_first k xs + (get_or xs k d).share
shares_first-more zero [] d h = absurd (omega arith)
shares_first-more zero (x ∷ xs) d h = omega arith
shares_first-more (suc k) [] d h = absurd (omega arith)
shares_first-more (suc k) (x ∷ xs) d h = let e = shares_first-more k xs d (omega arith) in omega arith

pub shares_first-all : (k : ℕ) (xs : List SeatView) → k ≡ length xs → shares_first k xs ≡ shares xs
shares_first-all zero [] is = refl
shares_first-all zero (x ∷ xs) is = absurd (omega arith)
shares_first-all (suc k) [] is = refl
shares_first-all (suc k) (x ∷ xs) is = let e = shares_first-all k xs (omega arith) in omega arith

pub receipts_after-more : (k : ℕ) (xs : List SeatView) (d : SeatView) → k < length xs
    → receipts_after k xs ≡ length (get_or xs k d).receipts + receipts_after (suc k) xs
receipts_after-more zero [] d h = absurd (omega arith)
receipts_after-more zero (x ∷ xs) d h = length-append x.receipts (all_receipts xs)
receipts_after-more (suc k) [] d h = absurd (omega arith)
receipts_after-more (suc k) (x ∷ xs) d h = receipts_after-more k xs d (omega arith)

-- as many receipts as shares
pub whole_counts : (xs : List SeatView) → EachSeat xs IsWhole → length (all_receipts xs) ≡ shares xs
whole_counts [] each = refl
whole_counts (x ∷ xs) each =
    let first = (each 0 x refl).counted in
    let rest = whole_counts xs (λ k s is. each (suc k) s is) in
    omega (arith, length-append x.receipts (all_receipts xs))

pub lent_receipts : (xs : List SeatView) → all_receipts (map without_part xs) ≡ all_receipts xs
lent_receipts [] = refl
lent_receipts (x ∷ xs) = ap (λ (ys : List Receipted). x.receipts ++ ys) (lent_receipts xs)

pub lent_parts : (xs : List SeatView) → EachSeat (map without_part xs) (λ s. s.parts ≡ 0)
lent_parts [] k s is = cc
lent_parts (x ∷ xs) zero s is = let e : without_part x ≡ s = cc in rw (← e) refl
lent_parts (x ∷ xs) (suc k) s is = lent_parts xs k s is

-- what lent its parts and has them again is as before
pub held_again : (xs : List SeatView) → EachSeat xs IsWhole → EachSeat xs (λ s. s.parts ≡ 1)
    → map with_part (map without_part xs) ≡ xs
held_again [] whole one = refl
held_again (x ∷ xs) whole one =
    let rest = held_again xs (λ k s is. whole (suc k) s is) (λ k s is. one (suc k) s is) in
    let here : with_part (without_part x) ≡ x = rw (← (whole 0 x refl).counted, ← one 0 x refl) refl in
    cc

-- what holds of the seat read at i holds of the seat that stands there
pub read_there : (P : SeatView → Type 0) (xs : List SeatView) (i : ℕ) (d s : SeatView) → i < length xs
    → P (get_or xs i d)
    → slice_get xs i ≡ Some s → P s
read_there P xs i d s below here is =
    let at : Some (get_or xs i d) ≡ Some s = sym (slice_get-get_or xs i d below) ∙ is in
    let same : get_or xs i d ≡ s = cc in
    subst P same here

-- a receipt of the seat at i is among all
pub in_one : (xs : List SeatView) (i : ℕ) (d : SeatView) (x : Receipted) → i < length xs
    → Contains (get_or xs i d).receipts x
    → Contains (all_receipts xs) x
in_one [] i d x h at = absurd (omega arith)
in_one (y ∷ ys) zero d x h at = Contains-append_left y.receipts (all_receipts ys) x at
in_one (y ∷ ys) (suc i) d x h at =
    Contains-append_right y.receipts (all_receipts ys) x (in_one ys i d x (omega arith) at)

-- a receipt that none of the first i has, nor the next, none of the first i + 1 has
pub in_none : (xs : List SeatView) (i : ℕ) (d : SeatView) (x : Receipted) → i < length xs
    → (Contains (all_receipts (take i xs)) x → ⊥)
    → (Contains (get_or xs i d).receipts x → ⊥) → Contains (all_receipts (take (suc i) xs)) x → ⊥
in_none [] i d x h before here at = absurd (omega arith)
in_none (y ∷ ys) zero d x h before here at =
    elim (Contains-append_cases y.receipts [] x at) [ inl p ↦ here p | inr q ↦ before q ]
in_none (y ∷ ys) (suc i) d x h before here at =
    elim (Contains-append_cases y.receipts (all_receipts (take (suc i) ys)) x at) [
      | inl p ↦ before (Contains-append_left y.receipts (all_receipts (take i ys)) x p)
      | inr q ↦ in_none ys i d x (omega arith)
          (λ b. before (Contains-append_right y.receipts (all_receipts (take i ys)) x b)) here q
    ]

pub take_whole : (k : ℕ) (xs : List SeatView) → k ≡ length xs → take k xs ≡ xs
take_whole zero [] is = refl
take_whole zero (x ∷ xs) is = absurd (omega arith)
take_whole (suc k) [] is = refl
take_whole (suc k) (x ∷ xs) is = ap (λ (ys : List SeatView). x ∷ ys) (take_whole k xs (omega arith))

-- a list written back whole
pub written_back : (n : ℕ) (xs ys : List SeatView) → n ≡ length xs → ys ≡ xs
    → take n (ys ++ drop (length ys) xs) ≡ xs
written_back n xs ys is same = let within : n ≤ length xs = omega arith in
    rw (same, take-append-le) (take_whole n xs is)
