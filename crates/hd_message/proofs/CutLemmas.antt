-- A list is cut at a whole item, and as late as the room allows.
use Rattle.std.proofs.Common.{◌≡◌, ◌⊎◌, inl, inr, ℕ, ◌+◌, ◌-◌, ◌<◌, ◌≤◌, true, false, List, [], ◌∷◌, length}
use Rattle.std.proofs.Common.{take, arith, ap, refl}
use Rattle.std.proofs.Common.{length-append, nat_lt, if◌then◌else◌, get_or, drop, suc, zero}
use Rattle.std.specs.List.{flat_map}
use Rattle.std.specs.Borrow.{Bor}
use Rattle.hd_message.proofs.LengthLemmas.{items_length}
use Rattle.hd_message.specs.PatronReplies.{IsCutAtItem, fitting, item_field, items_text}

cut_within : (code : List ℕ) (room : ℕ) (names : List (Bor (List ℕ))) → fitting code room names ≤ length names
cut_within code room [] = omega arith
cut_within code room (name ∷ names) =
    let item = length (item_field code name) in
    elim (nat_lt room item) as
    (λ t. (if t then 0 else suc (fitting code (room - item) names)) ≤ length (name ∷ names)) [
      | true ↦ omega arith
      | false ↦ omega (arith, cut_within code (room - item) names)
    ]

abbrev Full : List ℕ → ℕ → List (Bor (List ℕ)) → ℕ → Type 0
Full code room names n =
    (n ≡ length names) ⊎ (room < length (flat_map (item_field code) (take (suc n) names)))

cut_later : (code : List ℕ) (room item n : ℕ) (name : Bor (List ℕ)) (names : List (Bor (List ℕ)))
    → length (item_field code name) ≡ item → item ≤ room → Full code (room - item) names n
    → Full code room (name ∷ names) (suc n)
cut_later code room item n name names is fits (inl all) = inl (omega (arith, all))
cut_later code room item n name names is fits (inr more) =
    inr (omega (
      arith,
      is,
      fits,
      more,
      length-append (item_field code name) (flat_map (item_field code) (take (suc n) names)),
    ))

cut_full : (code : List ℕ) (room : ℕ) (names : List (Bor (List ℕ)))
    → Full code room names (fitting code room names)
cut_full code room [] = inl refl
cut_full code room (name ∷ names) =
    let item = length (item_field code name) in
    elim (nat_lt room item) as (λ t. nat_lt room item ≡ t →
    Full code room (name ∷ names) (if t then 0 else suc (fitting code (room - item) names))) [
      | true ↦ λ h.
          let over : room < item = grind arith in
          inr (omega
          (arith, over, length-append (item_field code name) (flat_map (item_field code) (take 0 names))))
      | false ↦ λ h.
          let fits : item ≤ room = grind arith in
          cut_later code room item (fitting code (room - item) names) name names refl fits
          (cut_full code (room - item) names)
    ] refl

pub cut_at_item : (code : List ℕ) (room : ℕ) (names : List (Bor (List ℕ))) → IsCutAtItem code room names
cut_at_item code room names = record {
  within = cut_within code room names;
  fits = items_length code room names;
  full = cut_full code room names;
}

-- There is room for a name: it is one more of those that fit.
room_for : (code : List ℕ) (left i : ℕ) (names : List (Bor (List ℕ))) (d : Bor (List ℕ)) → i < length names
    → length (item_field code (get_or names i d)) ≤ left → fitting code left (drop i names)
    ≡ suc (fitting code (left - length (item_field code (get_or names i d))) (drop (suc i) names))
room_for code left i [] d within fits = absurd (omega (arith, within))
room_for code left zero (name ∷ names) d within fits =
    let not_less : nat_lt left (length (item_field code name)) ≡ false = grind arith in
    ap (λ t. if t then 0 else suc (fitting code (left - length (item_field code name)) names)) not_less
room_for code left (suc i) (name ∷ names) d within fits =
    room_for code left i names d (omega (arith, within)) fits

-- the items before one, and it, are among the items up to a later one
among_first : (code : List ℕ) (i n : ℕ) (names : List (Bor (List ℕ))) (d : Bor (List ℕ))
    → i < n → i < length names → length (flat_map (item_field code) (take i names))
    + length (item_field code (get_or names i d)) ≤ length (flat_map (item_field code) (take n names))
among_first code i n [] d less within = absurd (omega (arith, within))
among_first code i zero (name ∷ names) d less within = absurd (omega (arith, less))
among_first code zero (suc n) (name ∷ names) d less within =
    omega (arith, length-append (item_field code name) (flat_map (item_field code) (take n names)))
among_first code (suc i) (suc n) (name ∷ names) d less within =
    omega (
      arith,
      length-append (item_field code name) (flat_map (item_field code) (take n names)),
      length-append (item_field code name) (flat_map (item_field code) (take i names)),
      among_first code i n names d (omega (arith, less)) (omega (arith, within)),
    )

pub kept_within : (code : List ℕ) (room left i : ℕ) (names : List (Bor (List ℕ))) (d : Bor (List ℕ))
    → i < length names → length (item_field code (get_or names i d)) ≤ left
    → i + fitting code left (drop i names) ≡ fitting code room names
    → length (flat_map (item_field code) (take i names)) + length (item_field code (get_or names i d))
    ≤ length (items_text code room names)
kept_within code room left i names d within fits count =
    let more : i < fitting code room names = omega (arith, count, room_for code left i names d within fits) in
    among_first code i (fitting code room names) names d more within
