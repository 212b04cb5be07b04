-- How a page is cut from a list, item by item.
use Rattle.std.proofs.Common.{arith, ◌≡◌, refl, sym, ◌∙◌, ap, ℕ, ◌+◌, ◌-◌, ◌<◌, ◌≤◌, zero, suc}
use Rattle.std.proofs.Common.{length, length-append, append_assoc, append-nil, List, []}
use Rattle.std.proofs.Common.{◌∷◌, ◌++◌, take, drop, Option, Some, None}
use Rattle.hd_rules.specs.declared.views.ListItem.{ListItem}
use Rattle.hd_rules.specs.declared.views.Wanted.{Wanted}
use Rattle.hd_rules.specs.Views.{as_far_as}
use Rattle.hd_patron_view.specs.declared.cut.Cut.{Cut}
use Rattle.hd_patron_view.specs.Cutting.{filled, topped_up}

take_nil : {A : Type 0} (n : ℕ) → (let xs : List A = [] in take n xs ≡ xs)
take_nil zero = refl
take_nil (suc n) = refl

drop_nil : {A : Type 0} (n : ℕ) → (let xs : List A = [] in drop n xs ≡ xs)
drop_nil zero = refl
drop_nil (suc n) = refl

-- the last wanted is counted from the list's beginning, or from behind what was passed over
pub cut_before : {A : Type 0} (skip last : ℕ) (xs : List A) →
    take (last - skip) (drop skip xs) ≡ drop skip (take last xs)
cut_before zero last xs = ap (λ (n : ℕ). take n xs) (let same : last - 0 ≡ last = omega arith in same)
cut_before (suc skip) zero xs =
    ap (λ (n : ℕ). take n (drop (suc skip) xs)) (let none : 0 - suc skip ≡ 0 = omega arith in none)
cut_before (suc skip) (suc last) [] = take_nil (suc last - suc skip)
cut_before (suc skip) (suc last) (x ∷ xs) =
    ap (λ (n : ℕ). take n (drop skip xs)) (let same : suc last - suc skip ≡ last - skip = omega arith in same)
    ∙ cut_before skip last xs

-- nothing is left of the list
pub filled_all : (room : ℕ) (cut : Cut) (items : List ListItem) → filled room cut items [] ≡ items
filled_all room cut items =
    ap (λ (xs : List ListItem). items ++ take (room - length items) (as_far_as cut.left xs))
    (drop_nil cut.skip)
    ∙ ap (λ (xs : List ListItem). items ++ take (room - length items) xs) (far_nil cut.left)
    ∙ ap (λ (xs : List ListItem). items ++ xs) (take_nil (room - length items)) ∙ append-nil items
  where
    far_nil : (left : Option ℕ) → as_far_as {A = ListItem} left [] ≡ []
    far_nil None = refl
    far_nil (Some n) = take_nil n

-- all of a list is dropped
pub all_dropped : {A : Type 0} (i : ℕ) (xs : List A) → length xs ≤ i → drop i xs ≡ []
all_dropped zero [] le = refl
all_dropped (suc i) [] le = refl
all_dropped zero (x ∷ xs) le =
    absurd (let one : length (x ∷ xs) ≡ length xs + 1 = omega arith in let never : ⊥ = omega arith in never)
all_dropped (suc i) (x ∷ xs) le = all_dropped i xs (let fewer : length xs ≤ i = omega arith in fewer)

-- a page that begins without items
pub filled_empty : (room : ℕ) (cut : Cut) (items xs : List ListItem) → items ≡ [] →
    filled room cut items xs ≡ take room (as_far_as cut.left (drop cut.skip xs))
filled_empty room cut items xs none =
    ap (λ (ys : List ListItem). filled room cut ys xs) none
    ∙ ap (λ (n : ℕ). take n (as_far_as cut.left (drop cut.skip xs)))
    (let same : room - length {A = ListItem} [] ≡ room = omega arith in same)

-- what was cut is the page
pub page_cut : (room : ℕ) (cut : Cut) (wanted : Wanted) (old xs ys new : List ListItem) →
    new ≡ filled room cut old xs → old ≡ [] →
    ((items : List ListItem) → as_far_as cut.left (drop cut.skip items)
    ≡ drop (wanted.first - 1) (as_far_as wanted.last items)) →
    xs ≡ ys → new ≡ take room (drop (wanted.first - 1) (as_far_as wanted.last ys))
page_cut room cut wanted old xs ys new is none cuts same =
    is ∙ filled_empty room cut old xs none ∙ ap (λ (zs : List ListItem). take room zs) (cuts xs)
    ∙ ap (λ (zs : List ListItem). take room (drop (wanted.first - 1) (as_far_as wanted.last zs))) same

-- nothing is cut from nothing
pub nothing_cut : (room skip : ℕ) (last : Option ℕ) →
    take room (drop skip (as_far_as {A = ListItem} last [])) ≡ []
nothing_cut room skip last =
    ap (λ (xs : List ListItem). take room (drop skip xs)) (far_nil last)
    ∙ ap (λ (xs : List ListItem). take room xs) (drop_nil skip) ∙ take_nil room
  where
    far_nil : (left : Option ℕ) → as_far_as {A = ListItem} left [] ≡ []
    far_nil None = refl
    far_nil (Some n) = take_nil n

drop_more : (n : ℕ) (x : ListItem) (xs : List ListItem) → 0 < n → drop n (x ∷ xs) ≡ drop (n - 1) xs
drop_more zero x xs some = absurd (let never : ⊥ = omega arith in never)
drop_more (suc n) x xs some = ap (λ (m : ℕ). drop m xs) (let same : n ≡ suc n - 1 = omega arith in same)

take_more : (n : ℕ) (x : ListItem) (xs : List ListItem) → 0 < n → take n (x ∷ xs) ≡ x ∷ take (n - 1) xs
take_more zero x xs some = absurd (let never : ⊥ = omega arith in never)
take_more (suc n) x xs some =
    ap (λ (m : ℕ). x ∷ take m xs) (let same : n ≡ suc n - 1 = omega arith in same)

-- an item is passed over
pub passed_over : (room skip : ℕ) (left : Option ℕ) (items : List ListItem) (x : ListItem)
    (rest : List ListItem) → 0 < skip →
    topped_up room items (as_far_as left (drop (skip - 1) rest))
    ≡ topped_up room items (as_far_as left (drop skip (x ∷ rest)))
passed_over room skip left items x rest some =
    ap (λ (xs : List ListItem). topped_up room items (as_far_as left xs)) (sym (drop_more skip x rest some))

-- an item is put, where there is room
pub put_behind : (room : ℕ) (items : List ListItem) (x : ListItem) (ys : List ListItem)
    → length items < room →
    topped_up room (items ++ x ∷ []) ys ≡ topped_up room items (x ∷ ys)
put_behind room items x ys below =
    append_assoc items (x ∷ []) (take (room - length (items ++ x ∷ [])) ys)
    ∙ ap (λ (n : ℕ). items ++ x ∷ take n ys)
    (let longer : length (items ++ x ∷ []) ≡ length items + length (x ∷ []) = length-append items (x ∷ []) in
    let one : length (x ∷ []) ≡ 1 = refl in
    let same : room - length (items ++ x ∷ []) ≡ (room - length items) - 1 = omega arith in same)
    ∙ ap (λ (xs : List ListItem). items ++ xs)
    (sym (take_more (room - length items) x ys (let some : 0 < room - length items = omega arith in some)))

-- where there is none, it doesn't matter what is left
pub no_room : (room : ℕ) (items xs ys : List ListItem) → length items ≡ room →
    topped_up room items xs ≡ topped_up room items ys
no_room room items xs ys full =
    let none : room - length items ≡ 0 = omega arith in
    ap (λ (n : ℕ). items ++ take n xs) none ∙ ap (λ (n : ℕ). items ++ take n ys) (sym none)

-- no more are wanted
pub no_more : (left : ℕ) (xs ys : List ListItem) → (0 < left → ⊥) → take left xs ≡ take left ys
no_more zero xs ys none = refl
no_more (suc left) xs ys none = absurd (none (omega arith))
