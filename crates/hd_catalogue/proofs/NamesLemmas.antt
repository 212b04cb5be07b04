-- A map from names, in the order of insertion, as a list of names with facts.
use Rattle.std.proofs.Common.{◌≡◌, ℕ, ◌+◌, ◌<◌, Bool, true, false, cond, Option, None, Some, List, [], ◌∷◌}
use Rattle.std.proofs.Common.{◌++◌, map, length, refl, ap}
use Rattle.std.proofs.Common.{sym, ◌∙◌, arith}
use Rattle.std.proofs.lemmas.List.{length-map}
use Rattle.std.specs.List.{position, prefix_len}
use Rattle.std.specs.Prelude.{bytes_eq, not}
use Rattle.indexmap.specs.IndexMap.{insert_entry}
use Rattle.std.proofs.lemmas.Bool.{cases_Bool}
use Rattle.std.proofs.lemmas.Bool.Decides.{nat_tests}
use Rattle.std.proofs.Common.{inl, inr, ◌≤◌}
use Rattle.std.proofs.Common.{zero, suc, subst, ◌⊎◌}
use Rattle.std.specs.List.{position_from}
use Rattle.std.proofs.lemmas.Iterator.Adapters.{position_from-zero}
use Rattle.std.proofs.lemmas.Option.{none-some}
use Rattle.std.proofs.lemmas.Slice.Eq.{bytes_eq-Decides}
use Rattle.hd_catalogue.specs.Names.{AreDistinct, name_at, number_of}

prefix_len-map : {X Y : Type 0} (f : X → Y) (p : Y → Bool) (xs : List X)
    → prefix_len p (map f xs) ≡ prefix_len (λ x. p (f x)) xs
prefix_len-map f p [] = refl
prefix_len-map f p (x ∷ xs) = ap (λ n. cond (p (f x)) (1 + n) 0) (prefix_len-map f p xs)

-- by its key in the map a name has the number that it has in the list
pub position_of_name : {F : Type 0} (name : List ℕ) (es : List (List ℕ × F))
    → position (bytes_eq name) (map (λ e. e.0) es) ≡ number_of es name
position_of_name name es =
    rw (prefix_len-map (λ e. e.0) (λ k. not (bytes_eq name k)) es, length-map es (λ e. e.0))

insert-past : {F : Type 0} (es : List (List ℕ × F)) (name : List ℕ) (facts : F)
    → length es ≤ prefix_len (λ e. not (bytes_eq name e.0)) es
    → insert_entry bytes_eq es name facts ≡ es ++ (name, facts) ∷ []
insert-past [] name facts l = refl
insert-past (e ∷ es) name facts l = elim (cases_Bool (bytes_eq name e.0)) [
  | inl t ↦ absurd (omega (arith, rw t at l))
  | inr t ↦ rw t (ap (λ ns. e ∷ ns) (insert-past es name facts (omega (arith, rw t at l))))
]

-- a name that isn't defined yet goes last
pub insert-new : {F : Type 0} (es : List (List ℕ × F)) (name : List ℕ) (facts : F) → number_of es name ≡ None
    → insert_entry bytes_eq es name facts ≡ es ++ (name, facts) ∷ []
insert-new es name facts none = insert-past es name facts (grind (arith, nat_tests, none))

-- the place of a name in the rest of a list, counted on
place : {F : Type 0} → List (List ℕ × F) → List ℕ → ℕ → Option ℕ
place names name i = position_from (λ e. bytes_eq name e.0) i names

number_of-place : {F : Type 0} (names : List (List ℕ × F)) (name : List ℕ)
    → number_of names name ≡ place names name 0
unfolding place
number_of-place names name = position_from-zero (λ e. bytes_eq name e.0) names

same_some : {A : Type 0} {a b : A} → Some a ≡ Some b → a ≡ b
same_some e = cc

place_found : {F : Type 0} (names : List (List ℕ × F)) (name : List ℕ) (i n : ℕ) → place names name i ≡ Some n
    → (k : ℕ) × (n ≡ i + k) × (name_at names k ≡ Some name)
unfolding place
place_found [] name i n h = absurd (none-some n h)
place_found (e ∷ es) name i n h = elim (cases_Bool (bytes_eq name e.0)) [
  | inl t ↦
      let here : Some i ≡ Some n = rw t at h in
      let here : i ≡ n = same_some here in
      (0, omega arith, ap Some (sym ((bytes_eq-Decides name e.0).0 t)))
  | inr f ↦
      let more : (k : ℕ) × (n ≡ (i + 1) + k) × (name_at es k ≡ Some name) =
      place_found es name (i + 1) n (rw f at h) in
      (suc more.0, omega (arith, more.1), more.2)
]

not_first : {F : Type 0} (e : List ℕ × F) (es : List (List ℕ × F)) (name : List ℕ) (k : ℕ)
    → bytes_eq name e.0 ≡ false → name_at (e ∷ es) k ≡ Some name
    → (j : ℕ) × (k ≡ suc j) × (name_at es j ≡ Some name)
not_first e es name zero f at =
    let same : name ≡ e.0 = sym (same_some at) in
    let yes : bytes_eq name e.0 ≡ true = (bytes_eq-Decides name e.0).1 same in
    absurd (differ yes f)
  where
    differ : {b : Bool} → b ≡ true → b ≡ false → ⊥
    differ t f = cc
not_first e es name (suc k) f at = (k, refl, at)

place_none : {F : Type 0} (names : List (List ℕ × F)) (name : List ℕ) (i k : ℕ) → place names name i ≡ None
    → name_at names k ≡ Some name → ⊥
unfolding place
place_none [] name i k h at = none-some name at
place_none (e ∷ es) name i k h at = elim (cases_Bool (bytes_eq name e.0)) [
  | inl t ↦
      let here : Some i ≡ None = rw t at h in
      none-some i (sym here)
  | inr f ↦
      let more : place es name (i + 1) ≡ None = rw f at h in
      let left = not_first e es name k f at in
      place_none es name (i + 1) left.0 more left.2
]

-- the number of a name is a number of that name
pub number_found : {F : Type 0} (names : List (List ℕ × F)) (name : List ℕ) (n : ℕ)
    → number_of names name ≡ Some n → name_at names n ≡ Some name
number_found names name n h =
    let found = place_found names name 0 n (sym (number_of-place names name) ∙ h) in
    let same : found.0 ≡ n = omega (arith, found.1) in
    subst (λ k. name_at names k ≡ Some name) same found.2

-- a name without a number has no place
pub number_none : {F : Type 0} (names : List (List ℕ × F)) (name : List ℕ) (n : ℕ)
    → number_of names name ≡ None → name_at names n ≡ Some name → ⊥
number_none names name n h at = place_none names name 0 n (sym (number_of-place names name) ∙ h) at

name_at-length : {F : Type 0} (names : List (List ℕ × F)) (n : ℕ) (name : List ℕ)
    → name_at names n ≡ Some name → n < length names
name_at-length [] n name at = absurd (none-some name at)
name_at-length (e ∷ es) zero name at = omega arith
name_at-length (e ∷ es) (suc n) name at = omega (arith, name_at-length es n name at)

-- a name's number is below the count of names
pub number_in_range : {F : Type 0} (names : List (List ℕ × F)) (name : List ℕ) (n : ℕ)
    → number_of names name ≡ Some n → n < length names
number_in_range names name n h = name_at-length names n name (number_found names name n h)

place-append : {F : Type 0} (names more : List (List ℕ × F)) (name : List ℕ) (i n : ℕ)
    → place names name i ≡ Some n → place (names ++ more) name i ≡ Some n
unfolding place
place-append [] more name i n h = absurd (none-some n h)
place-append (e ∷ es) more name i n h = elim (cases_Bool (bytes_eq name e.0)) [
  | inl t ↦ rw t (rw t at h)
  | inr f ↦ rw f (place-append es more name (i + 1) n (rw f at h))
]

-- a name's number stays when names are added
pub number_of-append : {F : Type 0} (names more : List (List ℕ × F)) (name : List ℕ) (n : ℕ)
    → number_of names name ≡ Some n → number_of (names ++ more) name ≡ Some n
number_of-append names more name n h =
    number_of-place (names ++ more) name
    ∙ place-append names more name 0 n (sym (number_of-place names name) ∙ h)

place-push : {F : Type 0} (names : List (List ℕ × F)) (name : List ℕ) (facts : F) (i : ℕ)
    → place names name i ≡ None → place (names ++ (name, facts) ∷ []) name i ≡ Some (i + length names)
unfolding place
place-push [] name facts i h = rw (equal name) (ap Some (omega arith))
  where
    equal : (name : List ℕ) → bytes_eq name name ≡ true
    equal name = (bytes_eq-Decides name name).1 refl
place-push (e ∷ es) name facts i h = elim (cases_Bool (bytes_eq name e.0)) [
  | inl t ↦
      let here : Some i ≡ None = rw t at h in
      absurd (none-some i (sym here))
  | inr f ↦
      let more : place es name (i + 1) ≡ None = rw f at h in
      rw f (place-push es name facts (i + 1) more ∙ ap Some (omega arith))
]

push_place : {F : Type 0} (names : List (List ℕ × F)) (e : List ℕ × F) (n : ℕ) (name : List ℕ)
    → name_at (names ++ e ∷ []) n ≡ Some name
    → (name_at names n ≡ Some name) ⊎ ((n ≡ length names) × (name ≡ e.0))
push_place [] e zero name at = inr (refl, sym (same_some at))
push_place [] e (suc n) name at = absurd (none-some name at)
push_place (x ∷ xs) e zero name at = inl at
push_place (x ∷ xs) e (suc n) name at =
    elim (push_place xs e n name at) [ inl h ↦ inl h | inr h ↦ inr (omega (arith, h.0), h.1) ]

-- with one more name, that stood nowhere, no name stands twice
pub distinct-push : {F : Type 0} (names : List (List ℕ × F)) (name : List ℕ) (facts : F)
    → number_of names name ≡ None → AreDistinct names → AreDistinct (names ++ (name, facts) ∷ [])
distinct-push names name facts none distinct n x at = elim (push_place names (name, facts) n x at) [
  | inl h ↦ number_of-append names ((name, facts) ∷ []) x n (distinct n x h)
  | inr h ↦
      rw (h.0, h.1)
      (number_of-place (names ++ (name, facts) ∷ []) name
      ∙ place-push names name facts 0 (sym (number_of-place names name) ∙ none)
      ∙ ap Some (omega arith))
]
