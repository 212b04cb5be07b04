-- Numbers of names.
use Rattle.std.proofs.Common.{◌≡◌, ℕ, ◌<◌, Bool, not, Some, List, [], ◌∷◌, ◌++◌, length, get_or, sym, ap, ◌∙◌}
use Rattle.std.proofs.Common.{arith, length-append}
use Rattle.std.specs.List.{position, position_or_len}
use Rattle.std.proofs.lemmas.Grind.{common_steps}
use Rattle.std.proofs.lemmas.List.Folds.{prefix_len-append}
use Rattle.std.proofs.lemmas.List.Quantifiers.{position-Some}
use Rattle.std.proofs.lemmas.Slice.Eq.{bytes_eq-Decides}
use Rattle.std.specs.Prelude.{bytes_eq, option_map}
use Rattle.std.proofs.lemmas.Option.{none-some, same_Some, slice_get-get_or}
use Rattle.hd_catalogue.specs.Names.{name_at, number_of}
use Rattle.hd_turn_row.specs.Grown.{HasMore}

-- the number of a name is in range
pub number_known : {F : Type 0} (names : List (List ℕ × F)) (name : List ℕ) (n : ℕ)
    → number_of names name ≡ Some n → n < length names
number_known names name n h = grind (arith, common_steps)

-- what is found in a list is found in a longer one
position_more : {X : Type 0} (p : X → Bool) (xs more : List X) (n : ℕ) → position p xs ≡ Some n
    → position p (xs ++ more) ≡ Some n
position_more p xs more n is =
    let at : position_or_len p xs ≡ n = grind (arith, common_steps) in
    let low : position_or_len p xs < length xs = grind (arith, common_steps) in
    let same = prefix_len-append (λ x. not (p x)) xs more in
    grind (arith, common_steps, length-append xs more)

-- names after the others change no number
pub number_kept : {F : Type 0} (old new : List (List ℕ × F)) (name : List ℕ) (n : ℕ) → HasMore old new
    → number_of old name ≡ Some n → number_of new name ≡ Some n
number_kept old new name n more h = rw more.1 (position_more (λ e. bytes_eq name e.0) old more.0 n h)

-- a name with another number than its own is another
pub other_name : {F : Type 0} (names : List (List ℕ × F)) (name other : List ℕ) (n : ℕ)
    → name_at names n ≡ Some other → (other ≡ name → ⊥) → number_of names name ≡ Some n → ⊥
other_name [] name other n at differ found = none-some n found
other_name (e ∷ es) name other n at differ found =
    let here = position-Some (λ x. bytes_eq name x.0) (e ∷ es) n e found in
    let same : name ≡ (get_or (e ∷ es) n e).0 = (bytes_eq-Decides name (get_or (e ∷ es) n e).0).0 here.1 in
    let is = slice_get-get_or (e ∷ es) n e here.0 in
    differ (same_Some _ _ (sym at ∙ ap (option_map (λ x. x.0)) is) ∙ sym same)
