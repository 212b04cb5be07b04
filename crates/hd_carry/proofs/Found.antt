-- Names by number, and numbers by name.
use Rattle.std.proofs.Common.{◌≡◌, ℕ, ◌<◌, Option, None, Some, List, [], ◌∷◌, length, refl, ap, get_or}
use Rattle.std.proofs.Common.{sym, ◌∙◌, zero, suc, option_and_then, bytes_eq, arith}
use Rattle.std.specs.Prelude.{option_map}
use Rattle.std.proofs.lemmas.List.Quantifiers.{position-Some}
use Rattle.std.proofs.lemmas.Option.{none-some, same_Some, slice_get-get_or}
use Rattle.std.proofs.lemmas.Slice.Eq.{bytes_eq-Decides}
use Rattle.hd_catalogue.specs.Names.{AreDistinct, name_at, number_of}

-- the number of a name is a number of that name
number_found : {F : Type 0} (names : List (List ℕ × F)) (name : List ℕ) (n : ℕ)
    → number_of names name ≡ Some n → name_at names n ≡ Some name
number_found [] name n h = absurd (none-some n h)
number_found (e ∷ es) name n h =
    let found = position-Some (λ x. bytes_eq name x.0) (e ∷ es) n e h in
    let same : name ≡ (get_or (e ∷ es) n e).0 = (bytes_eq-Decides name (get_or (e ∷ es) n e).0).0 found.1 in
    ap (option_map (λ x. x.0)) (slice_get-get_or (e ∷ es) n e found.0) ∙ ap Some (sym same)

-- a number with a name is one of the list
pub in_range : {F : Type 0} (names : List (List ℕ × F)) (n : ℕ) (name : List ℕ) → name_at names n ≡ Some name
    → n < length names
in_range [] n name at = absurd (none-some name at)
in_range (e ∷ es) zero name at = omega arith
in_range (e ∷ es) (suc n) name at = omega (arith, in_range es n name at)

-- an old name that has a new number
pub record Renamed {F G : Type 0} (old : List (List ℕ × F)) (new : List (List ℕ × G)) (x z : ℕ) : Type 0 where
  pub name : List ℕ
  pub was : name_at old x ≡ Some name
  pub is : name_at new z ≡ Some name

pub renamed : {F G : Type 0} (old : List (List ℕ × F)) (new : List (List ℕ × G)) (x z : ℕ)
    → option_and_then (number_of new) (name_at old x) ≡ Some z → Renamed old new x z
renamed old new x z same = by_name (name_at old x) refl same
  where
    by_name : (o : Option (List ℕ)) → name_at old x ≡ o → option_and_then (number_of new) o ≡ Some z
        → Renamed old new x z
    by_name None was same = absurd (none-some z same)
    by_name (Some name) was same = record { name = name; was = was; is = number_found new name z same }

-- each name its own number
pub one_to_one : {F G : Type 0} (old : List (List ℕ × F)) (new : List (List ℕ × G)) → AreDistinct old
    → (x y z : ℕ)
    → Renamed old new x z → Renamed old new y z → x ≡ y
one_to_one old new distinct x y z one two =
    let same : one.name ≡ two.name = same_Some _ _ (sym one.is ∙ two.is) in
    same_Some _ _ (sym (distinct x one.name one.was) ∙ ap (number_of old) same ∙ distinct y two.name two.was)

pub never_some : (n : ℕ) → None ≡ Some n → ⊥
never_some n e = none-some n e
