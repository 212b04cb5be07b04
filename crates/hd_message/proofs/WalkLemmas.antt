-- A walk over the fields of a part finds the first value of each identifier.
use Rattle.std.proofs.Common.{◌≡◌, ℕ, Bool, true, false, cond, List, ◌∷◌, Option, None, Some, ◌∙◌, refl, sym}
use Rattle.std.proofs.Common.{ap, if◌then◌else◌}
use Rattle.std.specs.List.{find}
use Rattle.std.specs.Option.{option_map}
use Rattle.hd_field.specs.Fields.{Occurrence, has_code}
use Rattle.hd_message.specs.Values.{value_among}
use Rattle.hd_message.specs.Walk.{value_after}

-- a value that there is, or the first of those that come
abbrev pub or_among : Option (List ℕ) → List ℕ → List Occurrence → Option (List ℕ)
or_among (Some value) code os = Some value
or_among None code os = value_among code os

-- a field is passed
by_test : (code : List ℕ) (o : Occurrence) (os : List Occurrence) (found : Bool) →
    or_among (if found then Some o.value else None) code os
    ≡ option_map (λ (x : Occurrence). x.value) (cond found (Some o) (find (has_code code) os))
by_test code o os true = refl
by_test code o os false = refl

passed : (code : List ℕ) (o : Occurrence) (os : List Occurrence) (value : Option (List ℕ)) →
    or_among (value_after code o value) code os ≡ or_among value code (o ∷ os)
passed code o os (Some value) = refl
passed code o os None = by_test code o os (has_code code o)

-- and what is found in the end stays the same
pub still : (code : List ℕ) (o : Occurrence) (before os : List Occurrence)
    (value after whole : Option (List ℕ)) → before ≡ o ∷ os → after ≡ value_after code o value
    → or_among value code before ≡ whole → or_among after code os ≡ whole
still code o before os value after whole moved h g =
    ap (λ v. or_among v code os) h ∙ passed code o os value ∙ ap (or_among value code) (sym moved) ∙ g
