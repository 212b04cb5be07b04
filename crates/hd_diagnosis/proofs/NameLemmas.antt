-- Names by their lines, as a catalogue has them and as a map keeps them.
use Rattle.std.proofs.Common.{◌≡◌, ℕ, Bool, cond, None, Some, List, [], ◌∷◌, ◌++◌, map, length, refl, ap}
use Rattle.std.proofs.Common.{sym, inl, inr, arith}
use Rattle.std.specs.Prelude.{bytes_eq, is_some}
use Rattle.std.specs.Map.{lookup}
use Rattle.std.proofs.lemmas.Bool.{cases_Bool}
use Rattle.std.proofs.lemmas.Bool.Decides.{nat_tests}
use Rattle.std.proofs.lemmas.List.{length-map}
use Rattle.std.proofs.lemmas.Option.{none-some}
use Rattle.indexmap.specs.IndexMap.{insert_entry}
use Rattle.hd_catalogue.specs.Names.{number_of}
use Rattle.hd_catalogue.specs.Lines.{name_cause}
use Rattle.hd_diagnosis.specs.Names.{cause_of_name, is_defined, line_of, named}

-- an entry of a map as a name with its line
abbrev pub entry : {V : Type 0} → (V → List ℕ) → V × ℕ → List ℕ × ℕ
entry items e = (items e.0, e.1)

-- a look-up in the map is one among the names
pub lookup-entry : {V : Type 0} (items : V → List ℕ) (name : List ℕ) (es : List (V × ℕ))
    → lookup (λ v. bytes_eq name (items v)) es ≡ line_of (map (entry items) es) name
lookup-entry items name [] = refl
lookup-entry items name (e ∷ es) =
    ap (cond (bytes_eq name (items e.0)) (Some e.1)) (lookup-entry items name es)

-- a name that isn't there goes last
pub insert-new : {V : Type 0} (items : V → List ℕ) (es : List (V × ℕ)) (k : V) (line : ℕ)
    → line_of (map (entry items) es) (items k) ≡ None
    → map (entry items) (insert_entry (λ a b. bytes_eq (items a) (items b)) es k line)
    ≡ map (entry items) es ++ (items k, line) ∷ []
insert-new items [] k line none = refl
insert-new items (e ∷ es) k line none = elim (cases_Bool (bytes_eq (items k) (items e.0))) [
  | inl t ↦ absurd (none-some e.1 (sym (rw t at none)))
  | inr f ↦ rw f (ap (λ ns. entry items e ∷ ns) (insert-new items es k line (rw f at none)))
]

-- what a catalogue with these names has a number of, a line defines
pub has_number : {F : Type 0} (facts : F) (names : List (List ℕ × ℕ)) (name : List ℕ)
    → is_some (number_of (named facts names) name) ≡ is_defined names name
has_number facts [] name = refl
has_number facts (e ∷ es) name = elim (cases_Bool (bytes_eq name e.0)) [
  | inl t ↦ rw t (grind (arith, nat_tests))
  | inr f ↦ rw f (grind (arith, nat_tests, has_number facts es name))
]

-- it has as many
pub count_named : {F : Type 0} (facts : F) (names : List (List ℕ × ℕ))
    → length (named facts names) ≡ length names
count_named facts names = length-map names (λ e. (e.0, facts))

-- and it refuses a name for the same cause
pub same_cause : {F : Type 0} (facts : F) (names : List (List ℕ × ℕ)) (name : List ℕ) (known : Bool)
    (most : ℕ) → name_cause (named facts names) name known most ≡ cause_of_name names name known most
same_cause facts names name known most =
    rw (has_number facts names name, count_named facts names) refl

-- what a catalogue with the names defined so far says of a name
pub ruleset names_defined = (same_cause, has_number, count_named)
