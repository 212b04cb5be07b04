-- Names, each with the line that first defines it, in the order of those lines.
use Rattle.std.specs.Prelude.{ℕ, Bool, List, [], ◌∷◌, ◌++◌, Option, bytes_eq, is_some, if◌then◌else◌, map}
use Rattle.std.specs.Prelude.{length, nat_le, None, not}
use Rattle.std.specs.Map.{lookup}
use Rattle.hd_catalogue.specs.Lines.{first_cause}
use Rattle.hd_catalogue.specs.declared.cause.Cause.{Cause}
use Rattle.hd_catalogue.specs.declared.cause.Cause.TheVariants.{Double, Unknown, Limit}

-- the line that defines a name, None where none does
abbrev pub line_of : List (List ℕ × ℕ) → List ℕ → Option ℕ
line_of names name = lookup (bytes_eq name) names

abbrev pub is_defined : List (List ℕ × ℕ) → List ℕ → Bool
is_defined names name = is_some (line_of names name)

-- the names after a line that defines one: the line counts where no line before it defines the name
abbrev pub with_name : List (List ℕ × ℕ) → List ℕ → ℕ → List (List ℕ × ℕ)
with_name names name line = if is_defined names name then names else names ++ (name, line) ∷ []

-- why a name can't be defined, None where it can
abbrev pub cause_of_name : List (List ℕ × ℕ) → List ℕ → Bool → ℕ → Option Cause
cause_of_name names name known most = first_cause
    ((is_defined names name, Double)
    ∷ (not known, Unknown)
    ∷ (nat_le most (length names), Limit) ∷ []) None

-- the same names with other facts
abbrev pub named : {F : Type 0} → F → List (List ℕ × ℕ) → List (List ℕ × F)
named facts names = map (λ e. (e.0, facts)) names
