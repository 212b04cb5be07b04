-- The stamps of the holds of a title, by patron.
use Rattle.std.specs.Prelude.{ℕ, ◌==◌, List, Option}
use Rattle.std.specs.Map.{lookup}

-- patrons and the stamps of their holds, and how many more there is room for
pub record StampsValue : Type 0 where
  pub entries : List (ℕ × ℕ)
  pub room : ℕ

-- the stamp of a patron's hold, if any
abbrev pub stamp_of : StampsValue → ℕ → Option ℕ
stamp_of stamps patron = lookup (λ p. patron == p) stamps.entries
