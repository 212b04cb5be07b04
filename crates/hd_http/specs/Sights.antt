-- What may be seen of what is asked.
use Rattle.std.specs.Prelude.{◌≡◌, ℕ, List, ◌++◌, Result, Ok, Err}
use Rattle.hd_json.specs.Texts.{Member, array_text}
use Rattle.hd_http.specs.declared.view.Outcome.{Outcome}
use Rattle.hd_http.specs.declared.view.Outcome.TheVariants.{Written, Unknown, Refused}
use Rattle.hd_http.specs.declared.view.ViewFault.{ViewFault}

-- what is seen: rows of members, that there is nothing of this name or number, that there is no such day, or
-- nothing
pub data Sight : Type 0 where
  Rows : List (List Member) → Sight
  NoSuchName : Sight
  NoSuchDay : Sight
  NoSight : ViewFault → Sight

-- what may be seen is written after old, or nothing is
abbrev pub Writes : (Sight → Type 0) → Result Outcome ViewFault → List ℕ → List ℕ → Type 0
Writes may (Ok Written) old new = (rows : List (List Member)) × may (Rows rows)
    × (new ≡ old ++ array_text rows)
Writes may (Ok Unknown) old new = may NoSuchName × (new ≡ old)
Writes may (Ok Refused) old new = may NoSuchDay × (new ≡ old)
Writes may (Err fault) old new = may (NoSight fault)
