-- The file of the names that joined a library.
use Rattle.std.specs.Prelude.{ℕ, List, ◌∷◌, ◌++◌, codes}
use Rattle.hex.specs.Hex.{encode_lower}
use Rattle.sha2.specs.Sha256.{sha256}

-- a first line with the digest of what follows, and the lines
abbrev pub joined_text : List ℕ → List ℕ
joined_text lines = codes "H|joined|1|" ++ encode_lower (sha256 lines) ++ 10 ∷ lines
