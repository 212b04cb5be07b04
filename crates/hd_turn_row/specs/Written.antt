-- Numbers as bytes: eight each, the most significant first.
use Rattle.std.specs.Prelude.{◌≡◌, ℕ, ◌<◌, ◌^◌, List, [], ◌∷◌, ◌++◌}
use Rattle.std.specs.Int.{to_be_bytes, w64}

-- The new bytes are the old ones with these numbers behind them, each of 64 bits.
abbrev pub IsWritten : List ℕ → List ℕ → List ℕ → Type 0
IsWritten [] old new = new ≡ old
IsWritten (n ∷ ns) old new = (n < 2 ^ 64) × IsWritten ns (old ++ to_be_bytes w64 n) new
