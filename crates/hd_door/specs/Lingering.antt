-- What is read and dropped of a client that has its answer.
use Rattle.std.specs.Prelude.{◌≡◌, ◌⊎◌, ◌<◌, ◌≤◌, ℕ, List, [], Option, length}
use Rattle.std.specs.Io.KnownBytes.{Consumes, IsAtEnd}

-- some bytes were taken by one read, as many as this, and no more than may be
pub record IsDroppedCount (most : ℕ) (before after : Option (List ℕ)) (count : ℕ) : Type 0 where
  pub bytes : List ℕ
  pub taken : Consumes before after bytes
  pub counted : length bytes ≡ count
  pub some : 0 < count
  pub within : count ≤ most

-- no byte was taken: the reader has ended, or a read failed, for this reason
abbrev pub IsNoneDropped : Type 0 → Option (List ℕ) → Option (List ℕ) → Type 0
IsNoneDropped fails before after = Consumes before after [] × (IsAtEnd after ⊎ fails)

-- All bytes were taken until the reader ended, or a read failed, for this reason; or 1,048,576 bytes.
abbrev pub IsDropped : Type 0 → Option (List ℕ) → Option (List ℕ) → Type 0
IsDropped fails before after =
    (bytes : List ℕ) × Consumes before after bytes × (length bytes ≤ 1048576)
    × ((IsAtEnd after ⊎ fails) ⊎ (length bytes ≡ 1048576))
