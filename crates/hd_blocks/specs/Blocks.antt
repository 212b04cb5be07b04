-- A list in blocks.
use Rattle.std.specs.Prelude.{◌≡◌, ℕ, ◌*◌, ◌≤◌, ◌<◌, ◌^◌, List, [], ◌∷◌, ◌++◌, length}

-- the items of the blocks, one block behind the other
abbrev pub all_items : {X : Type 0} → List (List X) → List X
all_items [] = []
all_items (block ∷ blocks) = block ++ all_items blocks

-- each block has as many items as it has room for, but for the last, which has no more
abbrev pub AreFilled : {X : Type 0} → ℕ → List (List X) → Type 0
AreFilled size [] = Unit {0}
AreFilled size (block ∷ []) = length block ≤ size
AreFilled size (block ∷ next ∷ blocks) = (length block ≡ size) × AreFilled size (next ∷ blocks)

-- The blocks of this many items, each with room for as many as its size. All that they have room for is a
-- number of 64 bits.
pub record AreBlocks {X : Type 0} (size count : ℕ) (blocks : List (List X)) : Type 0 where
  pub filled : AreFilled size blocks
  pub counted : count ≡ length (all_items blocks)
  pub room : size * length blocks < 2 ^ 64
