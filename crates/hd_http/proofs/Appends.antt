-- Pieces that are written one behind the other.
use Rattle.std.proofs.Common.{◌≡◌, ℕ, List, ◌++◌, append_assoc}

pub two_pieces : (o n₁ n₂ a b : List ℕ) → n₁ ≡ o ++ a → n₂ ≡ n₁ ++ b → n₂ ≡ o ++ (a ++ b)
two_pieces o n₁ n₂ a b first second = rw (second, first) (simp append_assoc)

pub three_pieces : (o n₁ n₂ n₃ a b c : List ℕ) → n₁ ≡ o ++ a → n₂ ≡ n₁ ++ b → n₃ ≡ n₂ ++ c
    → n₃ ≡ o ++ (a ++ b ++ c)
three_pieces o n₁ n₂ n₃ a b c first second third =
    rw (third, second, first) (simp append_assoc)
