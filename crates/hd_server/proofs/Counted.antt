-- Survivors whose numbers rise are no more than the last number.
use Rattle.std.proofs.Common.{arith, ◌≡◌, sym, subst, ℕ, ◌+◌, ◌<◌, ◌≤◌, length, List, [], ◌∷◌}
use Rattle.hd_rules.specs.declared.commands.Survivor.{Survivor}
use Rattle.hd_rules.specs.Run.{Rising, next_number}

counted : (n : ℕ) (ss : List Survivor) → Rising n ss → length ss + n ≤ next_number n ss
counted n [] rising = omega arith
counted n (s ∷ ss) rising =
    let above : n ≤ s.number = rising.0 in
    let others : length ss + (s.number + 1) ≤ next_number (s.number + 1) ss =
    counted (s.number + 1) ss rising.1 in
    omega arith

-- where the last number is below a bound, so is how many they are
pub few : (most told last before : ℕ) (xs ss : List Survivor) → xs ≡ ss → told ≡ last → told < most
    → Rising (before + 1) ss → next_number (before + 1) ss ≤ last + 1 → 0 + length xs < most
few most told last before xs ss same is low rising up =
    let all : length ss + (before + 1) ≤ next_number (before + 1) ss = counted (before + 1) ss rising in
    subst (λ (l : List Survivor). 0 + length l < most) (sym same) (omega arith)
