-- Receipts that cover every turn, as many as there are turns, are the turns' receipts in another order.
use Rattle.std.proofs.Common.{◌≡◌, ℕ, zero, suc, ◌+◌, List, [], ◌∷◌, length, Some, slice_get, refl, arith}
use Rattle.std.proofs.Common.{sym, ap}
use Rattle.std.specs.List.{Contains, remove}
use Rattle.std.specs.List.Sorted.{IsPermutation}
use Rattle.std.proofs.lemmas.List.Sorted.{IsPermutation-refl, IsPermutation-sym, IsPermutation-cons}
use Rattle.std.proofs.lemmas.List.Sorted.{IsPermutation-trans}
use Rattle.std.proofs.lemmas.List.Sorted.{IsPermutation-remove, Contains-permutation, length_permutation}
use Rattle.hd_rules.specs.Journal.{Turn}
use Rattle.hd_hall.specs.Receipts.{Receipted, with_numbers}

abbrev pub receipt_of : ℕ → Turn → Receipted
receipt_of n t = record { number = n; turn = t }

-- of a list with x in front, a member of another number is behind it
behind : (x y : Receipted) (rs : List Receipted) → (x.number ≡ y.number → ⊥) → Contains (x ∷ rs) y
    → Contains rs y
behind x y rs other (zero, h, is) = absurd (other (ap (λ (r : Receipted). r.number) is))
behind x y rs other (suc k, h, is) = (k, omega arith, is)

-- each turn from n + 1 on has its receipt
abbrev pub Covers : ℕ → List Turn → List Receipted → Type 0
Covers n ts rs = (k m : ℕ) (t : Turn) → slice_get ts k ≡ Some t → m ≡ n + k + 1 → Contains rs (receipt_of m t)

pub covers_permutes : (n : ℕ) (ts : List Turn) (rs : List Receipted) → length rs ≡ length ts → Covers n ts rs
    → IsPermutation (with_numbers n ts) rs
covers_permutes n [] [] len covers = IsPermutation-refl []
covers_permutes n [] (r ∷ rs) len covers = absurd (omega arith)
covers_permutes n (t ∷ ts) rs len covers =
    let x = receipt_of (n + 1) t in
    let at = covers 0 (n + 1) t refl (omega arith) in
    let i = at.0 in
    let out = IsPermutation-remove rs i x at.1 (sym at.2) in
    let fewer = length_permutation rs (x ∷ remove rs i) out in
    let rest = covers_permutes (n + 1) ts (remove rs i) (omega arith)
    (λ k m u is eq. behind x (receipt_of m u) (remove rs i) (λ same. absurd (omega arith))
    (Contains-permutation rs (x ∷ remove rs i) (receipt_of m u) out (covers (suc k) m u is (omega arith)))) in
    IsPermutation-trans (with_numbers n (t ∷ ts)) (x ∷ remove rs i) rs
    (IsPermutation-cons x (with_numbers (n + 1) ts) (remove rs i) rest)
    (IsPermutation-sym rs (x ∷ remove rs i) out)
