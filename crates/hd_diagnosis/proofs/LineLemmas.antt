-- Places in a list whose front was taken off.
use Rattle.std.proofs.Common.{◌≡◌, ℕ, zero, suc, ◌≤◌, None, List, [], ◌∷◌, drop, refl, arith}
use Rattle.std.proofs.Common.{sym}
use Rattle.std.specs.Prelude.{slice_get}
use Rattle.std.proofs.lemmas.Option.{none-some}

pub slice_get-drop : {A : Type 0} (n : ℕ) (xs : List A) → slice_get (drop n xs) 0 ≡ slice_get xs n
slice_get-drop zero xs = refl
slice_get-drop (suc n) [] = refl
slice_get-drop (suc n) (x ∷ xs) = slice_get-drop n xs

pub drop-suc : {A : Type 0} (n : ℕ) (xs : List A) → drop 1 (drop n xs) ≡ drop (suc n) xs
drop-suc zero xs = refl
drop-suc (suc n) [] = refl
drop-suc (suc n) (x ∷ xs) = drop-suc n xs

-- behind a place where nothing stands there is nothing
pub none_behind : {A : Type 0} (xs : List A) (n m : ℕ) → slice_get xs n ≡ None → n ≤ m → slice_get xs m ≡ None
none_behind [] n m none le = refl
none_behind (x ∷ xs) zero m none le = absurd (none-some x (sym none))
none_behind (x ∷ xs) (suc n) zero none le = absurd (omega arith)
none_behind (x ∷ xs) (suc n) (suc m) none le = none_behind xs n m none (omega arith)
