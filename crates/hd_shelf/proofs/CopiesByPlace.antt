-- What stands at each place after a copy is put and after one is taken away.
use Rattle.std.proofs.Common.{◌≡◌, ◌≢◌, ℕ, cond, None, Some, refl, ap, ◌∙◌}
use Rattle.std.proofs.lemmas.Bool.{ne_eqb, eq-eqb}
use Rattle.std.specs.Ordering.{nat_cmp}
use Rattle.std.specs.FinMap.{FinMap, get, insert, remove}
use Rattle.hd_lemmas.proofs.Maps.{get-insert_number, get-remove_number}

pub put_here : (m : FinMap nat_cmp ℕ) (k c : ℕ) → get (insert m k c) k ≡ Some c
put_here m k c = get-insert_number m k c k ∙ ap (λ b. cond b (Some c) (get m k)) (eq-eqb k k refl)

pub put_elsewhere : (m : FinMap nat_cmp ℕ) (k c q : ℕ) → q ≢ k → get (insert m k c) q ≡ get m q
put_elsewhere m k c q other =
    get-insert_number m k c q ∙ ap (λ b. cond b (Some c) (get m q)) (ne_eqb q k other)

pub taken_here : (m : FinMap nat_cmp ℕ) (k : ℕ) → get (remove m k) k ≡ None
taken_here m k = get-remove_number m k k ∙ ap (λ b. cond b None (get m k)) (eq-eqb k k refl)

pub taken_elsewhere : (m : FinMap nat_cmp ℕ) (k q : ℕ) → q ≢ k → get (remove m k) q ≡ get m q
taken_elsewhere m k q other = get-remove_number m k q ∙ ap (λ b. cond b None (get m q)) (ne_eqb q k other)
