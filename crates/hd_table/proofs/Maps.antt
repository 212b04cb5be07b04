-- What a finite map from numbers answers after a change.
use Rattle.std.proofs.Common.{◌≡◌, ℕ, ◌==◌, cond, Option, None, Some, ap, sym, ◌∙◌, inl, inr}
use Rattle.std.proofs.lemmas.Bool.{cases_Bool, eqb-true}
use Rattle.std.specs.Ordering.{nat_cmp}
use Rattle.std.specs.Cmp.{nat_cmp_total, unsigned_tied}
use Rattle.std.specs.FinMap.{FinMap, get, insert, remove, same_map, nat_cmp-IsAntisymmetric, get-insert}
use Rattle.std.specs.FinMap.{get-remove}

-- after an insertion
pub get-insert_number : {X : Type 0} (m : FinMap nat_cmp X) (k : ℕ) (v : X) (q : ℕ) →
    get (insert m k v) q ≡ cond (q == k) (Some v) (get m q)
get-insert_number m k v q = get-insert nat_cmp_total m k v q
    ∙ ap (λ b. cond b (Some v) (get m q)) (unsigned_tied q k)

-- and after a removal
pub get-remove_number : {X : Type 0} (m : FinMap nat_cmp X) (k q : ℕ)
    → get (remove m k) q ≡ cond (q == k) None (get m q)
get-remove_number m k q = get-remove nat_cmp_total m k q ∙ ap (λ b. cond b None (get m q)) (unsigned_tied q k)

absent : {X : Type 0} (m : FinMap nat_cmp X) (k q : ℕ) → get m k ≡ None
    → cond (q == k) None (get m q) ≡ get m q
absent m k q none = elim (cases_Bool (q == k)) [
  | inl e ↦ rw e (sym (ap (get m) (eqb-true q k e) ∙ none))
  | inr e ↦ rw e
]

-- nothing is to remove where the map has no value
pub remove-absent : {X : Type 0} (m : FinMap nat_cmp X) (k : ℕ) → get m k ≡ None → remove m k ≡ m
remove-absent m k none =
    same_map nat_cmp_total nat_cmp-IsAntisymmetric (remove m k) m
    (λ q. get-remove_number m k q ∙ absent m k q none)
