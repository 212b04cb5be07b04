-- Lemmas on lists of slots as finite maps.
use Rattle.std.proofs.Common.{◌≡◌, ℕ, ◌+◌, ◌<◌, ◌≤◌, false, cond, ◌==◌, zero, suc, List, [], ◌∷◌, ◌++◌}
use Rattle.std.proofs.Common.{Option, None, Some, refl, ap, sym}
use Rattle.std.proofs.Common.{◌∙◌, inl, inr, arith, length, get_or, set, get_or-set_other}
use Rattle.std.proofs.lemmas.Bool.Decides.{nat_tests, Decides-eqb}
use Rattle.std.proofs.lemmas.Grind.{get_or-set_at}
use Rattle.std.proofs.lemmas.Bool.{cases_Bool}
use Rattle.std.proofs.lemmas.List.{get_or_past}
use Rattle.std.specs.Ordering.{nat_cmp, eq_by_cmp}
use Rattle.std.specs.Cmp.{nat_cmp_total}
use Rattle.std.specs.FinMap.{FinMap, get, insert, remove, find, same_map, nat_cmp-IsAntisymmetric, get-empty}
use Rattle.std.specs.FinMap.{get-from_entries}
use Rattle.hd_table.specs.Slots.{entries_from, map_of}
use Rattle.hd_table.proofs.Maps.{get-insert_number, get-remove_number}

-- the order of numbers ties equal ones
eq_by_nat_cmp : (a b : ℕ) → eq_by_cmp nat_cmp a b ≡ (a == b)
eq_by_nat_cmp a b = grind (arith, nat_tests)

-- no entry is below the first index
find-entries_below : {X : Type 0} (slots : List (Option X)) (n q : ℕ) → q < n
    → find nat_cmp q (entries_from n slots) ≡ None
find-entries_below [] n q l = refl
find-entries_below (None ∷ slots) n q l = find-entries_below slots (n + 1) q (omega arith)
find-entries_below (Some x ∷ slots) n q l =
    grind (arith, nat_tests, eq_by_nat_cmp q n, find-entries_below slots (n + 1) q)

-- an entry is found where its slot has a value
find-entries : {X : Type 0} (slots : List (Option X)) (n q : ℕ)
    → find nat_cmp (n + q) (entries_from n slots) ≡ get_or slots q None
find-entries [] n q = refl
find-entries (None ∷ slots) n zero = find-entries_below slots (n + 1) (n + 0) (omega arith)
find-entries (None ∷ slots) n (suc q) = ap (λ k. find nat_cmp k (entries_from (n + 1) slots)) (omega arith)
    ∙ find-entries slots (n + 1) q
find-entries (Some x ∷ slots) n zero = grind (arith, nat_tests, eq_by_nat_cmp (n + 0) n)
find-entries (Some x ∷ slots) n (suc q) =
    let apart : eq_by_cmp nat_cmp (n + suc q) n ≡ false =
    grind (arith, nat_tests, eq_by_nat_cmp (n + suc q) n)
    in rw apart
    (ap (λ k. find nat_cmp k (entries_from (n + 1) slots)) (omega arith) ∙ find-entries slots (n + 1) q)

-- the map has what stands in the slot
pub get-map_of : {X : Type 0} (slots : List (Option X)) (q : ℕ) → get (map_of slots) q ≡ get_or slots q None
get-map_of slots q = get-from_entries nat_cmp_total (entries_from 0 slots) q
    ∙ ap (λ k. find nat_cmp k (entries_from 0 slots)) (omega arith)
    ∙ find-entries slots 0 q

-- two maps of numbers that answer alike are equal
pub same_number_map : {X : Type 0} (m n : FinMap nat_cmp X) → ((q : ℕ) → get m q ≡ get n q) → m ≡ n
same_number_map m n is = same_map nat_cmp_total nat_cmp-IsAntisymmetric m n is

-- one slot is written
get_or-set : {X : Type 0} (slots : List (Option X)) (k q : ℕ) (o : Option X) → k < length slots →
    get_or (set slots k o) q None ≡ cond (q == k) o (get_or slots q None)
get_or-set slots k q o l = elim (cases_Bool (q == k)) [
  | inl e ↦ rw e (get_or-set_at slots k q o None ((Decides-eqb q k).0 e) l)
  | inr e ↦ rw e (get_or-set_other slots k q o None (λ same. grind (arith, nat_tests)))
]

-- a slot past the end is empty
past : {X : Type 0} (slots : List (Option X)) (k q : ℕ) → length slots ≤ k
    → get_or slots q None ≡ cond (q == k) None (get_or slots q None)
past slots k q l = elim (cases_Bool (q == k)) [
  | inl e ↦ rw e (get_or_past slots q None (grind (arith, nat_tests, e)))
  | inr e ↦ rw e
]

-- an empty slot at the end adds nothing
get_or-push : {X : Type 0} (slots : List (Option X)) (q : ℕ)
    → get_or (slots ++ None ∷ []) q None ≡ get_or slots q None
get_or-push [] zero = refl
get_or-push [] (suc q) = refl
get_or-push (o ∷ slots) zero = refl
get_or-push (o ∷ slots) (suc q) = get_or-push slots q

-- to write a slot is to insert
pub map_of-set : {X : Type 0} (slots : List (Option X)) (k : ℕ) (x : X) → k < length slots →
    map_of (set slots k (Some x)) ≡ insert (map_of slots) k x
map_of-set slots k x l =
    same_number_map _ _ (λ q. get-map_of _ q ∙ get_or-set slots k q (Some x) l
    ∙ sym (get-insert_number _ k x q ∙ ap (cond (q == k) (Some x)) (get-map_of slots q)))

-- to clear a slot is to remove
pub map_of-clear : {X : Type 0} (slots : List (Option X)) (k : ℕ) → k < length slots
    → map_of (set slots k None) ≡ remove (map_of slots) k
map_of-clear slots k l =
    same_number_map _ _ (λ q. get-map_of _ q ∙ get_or-set slots k q None l
    ∙ sym (get-remove_number _ k q ∙ ap (cond (q == k) None) (get-map_of slots q)))

-- past the end nothing is there to remove
pub map_of-past : {X : Type 0} (slots : List (Option X)) (k : ℕ) → length slots ≤ k
    → map_of slots ≡ remove (map_of slots) k
map_of-past slots k l =
    same_number_map _ _ (λ q. get-map_of slots q ∙ past slots k q l
    ∙ sym (get-remove_number _ k q ∙ ap (cond (q == k) None) (get-map_of slots q)))

-- an empty slot at the end leaves the map as it is
pub map_of-push : {X : Type 0} (slots : List (Option X)) → map_of (slots ++ None ∷ []) ≡ map_of slots
map_of-push slots = same_number_map _ _ (λ q. get-map_of _ q ∙ get_or-push slots q ∙ sym (get-map_of slots q))

-- what a map of numbers answers after each change
pub ruleset entries = (get-empty, get-insert_number, get-remove_number)
