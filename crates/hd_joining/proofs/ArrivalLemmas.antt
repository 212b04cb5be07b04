-- Copies that arrive, one after another; and names that no number has.
use Rattle.std.proofs.Common.{◌≡◌, sym, ap, ◌∙◌, ℕ, suc, ◌+◌, ◌-◌, ◌<◌, ◌≤◌, true, List, []}
use Rattle.std.proofs.Common.{◌∷◌, ◌++◌, length, arith, append_assoc, Some, inl, inr}
use Rattle.std.specs.Prelude.{bytes_eq, is_none, not}
use Rattle.std.specs.List.{prefix_len}
use Rattle.std.proofs.lemmas.Bool.{cases_Bool}
use Rattle.std.proofs.lemmas.Bool.Decides.{nat_tests}
use Rattle.std.proofs.lemmas.Slice.Eq.{bytes_eq-Decides}
use Rattle.hd_rules.specs.declared.rows.OpeningRow.{OpeningRow}
use Rattle.hd_rules.specs.declared.rows.OpeningRow.TheVariants as row
use Rattle.hd_rules.specs.Numbers.{BranchNo, CopyNo}
use Rattle.hd_rules.specs.Growth.{arrivals}
use Rattle.hd_catalogue.specs.Names.{name_at, number_of}

-- the first of those that are left arrives, and the others behind it
pub one_arrives : (home : CopyNo → BranchNo) (number count : ℕ) (rows : List OpeningRow) → number < count
    → (rows ++ row.Transit number (home number) (home number) ∷ []) ++ arrivals home (number + 1) (count - (number + 1))
    ≡ rows ++ arrivals home number (count - number)
one_arrives home number count rows below =
    let more : count - number ≡ suc (count - (number + 1)) = omega arith in
    append_assoc rows (row.Transit number (home number) (home number) ∷ [])
    (arrivals home (number + 1) (count - (number + 1)))
    ∙ ap (λ n. rows ++ arrivals home number n) (sym more)

-- where no number has a name, it isn't there
prefix_none : {F : Type 0} (names : List (List ℕ × F)) (name : List ℕ)
    → ((n : ℕ) → n < length names → ¬ (name_at names n ≡ Some name))
    → length names ≤ prefix_len (λ e. not (bytes_eq name e.0)) names
prefix_none [] name none = omega arith
prefix_none (e ∷ es) name none = elim (cases_Bool (bytes_eq name e.0)) [
  | inl t ↦ absurd (none 0 (omega arith) (ap Some (sym ((bytes_eq-Decides name e.0).0 t))))
  | inr t ↦
      let rest = prefix_none es name (λ n below. none (suc n) (omega (arith, below))) in
      rw t (omega (arith, rest))
]

pub no_number : {F : Type 0} (names : List (List ℕ × F)) (name : List ℕ)
    → ((n : ℕ) → n < length names → ¬ (name_at names n ≡ Some name)) → is_none (number_of names name) ≡ true
no_number names name none = let rest = prefix_none names name none in grind (arith, nat_tests)
