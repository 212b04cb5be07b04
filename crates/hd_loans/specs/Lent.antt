-- The copies that a patron has on loan.
use Rattle.std.specs.Prelude.{ℕ, ◌-◌, Bool, List}
use Rattle.std.specs.List.{filter, range_with_len}
use Rattle.std.specs.FinMap as map
use Rattle.hd_loans.specs.LoansValue.{LoansMap}
use Rattle.hd_loans.specs.Counts.{is_loan_to}

-- this copy is lent to the patron
abbrev pub is_lent_to : LoansMap → ℕ → ℕ → Bool
is_lent_to loans patron copy = is_loan_to patron (map.get loans copy)

-- the copies below a number that are lent to the patron, each once, by rising number
abbrev pub lent_to : LoansMap → ℕ → ℕ → List ℕ
lent_to loans copies patron = filter (is_lent_to loans patron) (range_with_len 0 copies)

-- those of them from a copy on
abbrev pub lent_from : LoansMap → ℕ → ℕ → ℕ → List ℕ
lent_from loans copies patron copy = filter (is_lent_to loans patron) (range_with_len copy (copies - copy))
