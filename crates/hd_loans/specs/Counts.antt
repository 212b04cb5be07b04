-- How many loans each patron has.
use Rattle.std.specs.Prelude.{◌≡◌, ℕ, ◌<◌, ◌+◌, ◌^◌, length, Bool, false, ◌==◌, Option, None, Some, List}
use Rattle.std.specs.Prelude.{slice_index}
use Rattle.std.specs.Ordering.{nat_cmp}
use Rattle.std.specs.FinMap as map
use Rattle.hd_rules.specs.declared.copies.Loan.{Loan}
use Rattle.hd_rules.specs.Choose.{count_below}
use Rattle.hd_loans.specs.LoansValue.{LoansValue}

-- a loan to this patron
abbrev pub is_loan_to : ℕ → Option Loan → Bool
is_loan_to patron None = false
is_loan_to patron (Some loan) = loan.patron == patron

-- how many of the copies below a number are on loan to a patron
abbrev pub loans_of : map.FinMap nat_cmp Loan → ℕ → ℕ → ℕ
loans_of loans copies patron = count_below (λ copy. is_loan_to patron (map.get loans copy)) copies

-- each loan is of a copy and a patron below these numbers
abbrev pub AreBelow : map.FinMap nat_cmp Loan → ℕ → ℕ → Type 0
AreBelow loans copies patrons = (copy : ℕ) (loan : Loan) → map.get loans copy ≡ Some loan →
    (copy < copies) × (loan.patron < patrons)

-- the numbers kept for the patrons are those of their loans
pub record AreLoanCounts (loans : map.FinMap nat_cmp Loan) (copies : ℕ) (counts : List ℕ) : Type 0 where
  pub each : (patron : ℕ) → patron < length counts → slice_index counts patron ≡ loans_of loans copies patron
  pub within : AreBelow loans copies (length counts)
  pub few : copies < 2 ^ 32

-- so it is for these loans, with a number for each patron that has room
pub record AreCounted (linked : LoansValue) (counts : List ℕ) : Type 0 where
  pub counted : AreLoanCounts linked.loans linked.copies counts
  pub room : length counts ≡ linked.patrons

-- a loan that can be renewed once more
abbrev pub IsRenewable : Option Loan → Type 0
IsRenewable None = ⊥
IsRenewable (Some loan) = loan.renewals + 1 < 2 ^ 32

-- the loan with a new due day, renewed once more
abbrev pub renewed_loan : Loan → ℕ → Loan
renewed_loan loan due = record { patron = loan.patron; due = due; renewals = loan.renewals + 1 }

-- the loans with that of a copy renewed
abbrev pub with_renewal : map.FinMap nat_cmp Loan → ℕ → ℕ → map.FinMap nat_cmp Loan
with_renewal loans copy due =
    elim (map.get loans copy) [ None ↦ loans | Some loan ↦ map.insert loans copy (renewed_loan loan due) ]
