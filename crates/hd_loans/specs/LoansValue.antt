-- What contracts see of the loans of a desk.
use Rattle.std.specs.Prelude.{ℕ, refl}
use Rattle.std.specs.Ordering.{nat_cmp}
use Rattle.std.specs.FinMap as map
use Rattle.std.specs.Coded.{Coded, code_by, coded×, coded_ℕ}
use Rattle.hd_rules.specs.declared.copies.Loan.{Loan}

-- loans by copy
abbrev pub LoansMap : Type 0
LoansMap = map.FinMap nat_cmp Loan

-- the loan of each copy that is on loan; copies and patrons below these numbers have room
pub record LoansValue : Type 0 where
  pub loans : map.FinMap nat_cmp Loan
  pub copies : ℕ
  pub patrons : ℕ

-- a loan is stored as the tuple of its fields
abbrev pub loan_code : Coded Loan
loan_code =
    code_by (ℕ × (ℕ × ℕ)) (coded× coded_ℕ (coded× coded_ℕ coded_ℕ)) (λ l. (l.patron, (l.due, l.renewals)))
    (λ p. record { patron = p.0; due = p.1.0; renewals = p.1.1 }) (λ _. refl)

-- and so are the loans of a desk
abbrev pub loans_code : Coded LoansValue
loans_code =
    code_by (map.FinMap nat_cmp Loan × (ℕ × ℕ)) (coded× (map.code coded_ℕ loan_code) (coded× coded_ℕ coded_ℕ))
    (λ l. (l.loans, (l.copies, l.patrons))) (λ p. record { loans = p.0; copies = p.1.0; patrons = p.1.1 })
    (λ _. refl)
