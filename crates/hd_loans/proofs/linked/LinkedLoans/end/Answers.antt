use Rattle.std.proofs.Common.{◌≡◌, ◌∙◌, ap, refl, sym, Some, None}
use Rattle.std.specs.FinMap.{get}
use Rattle.hd_lemmas.proofs.Maps.{remove-absent}
use Rattle.hd_loans.proofs.linked.LinkedLoans.end.Goals as goal

pub returns-in_err-loan-clause-loans : goal.returns-in_err-loan-clause-loans
returns-in_err-loan-clause-loans g c =
    let entries = c.self.inside.table.entries
    in let there : get entries c.number-at.result ≡ None = sym (c.in_err-loan.ensures ∙ c.get.ensures)
    in let none : get entries c.args.copy ≡ None = (rw c.number-at.ensures.value at there)
    in rw (← c.self.view_is) (sym (remove-absent entries c.args.copy none))

pub invariant_of-self : goal.invariant_of-self
invariant_of-self g c =
    let inside = c.self.inside
    in let found : get inside.table.entries c.number-at.result ≡ Some c.in_ok-loan.loan =
    sym (c.in_ok-loan.ensures ∙ c.get.ensures)
    in let some : get inside.table.entries c.args.copy ≡ Some c.in_ok-loan.loan =
    (rw c.number-at.ensures.value at found)
    in rw (c.take.ensures.entries, c.take.ensures.size, c.number-at.ensures.value)
    (c.take-2.ensures.linked inside.table.entries inside.table.size c.in_ok-loan.loan refl
    (record { lent = some; last_is = rw (ap (λ v. v.loans) c.self.view_is) c.last_below-last.ensures })
    c.self.invariant)
