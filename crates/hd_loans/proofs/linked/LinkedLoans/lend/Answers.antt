use Rattle.std.proofs.Common.{◌≡◌, ◌<◌, ap, arith, refl, None, length}
use Rattle.std.specs.FinMap.{get}
use Rattle.hd_loans.specs.Lent.{is_lent_to}
use Rattle.hd_loans.specs.Links.{IsLastBelow}
use Rattle.hd_loans.proofs.LinksLemmas.{last-room}
use Rattle.hd_loans.proofs.linked.LinkedLoans.lend.Goals as goal

pub invariant_of-self : goal.invariant_of-self
invariant_of-self g c =
    let inside = c.self.inside
    in let last_is : IsLastBelow
    (is_lent_to inside.table.entries c.args.loan.patron) c.args.copy c.last_below-last.result =
    rw (ap (λ v. v.loans) c.self.view_is) c.last_below-last.ensures
    in let free : get inside.table.entries c.args.copy ≡ None =
    rw (ap (λ v. v.loans) c.self.view_is) c.requires.free
    in rw (c.set.ensures.entries, c.set.ensures.size, c.number.ensures.value)
    (c.put.ensures.linked inside.table.entries inside.table.size c.args.loan refl
    (record { free = free; last_is = last_is })
    c.self.invariant)
