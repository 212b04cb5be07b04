use Rattle.std.proofs.Common.{◌≡◌, refl, sym, ◌∙◌, Some}
use Rattle.std.specs.FinMap.{get}
use Rattle.hd_loans.proofs.LinkedLemmas.{AreLinked-replace}
use Rattle.hd_loans.proofs.linked.LinkedLoans.renew.Goals as goal

pub set-requires : goal.set-requires
set-requires g c =
    let some : get c.self.inside.table.entries c.number-at.result ≡ Some c.in-Some.loan =
    sym (c.in-Some.ensures ∙ c.get.ensures)
    in (c.self.invariant.loan.within c.number-at.result c.in-Some.loan some).0

pub invariant_of-self : goal.invariant_of-self
invariant_of-self g c =
    let some : get c.self.inside.table.entries c.number-at.result ≡ Some c.in-Some.loan =
    sym (c.in-Some.ensures ∙ c.get.ensures)
    in rw (c.set.ensures.entries, c.set.ensures.size)
    (AreLinked-replace c.self.inside.table.entries c.self.inside.table.size c.number-at.result
    c.in-Some.loan _
    c.self.inside.lists.firsts c.self.inside.lists.nexts c.self.invariant some refl)
