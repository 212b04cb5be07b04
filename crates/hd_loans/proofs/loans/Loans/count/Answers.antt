use Rattle.std.proofs.Common.{arith, sym}
use Rattle.hd_loans.proofs.LoansLemmas.{loans_of-past}
use Rattle.hd_loans.proofs.loans.Loans.count.Goals as goal

pub returns-else-at-len-clause-value : goal.returns-else-at-len-clause-value
returns-else-at-len-clause-value g c =
    rw (← c.self.view_is)
    (sym (loans_of-past c.self.inside.linked.loans c.self.inside.linked.copies c.self.inside.counts.items
    c.args.patron c.self.invariant.counted
    (omega (arith, c.self.inside.counts.ok, c.len.ensures, c.if-at-len.false, c.number-at.ensures.value))))
