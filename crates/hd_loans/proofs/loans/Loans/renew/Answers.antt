use Rattle.std.proofs.Common.{◌∙◌, sym}
use Rattle.hd_loans.proofs.LoansLemmas.{AreCounts-renew}
use Rattle.hd_loans.proofs.loans.Loans.renew.Goals as goal

pub invariant_of-self : goal.invariant_of-self
invariant_of-self g c = record {
  counted = rw (c.renew.ensures.loans, c.renew.ensures.copies)
      (AreCounts-renew c.self.inside.linked.loans c.self.inside.linked.copies c.args.copy c.args.due
      c.self.inside.counts.items
      c.self.invariant.counted);
  room = c.self.invariant.room ∙ sym c.renew.ensures.patrons;
}
