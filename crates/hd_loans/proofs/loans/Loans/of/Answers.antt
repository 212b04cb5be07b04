use Rattle.std.proofs.Common.{◌∙◌, ap, length}
use Rattle.hd_loans.proofs.LentLemmas.{lent_to-count}
use Rattle.hd_loans.proofs.loans.Loans.of.Goals as goal

pub returns-clause-count : goal.returns-clause-count
returns-clause-count g c =
    rw (← c.self.view_is) (ap length c.new.ensures
    ∙ lent_to-count c.self.inside.linked.loans c.self.inside.linked.copies c.args.patron)
