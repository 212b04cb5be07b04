use Rattle.hd_loans.proofs.LentLemmas.{lent_to-linked}
use Rattle.hd_loans.proofs.lent.LentCopies.new.Goals as goal

pub returns : goal.returns
returns g c =
    lent_to-linked c.args.loans.now.loans c.args.loans.now.copies c.args.patron c.first_of-next.result
    c.first_of-next.ensures.leads
