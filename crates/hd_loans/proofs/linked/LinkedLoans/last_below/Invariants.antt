use Rattle.std.proofs.Common.{◌-◌}
use Rattle.hd_rules.specs.declared.limits.TheConstants.{MOST_COPIES}
use Rattle.hd_loans.specs.Lent.{is_lent_to}
use Rattle.hd_loans.proofs.LinksLemmas.{IsReached}
use Rattle.hd_loans.proofs.linked.LinkedLoans.last_below.Given as goal

abbrev pub invariant-loop-lent : goal.invariant-loop-lent
invariant-loop-lent g l = record {
  reached : IsReached (is_lent_to l.fn.self.loans l.fn.patron) l.fn.copy l.last l.link;
}

abbrev pub decreases-loop-lent : goal.decreases-loop-lent
decreases-loop-lent g l = MOST_COPIES - l.link
