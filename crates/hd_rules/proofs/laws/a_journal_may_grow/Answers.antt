use Rattle.hd_rules.proofs.GrownTurns.{legal_grown, state_grown, records_grown}
use Rattle.hd_rules.proofs.GrownArrivals.{arrivals_grow}
use Rattle.hd_rules.proofs.GrownOpening.{asks_grown, opens_grown, only_grown}
use Rattle.hd_rules.proofs.GrownTwice.{grows_twice}
use Rattle.hd_rules.proofs.laws.a_journal_may_grow.Goals as goal

pub returns : goal.returns
returns c = record {
  legal = legal_grown;
  state = state_grown;
  records = records_grown;
  asks = asks_grown;
  only = only_grown;
  twice = grows_twice;
  opens = opens_grown;
  arrivals = arrivals_grow;
}
