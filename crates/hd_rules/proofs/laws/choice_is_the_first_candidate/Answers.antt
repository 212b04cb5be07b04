use Rattle.hd_rules.proofs.First.{choice_is_first}
use Rattle.hd_rules.proofs.Only.{choice_is_only}
use Rattle.hd_rules.proofs.laws.choice_is_the_first_candidate.Goals as goal

pub returns : goal.returns
returns c = record { first = choice_is_first; only = choice_is_only }
