use Rattle.hd_opening.proofs.FileLemmas.{told_one, told_refused}
use Rattle.hd_opening.proofs.LimitLemmas.{told_in}
use Rattle.hd_opening.proofs.laws.told_or_refused.Goals as goal

pub returns-clause-one : goal.returns-clause-one
returns-clause-one c = told_one

pub returns-clause-refused : goal.returns-clause-refused
returns-clause-refused c = told_refused

pub returns-clause-limits : goal.returns-clause-limits
returns-clause-limits c = told_in
