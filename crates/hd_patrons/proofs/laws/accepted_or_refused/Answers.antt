use Rattle.hd_patrons.proofs.FileLemmas.{accepted_one, accepted_refused, first_bad_one}
use Rattle.hd_patrons.proofs.laws.accepted_or_refused.Goals as goal

pub returns-clause-refused : goal.returns-clause-refused
returns-clause-refused c = accepted_refused

pub returns-clause-one : goal.returns-clause-one
returns-clause-one c = accepted_one

pub returns-clause-first : goal.returns-clause-first
returns-clause-first c = first_bad_one
