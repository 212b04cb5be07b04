use Rattle.hd_date.proofs.StampLemmas.{no_fault, one_fault, same_stamp}
use Rattle.hd_date.proofs.law.texts_show_one_stamp.Goals as goal

pub returns-clause-one : goal.returns-clause-one
returns-clause-one c = same_stamp

pub returns-clause-one_fault : goal.returns-clause-one_fault
returns-clause-one_fault c = one_fault

pub returns-clause-no_fault : goal.returns-clause-no_fault
returns-clause-no_fault c = no_fault
