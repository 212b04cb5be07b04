use Rattle.hd_turn_row.proofs.RowLemmas.{row_faulty, row_known, row_once}
use Rattle.hd_turn_row.proofs.laws.a_row_is_of_one_message.Goals as goal

pub returns-clause-one : goal.returns-clause-one
returns-clause-one c = row_once c.texts_are_of_one_day.ensures

pub returns-clause-none : goal.returns-clause-none
returns-clause-none c = row_faulty c.texts_are_of_one_day.ensures

pub returns-clause-known : goal.returns-clause-known
returns-clause-known c = row_known
