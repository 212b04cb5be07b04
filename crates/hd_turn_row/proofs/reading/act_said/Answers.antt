use Rattle.hd_turn_row.proofs.ActLemmas.{act_unsaid}
use Rattle.hd_turn_row.proofs.reading.act_said.Goals as goal

pub returns-in-None-clause-none : goal.returns-in-None-clause-none
returns-in-None-clause-none c act is = act_unsaid c.args.word.now act c.in-None.ensures is
