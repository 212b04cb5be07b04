use Rattle.hd_replay.proofs.Determined.{one_written, one_written_over}
use Rattle.hd_replay.proofs.laws.replays_are_determined.Goals as goal

pub returns-clause-standard : goal.returns-clause-standard
returns-clause-standard c =
    one_written c.scripts_are_determined.ensures.shown c.accepted_or_refused.ensures.one
    c.texts_show_one_stamp.ensures.one

pub returns-clause-extended : goal.returns-clause-extended
returns-clause-extended c = one_written_over c.scripts_are_determined.ensures.shown
