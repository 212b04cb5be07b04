use Rattle.hd_journal_file.proofs.Held.{opened_is_kept}
use Rattle.hd_journal_file.proofs.laws.what_was_committed_is_opened.Goals as goal

pub returns : goal.returns
returns g c k left wanted turns opened = opened_is_kept c.a_row_is_of_one_message.ensures.one
