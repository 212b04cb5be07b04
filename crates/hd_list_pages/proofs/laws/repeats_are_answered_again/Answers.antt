use Rattle.hd_list_pages.proofs.Repeating.{answered_again}
use Rattle.hd_list_pages.proofs.laws.repeats_are_answered_again.Goals as goal

pub returns : goal.returns
returns c = answered_again c.tests_are_exact.ensures
