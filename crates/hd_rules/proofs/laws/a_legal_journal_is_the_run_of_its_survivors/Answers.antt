use Rattle.hd_rules.proofs.Journals.{legal_is_run}
use Rattle.hd_rules.proofs.Recorded.{each_has_one}
use Rattle.hd_rules.proofs.ReplyingTurns.{each_replies}
use Rattle.hd_rules.proofs.FamiliarTurns.{known_journal}
use Rattle.hd_rules.proofs.laws.a_legal_journal_is_the_run_of_its_survivors.Goals as goal

pub returns : goal.returns
returns c =
    record { run = legal_is_run; records = each_has_one; replies = each_replies; known = known_journal }
