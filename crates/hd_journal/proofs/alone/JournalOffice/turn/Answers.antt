use Rattle.std.proofs.lemmas.Result.{IfOk-weaker}
use Rattle.hd_journal.proofs.Replying.{makes_turn}
use Rattle.hd_journal.proofs.alone.JournalOffice.turn.Goals as goal

pub returns-clause-made : goal.returns-clause-made
returns-clause-made g c =
    IfOk-weaker c.take_copy.result _ _ (λ made adds. makes_turn _ _ _ made adds c.take_copy.ensures.legal)
    c.take_copy.ensures.turn
