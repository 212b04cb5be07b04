use Rattle.std.proofs.lemmas.Result.{IfErr-weaker, IfOk-weaker}
use Rattle.hd_turn_row.proofs.row.ask_of.Goals as goal

pub returns-clause-only : goal.returns-clause-only
returns-clause-only g c =
    IfOk-weaker c.ask_said.result _ _ (λ ask is seat message other.
    c.a_row_is_of_one_message.ensures.one _ seat _ message _ _ other is) c.ask_said.ensures.row

pub returns-clause-none : goal.returns-clause-none
returns-clause-none g c =
    IfErr-weaker c.ask_said.result _ _ (λ fault is seat message.
    c.a_row_is_of_one_message.ensures.none _ seat message _ fault is) c.ask_said.ensures.fault
