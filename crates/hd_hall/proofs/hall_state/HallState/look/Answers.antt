use Rattle.std.proofs.lemmas.Result.{on_ok_weaker}
use Rattle.hd_hall.proofs.hall_state.HallState.look.Goals as goal

pub returns-clause-holds : goal.returns-clause-holds
returns-clause-holds g c =
    on_ok_weaker c.show.result (λ saw. c.holds_last.ensures.yes c.if-not-holds_last.false) c.show.ensures.saw
