use Rattle.hd_hall.proofs.hall_state.HallState.submit.Goals as goal

pub returns-clause-holds : goal.returns-clause-holds
returns-clause-holds g c = c.holds_last.ensures.yes c.if-not-holds_last.false
