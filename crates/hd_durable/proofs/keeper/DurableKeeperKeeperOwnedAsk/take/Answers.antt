use Rattle.std.proofs.lemmas.Result.{err_from_is_err_and}
use Rattle.hd_durable.proofs.Refusing.{kinds}
use Rattle.hd_durable.proofs.keeper.DurableKeeperKeeperOwnedAsk.take.Goals as goal

pub returns-in_err-turn-clause-why : goal.returns-in_err-turn-clause-why
returns-in_err-turn-clause-why g c =
    let p = err_from_is_err_and c.from_residual.result c.from_residual.ensures.1 in
    rw (p.1, p.2) (kinds _ _ _ _ c.in_err-turn.ensures.why)
