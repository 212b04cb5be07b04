use Rattle.std.proofs.lemmas.Result.{MatchResult-at_ok}
use Rattle.hd_queue.proofs.stamps.Stamps.put.Goals as goal

pub returns-clause-stamps : goal.returns-clause-stamps
returns-clause-stamps g c =
    rw (← c.self.view_is) (MatchResult-at_ok _ _ c.unwrap.result c.unwrap.ensures c.insert.ensures.updates).0
