use Rattle.std.proofs.Common.{◌^◌, inl}
use Rattle.hd_server.proofs.Counted.{few}
use Rattle.hd_server.proofs.summary.summary_of.Goals as goal

pub count-requires-clause-fits : goal.count-requires-clause-fits
count-requires-clause-fits c =
    let is = c.front.ensures.legal.run in
    inl (few (2 ^ 64) _ _ _ _ _ c.survivors.ensures c.last.ensures c.last.type_inv is.rising is.last)
