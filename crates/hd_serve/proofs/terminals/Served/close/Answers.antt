use Rattle.std.proofs.Common.{inr}
use Rattle.hd_serve.proofs.terminals.Served.close.Goals as goal

pub returns-clause-end : goal.returns-clause-end
returns-clause-end g c = inr (c.in-Ok.closed, c.answer.ensures.answer)
