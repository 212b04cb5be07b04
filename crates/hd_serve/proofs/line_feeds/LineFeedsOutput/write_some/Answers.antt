use Rattle.hd_serve.proofs.Feeding.{wrote_so}
use Rattle.hd_serve.proofs.line_feeds.LineFeedsOutput.write_some.Goals as goal

pub returns-clause-wrote : goal.returns-clause-wrote
returns-clause-wrote g c = wrote_so _ _ _ _ _ _ c.give.ensures.gives
