use Rattle.hd_turn_row.proofs.PartLemmas.{asks_some}
use Rattle.hd_turn_row.proofs.asked.asked_of.Goals as goal

pub unreachable-requires : goal.unreachable-requires
unreachable-requires c = asks_some c.args.parts.now (cc)
