use Rattle.std.proofs.Common.{[], ◌∷◌}
use Rattle.hd_rules.specs.Turns.{start}
use Rattle.hd_durable.proofs.Beginnings.{beginning}
use Rattle.hd_durable.proofs.laws.a_turn_more_is_kept_where_it_changes.Goals as goal

pub returns : goal.returns
returns c k turns turn = beginning k (start k) turns (turn ∷ [])
