use Rattle.hd_turn_store.proofs.store.release.Goals as goal

pub returns : goal.returns
returns g c = c.rolled_back.ensures
