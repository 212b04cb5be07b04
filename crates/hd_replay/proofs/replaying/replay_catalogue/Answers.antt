use Rattle.std.proofs.Common.{inl, refl}
use Rattle.std.proofs.KnownBytes.{Keeps-refl}
use Rattle.hd_replay.proofs.replaying.replay_catalogue.Goals as goal

pub returns-clause-replay : goal.returns-clause-replay
returns-clause-replay g c = inl ((Keeps-refl _, Keeps-refl _), refl)

pub returns-in-Ok-clause-replay : goal.returns-in-Ok-clause-replay
returns-in-Ok-clause-replay g c =
    rw (c.in-Ok.ensures.contents, c.no_extensions-extensions.ensures) at c.replay_over.ensures.replay
