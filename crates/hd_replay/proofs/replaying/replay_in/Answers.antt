use Rattle.std.proofs.KnownBytes.{Keeps-refl}
use Rattle.hd_replay.proofs.Ended.{replay_of}
use Rattle.hd_replay.proofs.replaying.replay_in.Goals as goal

pub returns-in-Ok-read-clause-replay : goal.returns-in-Ok-read-clause-replay
returns-in-Ok-read-clause-replay g c =
    replay_of _ _ _ c.in-Ok-read.now _ c.in-Ok.ensures.accepted
    (rw c.offset.ensures at c.in-Ok-read.ensures.stamp) _
    c.replay_catalogue.ensures.replay

pub returns-in-Err-read-clause-replay : goal.returns-in-Err-read-clause-replay
returns-in-Err-read-clause-replay g c = (
  record {
    k = c.in-Ok.catalogue;
    accepted = c.in-Ok.ensures.accepted;
    fault = c.in-Err-read.field-0;
    first = rw c.offset.ensures at c.in-Err-read.ensures.fault;
  },
  (Keeps-refl _, Keeps-refl _),
)
