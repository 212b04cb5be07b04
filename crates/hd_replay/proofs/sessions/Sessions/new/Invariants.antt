use Rattle.std.proofs.Common.{◌≡◌, map, replicate, vec_len}
use Rattle.hd_replay.specs.Replays.{AreEmpty}
use Rattle.hd_exchange.specs.Extensions.{extensions_lent}
use Rattle.hd_session.specs.Sessions.{new_session}
use Rattle.hd_replay.proofs.sessions.Sessions.new.Given as goal

-- so many new sessions, which have answered nothing
abbrev pub invariant-loop : goal.invariant-loop
invariant-loop g l = record {
  sessions : vec_len l.sessions ≡ l.counter;
  outs : vec_len l.outs ≡ l.counter;
  new : l.sessions.items ≡ replicate l.counter (new_session (extensions_lent l.extensions));
  empty : AreEmpty (map (λ out. out.items) l.outs.items);
}
