use Rattle.std.proofs.Common.{◌≡◌, inl, inr}
use Rattle.hd_exchange.specs.Extensions.{extensions_lent}
use Rattle.hd_replay.specs.Replays.{before_any_line}
use Rattle.std.proofs.KnownBytes.{Keeps-refl}
use Rattle.hd_replay.proofs.Ended.{for_memory}
use Rattle.hd_replay.proofs.replaying.replay_over.Goals as goal

pub returns-in_err-sessions-clause-replay : goal.returns-in_err-sessions-clause-replay
returns-in_err-sessions-clause-replay g c =
    inl ((Keeps-refl _, Keeps-refl _), for_memory _ c.from_residual.ensures.0 c.from_residual.ensures.1)

pub returns-clause-replay : goal.returns-clause-replay
returns-clause-replay g c =
    let first : c.in_ok-sessions.sessions
    ≡ before_any_line c.args.journal.contents (extensions_lent c.args.extensions) c.args.now =
    c.in_ok-sessions.ensures.new in
    inr (record {
      after = c.answer_input.new.sessions;
      reads = rw first at c.answer_input.ensures.reads;
      legal = c.answer_input.ensures.legal c.in_ok-sessions.ensures.legal;
    })
