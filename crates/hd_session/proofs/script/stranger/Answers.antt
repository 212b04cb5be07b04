use Rattle.hd_session.proofs.Strangers.{all_known, one_more, stranger_at}
use Rattle.hd_session.proofs.script.stranger.Goals as goal

pub returns-then-session-sessions-clause-first : goal.returns-then-session-sessions-clause-first
returns-then-session-sessions-clause-first c =
    stranger_at _ _ _ _ c.loop-at-test.true c.if-session-sessions.true c.loop-at.invariant

pub returns-clause-known : goal.returns-clause-known
returns-clause-known c = all_known _ _ _ c.loop-at-test.false c.loop-at.invariant

pub loop-at-preserved : goal.loop-at-preserved
loop-at-preserved c = one_more _ _ _ _ c.loop-at-test.true c.if-session-sessions.false c.loop-at.invariant
