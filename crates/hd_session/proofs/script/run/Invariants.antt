use Rattle.std.proofs.Common.{map, take}
use Rattle.hd_session.specs.Scripts.{Plays, steps_of}
use Rattle.hd_session.proofs.script.run.Given as goal

-- the pieces so far are played
abbrev pub invariant-loop-session : goal.invariant-loop-session
invariant-loop-session g l =
    Plays g.O.Office l.fn.office l.office (take l.session-index (steps_of l.now l.pieces)) l.fn.sessions
    l.sessions
    (map (λ out. out.items) l.fn.outs) (map (λ out. out.items) l.outs)
