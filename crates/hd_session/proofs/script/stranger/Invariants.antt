use Rattle.std.proofs.Common.{◌<◌, All, take}
use Rattle.hd_session.specs.Scripts.{named_in}
use Rattle.hd_session.proofs.script.stranger.Given as goal

-- the pieces so far name sessions
abbrev pub invariant-loop-at : goal.invariant-loop-at
invariant-loop-at l = All (λ session. session < l.sessions) (take l.at (named_in l.pieces))
