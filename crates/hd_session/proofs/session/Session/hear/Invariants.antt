use Rattle.std.proofs.Common.{◌≡◌, List, ℕ, ◌++◌, length}
use Rattle.hd_field.specs.Streams.{begun_after, lines_in}
use Rattle.hd_session.specs.Logs.{LogsLines}
use Rattle.hd_session.specs.Sessions.{Answers}
use Rattle.hd_session.proofs.session.Session.hear.Given as goal

-- the lines that are answered and logged, and those that are left
abbrev pub invariant-loop-used : goal.invariant-loop-used
invariant-loop-used g l = record {
  heard : (lines : List (List ℕ))
      × (lines_in l.fn.self.begun l.piece ≡ lines ++ lines_in l.self-inside.stream l.rest)
      × Answers g.O.Office l.fn.office l.office l.fn.out l.out l.now lines l.fn.self.state
      l.self-inside.state
      × LogsLines l.fn.out l.out (g.L.SessionLog.entries l.fn.log) (g.L.SessionLog.entries l.log) lines;
  begun : begun_after l.fn.self.begun l.piece ≡ begun_after l.self-inside.stream l.rest;
  ended : l.self-inside.ended ≡ l.fn.self.ended;
}

abbrev pub decreases-loop-used : goal.decreases-loop-used
decreases-loop-used g l = length l.rest
