use Rattle.std.proofs.Common.{◌≡◌, ◌≤◌, ◌-◌, List, ℕ, length}
use Rattle.std.specs.Io.KnownBytes.{Consumes}
use Rattle.hd_door.proofs.lingering.linger.Given as goal

-- so many bytes were dropped
abbrev pub invariant-loop-dropped : goal.invariant-loop-dropped
invariant-loop-dropped g l = record {
  taken : (bytes : List ℕ) × Consumes (g.I.Read.remaining l.initial.from) (g.I.Read.remaining l.from) bytes
      × (length bytes ≡ l.dropped);
  most : l.dropped ≤ 1048576;
}

abbrev pub decreases-loop-dropped : goal.decreases-loop-dropped
decreases-loop-dropped g l = 1048576 - l.dropped
