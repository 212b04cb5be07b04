use Rattle.std.specs.Io.KnownBytes.{Keeps}
use Rattle.hd_connection.proofs.input.read_patiently.Given as goal

abbrev pub invariant-loop-tries : goal.invariant-loop-tries
invariant-loop-tries g l = Keeps (g.R.Read.remaining l.initial.from) (g.R.Read.remaining l.from)
