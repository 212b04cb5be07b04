use Rattle.std.specs.Io.KnownBytes.{Keeps}
use Rattle.hd_connection.proofs.output.write_patiently.Given as goal

abbrev pub invariant-loop-tries : goal.invariant-loop-tries
invariant-loop-tries g l = Keeps (g.W.Write.contents l.initial.to) (g.W.Write.contents l.to)
