use Rattle.std.specs.Io.KnownBytes.{Keeps}
use Rattle.hd_serve.proofs.writing.WritingWrite.write.Given as goal

-- nothing was written by then
abbrev pub invariant-loop : goal.invariant-loop
invariant-loop g l = Keeps (g.W.Write.contents l.fn.self.to) (g.W.Write.contents l.self.to)
