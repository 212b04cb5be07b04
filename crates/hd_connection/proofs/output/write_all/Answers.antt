use Rattle.std.proofs.Common.{arith}
use Rattle.std.proofs.KnownBytes.{Appends-trans}
use Rattle.std.proofs.Math.Seq.{take-add}
use Rattle.hd_connection.proofs.output.write_all.Goals as goal

pub loop-done-preserved : goal.loop-done-preserved
loop-done-preserved g c = record {
  within = let some = c.in_ok-done.ensures.some in let d = c.split_at.ensures.back_len in omega arith;
  wrote = rw take-add (Appends-trans _ _ _ _ _ c.loop-done.invariant.wrote
      (rw c.split_at.ensures.back at c.in_ok-done.ensures.wrote));
}
