use Rattle.std.proofs.Common.{arith}
use Rattle.hd_table.proofs.SlotsLemmas.{map_of-push}
use Rattle.hd_table.proofs.table.Table.grow.Goals as goal

pub loop-preserved : goal.loop-preserved
loop-preserved g c = record {
  same_entries = rw (c.push_reserved.ensures.items, map_of-push) c.loop.invariant.same_entries;
  length = omega (arith, c.push_reserved.ensures.len);
  room = omega (arith, c.push_reserved.ensures.capacity);
}
