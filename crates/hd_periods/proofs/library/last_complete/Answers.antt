use Rattle.std.proofs.Common.{rules}
use Rattle.hd_periods.proofs.LastLemmas.{more_up_to}
use Rattle.hd_periods.proofs.library.last_complete.Goals as goal

pub loop-name-preserved : goal.loop-name-preserved
loop-name-preserved c = record {
  complete = c.later_complete-last.ensures.complete c.loop-name.invariant.complete;
  last = more_up_to c.args.names.now c.loop-name.name-index c.loop-name.last c.later_complete-last.result _
      (search rules) c.loop-name.invariant.last c.later_complete-last.ensures.later
      c.later_complete-last.ensures.this;
}
