use Rattle.std.proofs.Common.{◌≡◌, length, drop}
use Rattle.hd_clash.specs.Work.{with_comparisons}
use Rattle.hd_clash.proofs.clashing.count_comparisons.Given as goal

abbrev pub invariant-loop-change : goal.invariant-loop-change
invariant-loop-change l =
    with_comparisons (length (drop l._change-index l.changes)) l.meter
    ≡ with_comparisons (length l.changes) l.fn.meter
