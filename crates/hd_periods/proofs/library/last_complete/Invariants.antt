use Rattle.std.proofs.Common.{IfSome}
use Rattle.std.specs.List.{Contains}
use Rattle.hd_periods.specs.Periods.{IsComplete}
use Rattle.hd_periods.proofs.LastLemmas.{AreUpTo}
use Rattle.hd_periods.proofs.library.last_complete.Given as goal

-- the last one of those so far is complete, and no later one of them is
abbrev pub invariant-loop-name : goal.invariant-loop-name
invariant-loop-name l = record {
  complete : IfSome l.last (IsComplete (Contains l.names));
  last : AreUpTo l.names l.name-index l.last;
}
