use Rattle.std.specs.List.{AllWithin, Contains}
use Rattle.hd_periods.specs.Periods.{IsAccounted, IsLastComplete}
use Rattle.hd_periods.proofs.library.library_of.Given as goal

-- each of those so far is accounted for
abbrev pub invariant-loop-name : goal.invariant-loop-name
invariant-loop-name l = AllWithin (IsAccounted (Contains l.names) l.last) l.names 0 l.name-index
