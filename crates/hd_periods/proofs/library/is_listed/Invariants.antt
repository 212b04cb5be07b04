use Rattle.std.proofs.Common.{ℕ, ◌<◌, ◌≢◌}
use Rattle.std.specs.Prelude.{slice_index_or}
use Rattle.hd_periods.specs.declared.name.FileName.{FileName}
use Rattle.hd_periods.proofs.library.is_listed.Given as goal

-- it is none of those so far
abbrev pub invariant-loop-name : goal.invariant-loop-name
invariant-loop-name l = (k : ℕ) (other : FileName) → k < l.name-index
    → slice_index_or l.names k other ≢ l.wanted
