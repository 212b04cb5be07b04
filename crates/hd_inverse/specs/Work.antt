-- Writes, counted.
use Rattle.std.specs.Prelude.{ℕ, zero, suc}
use Rattle.hd_meter.specs.Meter.{Counts, with_one_more}
use Rattle.hd_meter.specs.declared.count.Count.TheVariants.{Written}

-- the counts after so many writes
abbrev pub after_writes : ℕ → Counts → Counts
after_writes zero counts = counts
after_writes (suc n) counts = after_writes n (with_one_more counts Written)
