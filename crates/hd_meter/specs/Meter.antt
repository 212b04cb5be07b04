-- What a meter has counted.
use Rattle.std.specs.Prelude.{ℕ, ◌+◌, ◌-◌, ◌^◌, min}
use Rattle.hd_meter.specs.declared.count.Count.{Count}
use Rattle.hd_meter.specs.declared.count.Count.TheVariants.{Step, Written, Look, Compared}

-- commands carried out, cells written, records looked at and answers compared
pub record Counts : Type 0 where
  pub steps : ℕ
  pub written : ℕ
  pub looks : ℕ
  pub compared : ℕ

-- one more, up to the greatest value of a count
abbrev pub one_higher : ℕ → ℕ
one_higher n = min (n + 1) (2 ^ 64 - 1)

-- how often something was counted
abbrev pub count_of : Counts → Count → ℕ
count_of counts Step = counts.steps
count_of counts Written = counts.written
count_of counts Look = counts.looks
count_of counts Compared = counts.compared

-- the counts with this one raised
abbrev pub with_one_more : Counts → Count → Counts
with_one_more counts Step = record counts { steps = one_higher counts.steps }
with_one_more counts Written = record counts { written = one_higher counts.written }
with_one_more counts Look = record counts { looks = one_higher counts.looks }
with_one_more counts Compared = record counts { compared = one_higher counts.compared }
