-- Counts that only rise.
use Rattle.std.proofs.Common.{◌≡◌, refl, sym, ◌∙◌, ap, List, [], ◌∷◌, ◌++◌}
use Rattle.hd_meter.specs.Meter.{Counts, with_one_more}
use Rattle.hd_meter.specs.declared.count.Count.{Count}
use Rattle.hd_meter.specs.declared.count.Count.TheVariants.{Step}
use Rattle.hd_journal.specs.Working.{all_added, OnlyRise}

-- nothing is counted
pub rise_none : (old new : Counts) → new ≡ old → OnlyRise old new
rise_none old new is = ([], is)

-- one step is counted
pub rise_step : (old new : Counts) → new ≡ with_one_more old Step → OnlyRise old new
rise_step old new is = (Step ∷ [], is)

added_joined : (xs ys : List Count) (counts : Counts)
    → all_added (xs ++ ys) counts ≡ all_added ys (all_added xs counts)
added_joined [] ys counts = refl
added_joined (x ∷ xs) ys counts = added_joined xs ys (with_one_more counts x)

-- one work after another
pub rise_on : (old mid new : Counts) → OnlyRise old mid → OnlyRise mid new → OnlyRise old new
rise_on old mid new first then =
    (first.0 ++ then.0, then.1 ∙ ap (all_added then.0) first.1 ∙ sym (added_joined first.0 then.0 old))
