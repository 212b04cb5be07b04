-- Looks that are counted one by one.
use Rattle.std.proofs.Common.{◌≡◌, refl, ℕ, zero, suc}
use Rattle.hd_meter.specs.Meter.{Counts, with_one_more}
use Rattle.hd_meter.specs.declared.count.Count.TheVariants.{Look}
use Rattle.hd_records.specs.Looks.{after_looks}

pub looked_more : (n : ℕ) (counts : Counts) → with_one_more (after_looks n counts) Look
    ≡ after_looks (suc n) counts
looked_more zero counts = refl
looked_more (suc n) counts = looked_more n (with_one_more counts Look)
