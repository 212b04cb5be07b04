-- How much is compared.
use Rattle.std.proofs.Common.{arith, ◌≡◌, refl, ◌∙◌, ℕ, zero, suc, ◌+◌, ◌≤◌, Bool, true, false, List, [], ◌∷◌}
use Rattle.std.proofs.Common.{length, cond}
use Rattle.std.proofs.Math.Nat.{min-le_left}
use Rattle.hd_rules.specs.declared.cells.Change.{Change}
use Rattle.hd_rules.specs.declared.questions.Finding.{Finding}
use Rattle.hd_rules.specs.Facts.{Facts}
use Rattle.hd_meter.specs.Meter.{Counts, with_one_more}
use Rattle.hd_meter.specs.declared.count.Count.TheVariants.{Compared}
use Rattle.hd_clash.specs.Clash.{clashes}
use Rattle.hd_clash.specs.Work.{with_comparisons, clash_work, AtMostFourEach}

-- at most so many comparisons, and no other work
record AtMost (n : ℕ) (old new : Counts) : Type 0 where
  pub compared : new.compared ≤ old.compared + n
  pub steps : new.steps ≡ old.steps
  pub written : new.written ≡ old.written
  pub looks : new.looks ≡ old.looks

with_few : (n : ℕ) (counts : Counts) → AtMost n counts (with_comparisons n counts)
with_few zero counts = record { compared = omega arith; steps = refl; written = refl; looks = refl }
with_few (suc n) counts =
    let rest : AtMost n (with_one_more counts Compared) (with_comparisons n (with_one_more counts Compared)) =
    with_few n (with_one_more counts Compared) in
    let one : (with_one_more counts Compared).compared ≤ counts.compared + 1 =
    min-le_left (counts.compared + 1) _ in
    record {
      compared = omega (arith, rest.compared, one);
      steps = rest.steps;
      written = rest.written;
      looks = rest.looks;
    }

pub few : (k : Facts) (cs : List Change) (fs : List Finding) (counts : Counts) → length cs ≤ 4
    → AtMostFourEach (length fs) counts (clash_work k cs fs counts)
few k cs [] counts le = record { compared = omega arith; steps = refl; written = refl; looks = refl }
few k cs (f ∷ fs) counts le = by_test (clashes k cs f) (few k cs fs more le)
  where
    more : Counts
    more = with_comparisons (length cs) counts

    here : AtMost (length cs) counts more
    here = with_few (length cs) counts

    by_test : (b : Bool) → AtMostFourEach (length fs) more (clash_work k cs fs more)
        → AtMostFourEach (length (f ∷ fs)) counts (cond b more (clash_work k cs fs more))
    by_test true on = record {
      compared = omega (arith, here.compared, le);
      steps = here.steps;
      written = here.written;
      looks = here.looks;
    }
    by_test false on = record {
      compared = omega (arith, here.compared, on.compared, le);
      steps = on.steps ∙ here.steps;
      written = on.written ∙ here.written;
      looks = on.looks ∙ here.looks;
    }
