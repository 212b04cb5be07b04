-- The work of comparing, as a meter counts it.
use Rattle.std.specs.Prelude.{◌≡◌, ℕ, zero, suc, ◌+◌, ◌*◌, ◌≤◌, List, [], ◌∷◌, length, if◌then◌else◌}
use Rattle.hd_rules.specs.declared.cells.Change.{Change}
use Rattle.hd_rules.specs.declared.questions.Finding.{Finding}
use Rattle.hd_rules.specs.Facts.{Facts}
use Rattle.hd_meter.specs.Meter.{Counts, with_one_more}
use Rattle.hd_meter.specs.declared.count.Count.TheVariants.{Compared}
use Rattle.hd_clash.specs.Clash.{clashes}

-- the counts after so many more comparisons
abbrev pub with_comparisons : ℕ → Counts → Counts
with_comparisons zero counts = counts
with_comparisons (suc n) counts = with_comparisons n (with_one_more counts Compared)

-- each finding, up to the first that clashes, is compared with each of the changes
abbrev pub clash_work : Facts → List Change → List Finding → Counts → Counts
clash_work k changes [] counts = counts
clash_work k changes (f ∷ fs) counts =
    if clashes k changes f then with_comparisons (length changes) counts
    else clash_work k changes fs (with_comparisons (length changes) counts)

-- at most four comparisons for each of so many questions, and no other work
pub record AtMostFourEach (questions : ℕ) (old new : Counts) : Type 0 where
  pub compared : new.compared ≤ old.compared + 4 * questions
  pub steps : new.steps ≡ old.steps
  pub written : new.written ≡ old.written
  pub looks : new.looks ≡ old.looks

-- where there are at most four changes
abbrev pub ComparisonsAreFew : Type 0
ComparisonsAreFew =
    (k : Facts) (changes : List Change) (fs : List Finding) (counts : Counts) → length changes ≤ 4 →
    AtMostFourEach (length fs) counts (clash_work k changes fs counts)
