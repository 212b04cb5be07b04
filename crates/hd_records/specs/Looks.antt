-- The work of walks over records, as a meter counts it.
use Rattle.std.specs.Prelude.{◌≡◌, ℕ, zero, suc, ◌+◌, ◌*◌, ◌≤◌, if◌then◌else◌, Option, Some, None, List, []}
use Rattle.std.specs.Prelude.{◌∷◌, length}
use Rattle.hd_rules.specs.declared.cells.Change.{Change}
use Rattle.hd_rules.specs.Facts.{Facts}
use Rattle.hd_rules.specs.Record.{Record}
use Rattle.hd_meter.specs.Meter.{Counts, with_one_more}
use Rattle.hd_meter.specs.declared.count.Count.TheVariants.{Look}
use Rattle.hd_clash.specs.Clash.{some_clash}
use Rattle.hd_clash.specs.Work.{clash_work}
use Rattle.hd_records.specs.Survivors.{newer}

-- the counts after so many looks
abbrev pub after_looks : ℕ → Counts → Counts
after_looks zero counts = counts
after_looks (suc n) counts = after_looks n (with_one_more counts Look)

-- how many are looked at from the newest on, as far as the one of this number, or all of them
abbrev pub looks_to : Option ℕ → List Record → ℕ
looks_to None records = length records
looks_to (Some n) records = length (newer n records) + 1

-- The counts after a walk as far as the first record that clashes: each is looked at, and what it found is
-- compared with the changes.
abbrev pub after_walk : Facts → List Change → List Record → Counts → Counts
after_walk k changes [] counts = counts
after_walk k changes (r ∷ rs) counts =
    if some_clash k changes r.findings then clash_work k changes r.findings (with_one_more counts Look)
    else after_walk k changes rs (clash_work k changes r.findings (with_one_more counts Look))

-- how many questions the records have, with their noted answers
abbrev pub questions_of : List Record → ℕ
questions_of [] = 0
questions_of (r ∷ rs) = length r.findings + questions_of rs

-- at most so many looks, at most four comparisons for each of so many questions, and no other work
pub record IsWalk (most questions : ℕ) (old new : Counts) : Type 0 where
  pub looks : new.looks ≤ old.looks + most
  pub compared : new.compared ≤ old.compared + 4 * questions
  pub steps : new.steps ≡ old.steps
  pub written : new.written ≡ old.written

-- so it is with looks alone, and with a walk for changes, of which there are at most four
pub record WalksAreShort : Type 0 where
  pub looks : (n : ℕ) (counts : Counts) → IsWalk n 0 counts (after_looks n counts)
  pub walk : (k : Facts) (changes : List Change) (records : List Record) (counts : Counts)
      → length changes ≤ 4
      → IsWalk (length records) (questions_of records) counts (after_walk k changes records counts)
