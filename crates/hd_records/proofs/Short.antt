-- Walks over records are short.
use Rattle.std.proofs.Common.{arith, refl, ◌∙◌, ℕ, zero, suc, ◌+◌, ◌≤◌, Bool, true, false, cond, List, []}
use Rattle.std.proofs.Common.{◌∷◌}
use Rattle.std.proofs.Common.{length}
use Rattle.hd_rules.specs.declared.cells.Change.{Change}
use Rattle.hd_rules.specs.Facts.{Facts}
use Rattle.hd_rules.specs.Record.{Record}
use Rattle.hd_meter.specs.Meter.{Counts, with_one_more, one_higher}
use Rattle.hd_meter.specs.declared.count.Count.TheVariants.{Look}
use Rattle.hd_clash.specs.Clash.{some_clash}
use Rattle.hd_clash.specs.Work.{AtMostFourEach, ComparisonsAreFew, clash_work}
use Rattle.hd_records.specs.Looks.{IsWalk, after_looks, after_walk, questions_of}

one_more : (n : ℕ) → one_higher n ≤ n + 1
one_more n = omega arith

pub looks_short : (n : ℕ) (counts : Counts) → IsWalk n 0 counts (after_looks n counts)
looks_short zero counts = record { looks = omega arith; compared = omega arith; steps = refl; written = refl }
looks_short (suc n) counts =
    let rest : IsWalk n 0 (with_one_more counts Look) (after_looks n (with_one_more counts Look)) =
    looks_short n (with_one_more counts Look) in
    let one : one_higher counts.looks ≤ counts.looks + 1 = one_more counts.looks in
    record {
      looks = omega (arith, rest.looks, one);
      compared = rest.compared;
      steps = rest.steps;
      written = rest.written;
    }

here : (k : Facts) (changes : List Change) (r : Record) (more rest : ℕ) (counts : Counts) → ComparisonsAreFew
    → length changes ≤ 4
    → IsWalk (suc rest) (length r.findings + more) counts
    (clash_work k changes r.findings (with_one_more counts Look))
here k changes r more rest counts law few =
    let work : AtMostFourEach (length r.findings) (with_one_more counts Look)
    (clash_work k changes r.findings (with_one_more counts Look)) =
    law k changes r.findings (with_one_more counts Look) few in
    let one : one_higher counts.looks ≤ counts.looks + 1 = one_more counts.looks in
    record {
      looks = omega (arith, work.looks, one);
      compared = omega (arith, work.compared);
      steps = work.steps;
      written = work.written;
    }

pub walk_short : ComparisonsAreFew
    → (k : Facts) (changes : List Change) (records : List Record) (counts : Counts) → length changes ≤ 4
    → IsWalk (length records) (questions_of records) counts (after_walk k changes records counts)
walk_short law k changes [] counts few =
    record { looks = omega arith; compared = omega arith; steps = refl; written = refl }
walk_short law k changes (r ∷ rs) counts few =
    at (some_clash k changes r.findings)
    (walk_short law k changes rs (clash_work k changes r.findings (with_one_more counts Look)) few)
  where
    first : Counts
    first = clash_work k changes r.findings (with_one_more counts Look)

    at : (b : Bool) → IsWalk (length rs) (questions_of rs) first (after_walk k changes rs first)
        → IsWalk (suc (length rs)) (length r.findings + questions_of rs) counts
        (cond b first (after_walk k changes rs first))
    at true rest = here k changes r (questions_of rs) (length rs) counts law few
    at false rest =
        let work : AtMostFourEach (length r.findings) (with_one_more counts Look) first =
        law k changes r.findings (with_one_more counts Look) few in
        let one : one_higher counts.looks ≤ counts.looks + 1 = one_more counts.looks in
        record {
          looks = omega (arith, rest.looks, work.looks, one);
          compared = omega (arith, rest.compared, work.compared);
          steps = rest.steps ∙ work.steps;
          written = rest.written ∙ work.written;
        }
