-- The work of a cancellation.
use Rattle.std.proofs.Common.{arith, ◌≡◌, refl, sym, ◌∙◌, ap, subst, ℕ, zero, suc, ◌+◌, ◌*◌, ◌≤◌, Bool, true}
use Rattle.std.proofs.Common.{false, cond, List, []}
use Rattle.std.proofs.Common.{◌∷◌}
use Rattle.std.proofs.Common.{filter, nat_lt, length, Some, None}
use Rattle.std.proofs.lemmas.List.{length-map}
use Rattle.hd_rules.specs.declared.cells.Change.{Change}
use Rattle.hd_rules.specs.declared.questions.Finding.{Finding}
use Rattle.hd_rules.specs.Facts.{Facts}
use Rattle.hd_rules.specs.Record.{Record}
use Rattle.hd_rules.specs.Run.{outcome_of, run, step}
use Rattle.hd_meter.specs.Meter.{Counts, with_one_more, one_higher}
use Rattle.hd_meter.specs.declared.count.Count.TheVariants.{Look, Compared, Written}
use Rattle.hd_inverse.specs.Work.{after_writes}
use Rattle.hd_clash.specs.About.{touches}
use Rattle.hd_clash.specs.Clash.{clashes, some_clash}
use Rattle.hd_clash.specs.Work.{clash_work, with_comparisons}
use Rattle.hd_records.specs.Looks.{IsWalk, after_looks, looks_to, questions_of, after_walk}
use Rattle.hd_records.specs.Survivors.{survivor_of, survivors_of, changes_of, newer, older}
use Rattle.hd_journal.specs.Deciding.{Parts}
use Rattle.hd_journal.specs.Laws.{CancellationLaws}
use Rattle.hd_journal.specs.Working.{IsDecision, OnlyRise, cells_of, questions_from}
use Rattle.hd_journal.proofs.Raising.{rise_none, rise_on}
use Rattle.hd_journal.proofs.Stored.{questions_are}

-- looks only rise
pub rise_looked : (n : ℕ) (counts : Counts) → OnlyRise counts (after_looks n counts)
rise_looked zero counts = rise_none counts counts refl
rise_looked (suc n) counts = rise_on counts (with_one_more counts Look)
    (after_looks n (with_one_more counts Look)) (Look ∷ [], refl)
    (rise_looked n (with_one_more counts Look))

rise_comparisons : (n : ℕ) (counts : Counts) → OnlyRise counts (with_comparisons n counts)
rise_comparisons zero counts = rise_none counts counts refl
rise_comparisons (suc n) counts =
    rise_on counts (with_one_more counts Compared) (with_comparisons n (with_one_more counts Compared))
    (Compared ∷ [], refl)
    (rise_comparisons n (with_one_more counts Compared))

rise_clash : (k : Facts) (changes : List Change) (fs : List Finding) (counts : Counts)
    → OnlyRise counts (clash_work k changes fs counts)
rise_clash k changes [] counts = rise_none counts counts refl
rise_clash k changes (f ∷ fs) counts =
    by_test (clashes k changes f) (rise_clash k changes fs (with_comparisons (length changes) counts))
  where
    next : Counts
    next = with_comparisons (length changes) counts

    by_test : (b : Bool) → OnlyRise next (clash_work k changes fs next)
        → OnlyRise counts (cond b next (clash_work k changes fs next))
    by_test true rest = rise_comparisons (length changes) counts
    by_test false rest = rise_on counts next (clash_work k changes fs next)
        (rise_comparisons (length changes) counts) rest

pub rise_walked : (k : Facts) (changes : List Change) (rs : List Record) (counts : Counts)
    → OnlyRise counts (after_walk k changes rs counts)
rise_walked k changes [] counts = rise_none counts counts refl
rise_walked k changes (r ∷ rs) counts =
    by_test (some_clash k changes r.findings)
    (rise_walked k changes rs (clash_work k changes r.findings (with_one_more counts Look)))
  where
    next : Counts
    next = clash_work k changes r.findings (with_one_more counts Look)

    here : OnlyRise counts next
    here = rise_on counts (with_one_more counts Look) next (Look ∷ [], refl)
        (rise_clash k changes r.findings (with_one_more counts Look))

    by_test : (b : Bool) → OnlyRise next (after_walk k changes rs next)
        → OnlyRise counts (cond b next (after_walk k changes rs next))
    by_test true rest = here
    by_test false rest = rise_on counts next (after_walk k changes rs next) here rest

-- part of some records
pub fewer : (P : Record → Bool) (rs : List Record) → length (filter P rs) ≤ length rs
fewer P [] = omega arith
fewer P (x ∷ xs) = by_test (P x) (fewer P xs)
  where
    by_test : (b : Bool) → length (filter P xs) ≤ length xs
        → length (cond b (x ∷ filter P xs) (filter P xs)) ≤ suc (length xs)
    by_test true rest = omega (arith, rest)
    by_test false rest = omega (arith, rest)

fewer_of : (P Q : Record → Bool) (rs : List Record) → length (filter Q (filter P rs)) ≤ length (filter Q rs)
fewer_of P Q [] = omega arith
fewer_of P Q (x ∷ xs) = by_tests (P x) (Q x) refl (fewer_of P Q xs)
  where
    by_tests : (b c : Bool) → Q x ≡ c → length (filter Q (filter P xs)) ≤ length (filter Q xs)
        → length (filter Q (cond b (x ∷ filter P xs) (filter P xs)))
        ≤ length (cond c (x ∷ filter Q xs) (filter Q xs))
    by_tests true true is rest =
        subst (λ (d : Bool). length (cond d (x ∷ filter Q (filter P xs)) (filter Q (filter P xs)))
        ≤ suc (length (filter Q xs))) (sym is)
        (omega (arith, rest))
    by_tests true false is rest =
        subst (λ (d : Bool). length (cond d (x ∷ filter Q (filter P xs)) (filter Q (filter P xs)))
        ≤ length (filter Q xs)) (sym is) rest
    by_tests false true is rest = omega (arith, rest)
    by_tests false false is rest = rest

pub fewer_questions : (P : Record → Bool) (rs : List Record) → questions_of (filter P rs) ≤ questions_of rs
fewer_questions P [] = omega arith
fewer_questions P (x ∷ xs) = by_test (P x) (fewer_questions P xs)
  where
    by_test : (b : Bool) → questions_of (filter P xs) ≤ questions_of xs
        → questions_of (cond b (x ∷ filter P xs) (filter P xs)) ≤ length x.findings + questions_of xs
    by_test true rest = omega (arith, rest)
    by_test false rest = omega (arith, rest)

-- without a target, each record of its title is looked at
pub no_target : (laws : CancellationLaws) (P : Record → Bool) (rs : List Record) (old new : Counts)
    → new ≡ after_looks (looks_to None (filter P rs)) old
    → IsDecision 0 (length (survivors_of rs)) 0 old new
no_target laws P rs old new is =
    let n : ℕ = length (filter P rs) in
    let walk : IsWalk n 0 old (after_looks n old) = laws.walks.looks n old in
    let most : n ≤ length rs = fewer P rs in
    subst (λ (x : Counts). IsDecision 0 (length (survivors_of rs)) 0 old x) (sym is) (record {
      steps = walk.steps;
      written = walk.written;
      looks = omega (arith, walk.looks, most, length-map rs survivor_of);
      compared = walk.compared;
    })

-- found among some of the records, and compared with those of the later ones that the changes touch
pub record Compares (k : Facts) (P : Record → Bool) (rs : List Record) (i : ℕ)
    (old mid new : Counts) : Type 0 where
  pub few : length (changes_of i rs) ≤ 4
  pub found : mid ≡ after_looks (looks_to (Some i) (filter P rs)) old
  pub compared : new ≡ after_walk k (changes_of i rs) (filter (touches k (changes_of i rs)) (newer i rs)) mid

pub compares : (laws : CancellationLaws) (k : Facts) (P : Record → Bool) (rs : List Record) (i : ℕ)
    (old mid new : Counts)
    → Compares k P rs i old mid new
    → IsDecision 0 (2 * length (newer i rs) + 1) (questions_of (newer i rs)) old new
compares laws k P rs i old mid new h =
    let cs : List Change = changes_of i rs in
    let ts : List Record = filter (touches k cs) (newer i rs) in
    let all : ℕ = length (newer i (filter P rs)) + 1 in
    let find : IsWalk all 0 old (after_looks all old) = laws.walks.looks all old in
    let walk : IsWalk (length ts) (questions_of ts) mid (after_walk k cs ts mid) =
    laws.walks.walk k cs ts mid h.few in
    let first : IsWalk all 0 old mid = subst (λ (x : Counts). IsWalk all 0 old x) (sym h.found) find in
    let then : IsWalk (length ts) (questions_of ts) mid new =
    subst (λ (x : Counts). IsWalk (length ts) (questions_of ts) mid x) (sym h.compared) walk in
    let most : length (newer i (filter P rs)) ≤ length (newer i rs) =
    fewer_of P (λ r. nat_lt i r.number) rs in
    let later : length ts ≤ length (newer i rs) = fewer (touches k cs) (newer i rs) in
    let asked : questions_of ts ≤ questions_of (newer i rs) = fewer_questions (touches k cs) (newer i rs) in
    record {
      steps = then.steps ∙ first.steps;
      written = then.written ∙ first.written;
      looks = omega (arith, first.looks, then.looks, most, later);
      compared = omega (arith, first.compared, then.compared, asked);
    }

pub rise_compared : (k : Facts) (P : Record → Bool) (rs : List Record) (i : ℕ) (old mid new : Counts)
    → Compares k P rs i old mid new
    → OnlyRise old new
rise_compared k P rs i old mid new h =
    rise_on old mid new
    (subst (λ (x : Counts). OnlyRise old x) (sym h.found) (rise_looked (looks_to (Some i) (filter P rs)) old))
    (subst (λ (x : Counts). OnlyRise mid x) (sym h.compared)
    (rise_walked k (changes_of i rs) (filter (touches k (changes_of i rs)) (newer i rs)) mid))

-- writes count no other work, and as many from counts that are equal
record Writes (n : ℕ) (old new : Counts) : Type 0 where
  steps : new.steps ≡ old.steps
  looks : new.looks ≡ old.looks
  compared : new.compared ≡ old.compared

writes_alone : (n : ℕ) (old : Counts) → Writes n old (after_writes n old)
writes_alone zero old = record { steps = refl; looks = refl; compared = refl }
writes_alone (suc n) old =
    let rest : Writes n (with_one_more old Written) (after_writes n (with_one_more old Written)) =
    writes_alone n (with_one_more old Written) in
    record { steps = rest.steps; looks = rest.looks; compared = rest.compared }

writes_alike : (n : ℕ) (one other : Counts) → one.written ≡ other.written
    → (after_writes n one).written ≡ (after_writes n other).written
writes_alike zero one other is = is
writes_alike (suc n) one other is =
    writes_alike n (with_one_more one Written) (with_one_more other Written) (ap one_higher is)

-- written back, and mended
pub takes_back : (laws : CancellationLaws) (P : Record → Bool) (rs : List Record) (i n questions : ℕ)
    (old compared back new : Counts)
    → IsDecision 0 (2 * length (newer i rs) + 1) questions old compared → back ≡ after_writes n compared
    → new ≡ after_looks (length (filter P (newer i rs))) back
    → IsDecision n (3 * length (newer i rs) + 1) questions old new
takes_back laws P rs i n questions old compared back new was writes looks =
    let met : ℕ = length (filter P (newer i rs)) in
    let most : met ≤ length (newer i rs) = fewer P (newer i rs) in
    let alone : Writes n compared back =
    subst (λ (x : Counts). Writes n compared x) (sym writes) (writes_alone n compared) in
    let walk : IsWalk met 0 back new =
    subst (λ (x : Counts). IsWalk met 0 back x) (sym looks) (laws.walks.looks met back) in
    record {
      steps = walk.steps ∙ alone.steps ∙ was.steps;
      written = walk.written ∙ ap (λ (x : Counts). x.written) writes
          ∙ writes_alike n compared old was.written;
      looks = omega (arith, walk.looks, alone.looks, was.looks, most);
      compared = omega (arith, walk.compared, alone.compared, was.compared);
    }

-- in the words of the rules
pub in_words : (k : Facts) (rs : List Record) (i cells : ℕ) (r : Record) (m : ℕ) (old new : Counts)
    → Parts k rs i r
    → IsDecision cells (m * length (newer i rs) + 1) (questions_of (newer i rs)) old new
    → IsDecision cells (m * length (survivors_of (newer i rs)) + 1)
    (questions_from k (step k (run k (survivors_of (older i rs))) (survivor_of r))
    (survivors_of (newer i rs))) old new
in_words k rs i cells r m old new parts is =
    subst (λ (n : ℕ). IsDecision cells (m * n + 1)
    (questions_from k (step k (run k (survivors_of (older i rs))) (survivor_of r))
    (survivors_of (newer i rs))) old new)
    (sym (length-map (newer i rs) survivor_of))
    (subst (λ (n : ℕ). IsDecision cells (m * length (newer i rs) + 1) n old new)
    (questions_are k (step k (run k (survivors_of (older i rs))) (survivor_of r)) (survivors_of (newer i rs))
    (newer i rs)
    parts.after)
    is)

pub cells_are : (k : Facts) (rs : List Record) (i : ℕ) (r : Record) → Parts k rs i r
    → length r.changes ≡ cells_of (outcome_of k (run k (survivors_of (older i rs))) (survivor_of r))
cells_are k rs i r parts = ap cells_of (sym parts.one.done)
