-- Slots, and the lists of what their records found and changed.
use Rattle.std.proofs.Common.{arith, ◌≡◌, refl, sym, ◌∙◌, ap, subst, ℕ, zero, suc, ◌+◌, ◌<◌, ◌≤◌, Bool, true}
use Rattle.std.proofs.Common.{false, ◌||◌}
use Rattle.std.proofs.Common.{List, [], ◌∷◌, ◌++◌, length, take, drop, get_or, set, Option, None, Some}
use Rattle.std.proofs.Common.{length-append, length-drop}
use Rattle.std.proofs.Common.{take-add, length-take-le}
use Rattle.std.proofs.lemmas.Bool.{false≢true}
use Rattle.std.proofs.lemmas.List.{append_assoc, drop_all, drop-drop, drop-append-le, set-get_or, take_all}
use Rattle.std.proofs.lemmas.List.{take-append-le}
use Rattle.hd_rules.specs.declared.cells.Change.{Change}
use Rattle.hd_rules.specs.declared.commands.Survivor.{Survivor}
use Rattle.hd_rules.specs.declared.questions.Finding.{Finding}
use Rattle.hd_rules.specs.declared.questions.Noted.{Noted}
use Rattle.hd_rules.specs.declared.questions.Question.{Question}
use Rattle.hd_rules.specs.declared.questions.Question.TheVariants as question
use Rattle.hd_rules.specs.Facts.{Facts}
use Rattle.hd_rules.specs.Record.{Record}
use Rattle.hd_clash.specs.Shift.{is_count, shift_each, shift_of}
use Rattle.hd_records.specs.declared.slots.RecordHead.{RecordHead}
use Rattle.hd_records.specs.declared.slots.Slot.{Slot}
use Rattle.hd_records.specs.Laid.{AreLaid, have_count, kept_first, record_in, records_in, survivors_in}
use Rattle.hd_records.specs.Slots.{shift_slot, records_there}
use Rattle.hd_records.specs.Survivors.{survivors_of}

-- as many as there are slots
pub length_stored : (ss : List Slot) (fs : List Finding) (cs : List Change) → length (records_in ss fs cs)
    ≡ length ss
length_stored [] fs cs = refl
length_stored (s ∷ ss) fs cs = ap suc (length_stored ss (drop s.findings.count fs) (drop s.changes.count cs))

-- the survivors can be told without findings and changes
pub survivors_stored : (ss : List Slot) (fs : List Finding) (cs : List Change)
    → survivors_of (records_there (records_in ss fs cs)) ≡ survivors_in ss
survivors_stored [] fs cs = refl
survivors_stored (s ∷ ss) fs cs =
    by_slot s.kept (survivors_stored ss (drop s.findings.count fs) (drop s.changes.count cs))
  where
    by_slot : (o : Option RecordHead)
        → survivors_of (records_there (records_in ss (drop s.findings.count fs) (drop s.changes.count cs)))
        ≡ survivors_in ss
        → survivors_of (records_there (record_in o (take s.findings.count fs) (take s.changes.count cs)
        ∷ records_in ss (drop s.findings.count fs) (drop s.changes.count cs)))
        ≡ kept_first o (survivors_in ss)
    by_slot None rest = rest
    by_slot (Some x) rest = ap (λ (xs : List Survivor). x.survivor ∷ xs) rest

-- where the findings and changes of a slot stand
pub record Stands (f c p : ℕ) (s : Slot) (ss : List Slot) (fs : List Finding) (cs : List Change) : Type 0
  where
    pub before : ℕ
    pub ahead : ℕ
    pub asked : s.findings.first ≡ f + before
    pub changed : s.changes.first ≡ c + ahead
    pub findings : before + s.findings.count ≤ length fs
    pub changes : ahead + s.changes.count ≤ length cs
    pub few : s.changes.count ≤ 4
    pub counts : s.has_count ≡ have_count (take s.findings.count (drop before fs))
    pub is : get_or (records_in ss fs cs) p None
        ≡ record_in s.kept (take s.findings.count (drop before fs)) (take s.changes.count (drop ahead cs))

pub stands : (f c p : ℕ) (d : Slot) (ss : List Slot) (fs : List Finding) (cs : List Change) → p < length ss
    → AreLaid f c ss fs cs
    → Stands f c p (get_or ss p d) ss fs cs
stands f c p d [] fs cs below laid = absurd (omega (arith, below))
stands f c zero d (s ∷ ss) fs cs below laid = record {
  before = 0;
  ahead = 0;
  asked = omega (arith, laid.0.asked);
  changed = omega (arith, laid.0.changed);
  findings = omega (arith, laid.0.findings);
  changes = omega (arith, laid.0.changes);
  few = laid.0.few;
  counts = laid.0.counts;
  is = refl;
}
stands f c (suc p) d (s ∷ ss) fs cs below laid =
    let a : ℕ = s.findings.count in
    let b : ℕ = s.changes.count in
    let t : Slot = get_or ss p d in
    let rest : Stands (f + a) (c + b) p t ss (drop a fs) (drop b cs) =
    stands (f + a) (c + b) p d ss (drop a fs) (drop b cs) (omega (arith, below)) laid.1 in
    let found : drop rest.before (drop a fs) ≡ drop (a + rest.before) fs = drop-drop rest.before a fs in
    let made : drop rest.ahead (drop b cs) ≡ drop (b + rest.ahead) cs = drop-drop rest.ahead b cs in
    record {
      before = a + rest.before;
      ahead = b + rest.ahead;
      asked = omega (arith, rest.asked);
      changed = omega (arith, rest.changed);
      findings = omega (arith, rest.findings, laid.0.findings, length-drop a fs);
      changes = omega (arith, rest.changes, laid.0.changes, length-drop b cs);
      few = rest.few;
      counts = rest.counts ∙ ap (λ (xs : List Finding). have_count (take t.findings.count xs)) found;
      is = rest.is ∙ (λ j. record_in t.kept (take t.findings.count (found j))
          (take t.changes.count (made j)));
    }

-- the same of a slot that was read
pub stands_here : (p : ℕ) (s : Slot) (ss : List Slot) (fs : List Finding) (cs : List Change) → s
    ≡ get_or ss p s
    → p < length (records_in ss fs cs) → AreLaid 0 0 ss fs cs → Stands 0 0 p s ss fs cs
stands_here p s ss fs cs value there laid =
    subst (λ (t : Slot). Stands 0 0 p t ss fs cs) (sym value)
    (stands 0 0 p s ss fs cs (omega (arith, there, length_stored ss fs cs)) laid)

-- a slot without its record
abbrev pub emptied_slot : Slot → Slot
emptied_slot s = record { findings = s.findings; changes = s.changes; has_count = s.has_count; kept = None }

pub stored_emptied : (p : ℕ) (d : Slot) (ss : List Slot) (fs : List Finding) (cs : List Change)
    → p < length ss
    → records_in (set ss p (emptied_slot (get_or ss p d))) fs cs ≡ set (records_in ss fs cs) p None
stored_emptied p d [] fs cs below = absurd (omega (arith, below))
stored_emptied zero d (s ∷ ss) fs cs below = refl
stored_emptied (suc p) d (s ∷ ss) fs cs below =
    ap (λ (xs : List (Option Record)). record_in s.kept (take s.findings.count fs)
    (take s.changes.count cs) ∷ xs)
    (stored_emptied p d ss (drop s.findings.count fs) (drop s.changes.count cs) (omega (arith, below)))

pub laid_emptied : (f c p : ℕ) (d : Slot) (ss : List Slot) (fs : List Finding) (cs : List Change)
    → p < length ss
    → AreLaid f c ss fs cs → AreLaid f c (set ss p (emptied_slot (get_or ss p d))) fs cs
laid_emptied f c p d [] fs cs below laid = absurd (omega (arith, below))
laid_emptied f c zero d (s ∷ ss) fs cs below laid = (
  record {
    asked = laid.0.asked;
    changed = laid.0.changed;
    findings = laid.0.findings;
    changes = laid.0.changes;
    few = laid.0.few;
    counts = laid.0.counts;
  },
  laid.1,
)
laid_emptied f c (suc p) d (s ∷ ss) fs cs below laid = (
  laid.0,
  laid_emptied (f + s.findings.count) (c + s.changes.count) p d ss (drop s.findings.count fs)
      (drop s.changes.count cs)
      (omega (arith, below)) laid.1,
)

-- one more slot
pub record IsBehind (s : Slot) (xs : List Finding) (ys : List Change) : Type 0 where
  pub findings : s.findings.count ≡ length xs
  pub changes : s.changes.count ≡ length ys
  pub few : length ys ≤ 4
  pub counts : s.has_count ≡ have_count xs

pub stored_more : (f c : ℕ) (ss : List Slot) (fs : List Finding) (cs : List Change) (s : Slot)
    (xs : List Finding) (ys : List Change)
    → AreLaid f c ss fs cs → IsBehind s xs ys
    → records_in (ss ++ s ∷ []) (fs ++ xs) (cs ++ ys) ≡ records_in ss fs cs ++ record_in s.kept xs ys ∷ []
stored_more f c [] fs cs s xs ys laid at =
    let found : take s.findings.count (fs ++ xs) ≡ xs =
    ap (λ (zs : List Finding). take s.findings.count (zs ++ xs)) laid.0
    ∙ take_all s.findings.count xs (omega (arith, at.findings)) in
    let made : take s.changes.count (cs ++ ys) ≡ ys =
    ap (λ (zs : List Change). take s.changes.count (zs ++ ys)) laid.1
    ∙ take_all s.changes.count ys (omega (arith, at.changes)) in
    (λ j. record_in s.kept (found j) (made j) ∷ [])
stored_more f c (t ∷ ts) fs cs s xs ys laid at =
    let a : ℕ = t.findings.count in
    let b : ℕ = t.changes.count in
    (λ j. record_in t.kept (take-append-le a fs xs laid.0.findings j)
    (take-append-le b cs ys laid.0.changes j)
    ∷ records_in (ts ++ s ∷ []) (drop-append-le a fs xs laid.0.findings j)
    (drop-append-le b cs ys laid.0.changes j))
    ∙ ap (λ (zs : List (Option Record)). record_in t.kept (take a fs) (take b cs) ∷ zs)
    (stored_more (f + a) (c + b) ts (drop a fs) (drop b cs) s xs ys laid.1 at)

pub laid_more : (f c : ℕ) (ss : List Slot) (fs : List Finding) (cs : List Change) (s : Slot)
    (xs : List Finding) (ys : List Change)
    → AreLaid f c ss fs cs → IsBehind s xs ys → s.findings.first ≡ f + length fs → s.changes.first
    ≡ c + length cs
    → AreLaid f c (ss ++ s ∷ []) (fs ++ xs) (cs ++ ys)
laid_more f c [] fs cs s xs ys laid at asked changed =
    let n : ℕ = s.findings.count in
    let m : ℕ = s.changes.count in
    let none : length fs ≡ 0 = ap (λ (zs : List Finding). length zs) laid.0 in
    let no : length cs ≡ 0 = ap (λ (zs : List Change). length zs) laid.1 in
    let found : take n (fs ++ xs) ≡ xs =
    ap (λ (zs : List Finding). take n (zs ++ xs)) laid.0 ∙ take_all n xs (omega (arith, at.findings)) in (
      record {
        asked = omega (arith, asked, none);
        changed = omega (arith, changed, no);
        findings = omega (arith, at.findings, none, length-append fs xs);
        changes = omega (arith, at.changes, no, length-append cs ys);
        few = omega (arith, at.few, at.changes);
        counts = at.counts ∙ ap have_count (sym found);
      },
      (
        drop_all n (fs ++ xs) (omega (arith, at.findings, none, length-append fs xs)),
        drop_all m (cs ++ ys) (omega (arith, at.changes, no, length-append cs ys)),
      ),
    )
laid_more f c (t ∷ ts) fs cs s xs ys laid at asked changed =
    let a : ℕ = t.findings.count in
    let b : ℕ = t.changes.count in
    let rest : AreLaid (f + a) (c + b) (ts ++ s ∷ []) (drop a fs ++ xs) (drop b cs ++ ys) =
    laid_more (f + a) (c + b) ts (drop a fs) (drop b cs) s xs ys laid.1 at
    (omega (arith, asked, laid.0.findings, length-drop a fs))
    (omega (arith, changed, laid.0.changes, length-drop b cs)) in (
      record {
        asked = laid.0.asked;
        changed = laid.0.changed;
        findings = omega (arith, laid.0.findings, length-append fs xs);
        changes = omega (arith, laid.0.changes, length-append cs ys);
        few = laid.0.few;
        counts = laid.0.counts ∙ ap have_count (sym (take-append-le a fs xs laid.0.findings));
      },
      subst (λ (zs : List Change). AreLaid (f + a) (c + b) (ts ++ s ∷ []) (drop a (fs ++ xs)) zs)
          (sym (drop-append-le b cs ys laid.0.changes))
          (subst (λ (zs : List Finding). AreLaid (f + a) (c + b) (ts ++ s ∷ []) zs (drop b cs ++ ys))
          (sym (drop-append-le a fs xs laid.0.findings)) rest),
    )

-- findings shifted
length_shifted : (k : Facts) (changes : List Change) (fs : List Finding) → length (shift_each k changes fs)
    ≡ length fs
length_shifted k changes [] = refl
length_shifted k changes (x ∷ xs) = ap suc (length_shifted k changes xs)

counts_stay : (k : Facts) (changes : List Change) (fs : List Finding) → have_count (shift_each k changes fs)
    ≡ have_count fs
counts_stay k changes [] = refl
counts_stay k changes (x ∷ xs) = ap (λ (b : Bool). is_count x.question || b) (counts_stay k changes xs)

no_count : (k : Facts) (changes : List Change) (q : Question) (a : Noted) → is_count q ≡ false
    → shift_of k q changes a ≡ a
no_count k changes (question.Value x) a is = refl
no_count k changes (question.Choice copy b day) a is = refl
no_count k changes (question.Place b) a is = refl
no_count k changes (question.Room p) a is = absurd (false≢true (sym is))
no_count k changes (question.Position t stamp) a is = refl
no_count k changes (question.OnShelf t kind pickup) a is = absurd (false≢true (sym is))

neither : (a b : Bool) → (a || b) ≡ false → (a ≡ false) × (b ≡ false)
neither true b is = absurd (false≢true (sym is))
neither false b is = (refl, is)

pub none_shifted : (k : Facts) (changes : List Change) (fs : List Finding) → have_count fs ≡ false
    → shift_each k changes fs ≡ fs
none_shifted k changes [] is = refl
none_shifted k changes (x ∷ xs) is =
    let parts = neither (is_count x.question) (have_count xs) is in
    (λ j. record { question = x.question; noted = no_count k changes x.question x.noted parts.0 j }
    ∷ none_shifted k changes xs parts.1 j)

pub shifted_in : (k : Facts) (changes : List Change) (o : Option RecordHead) (fs : List Finding)
    (cs : List Change)
    → shift_slot k changes (record_in o fs cs) ≡ record_in o (shift_each k changes fs) cs
shifted_in k changes None fs cs = refl
shifted_in k changes (Some x) fs cs = refl

-- the findings with those from a place on shifted, so many
abbrev pub mended : Facts → List Change → ℕ → ℕ → List Finding → List Finding
mended k changes before n fs =
    take before fs ++ (shift_each k changes (take n (drop before fs)) ++ drop n (drop before fs))

take_first : {X : Type 0} → (n : ℕ) (xs ys : List X) → length xs ≡ n → take n (xs ++ ys) ≡ xs
take_first n xs ys is = take-append-le n xs ys (omega (arith, is)) ∙ take_all n xs (omega (arith, is))

drop_first : {X : Type 0} → (n : ℕ) (xs ys : List X) → length xs ≡ n → drop n (xs ++ ys) ≡ ys
drop_first {X = X} n xs ys is =
    drop-append-le n xs ys (omega (arith, is))
    ∙ ap (λ (zs : List X). zs ++ ys) (drop_all n xs (omega (arith, is)))

mended_at : (k : Facts) (changes : List Change) (b n : ℕ) (fs : List Finding) → b ≡ 0
    → mended k changes b n fs ≡ shift_each k changes (take n fs) ++ drop n fs
mended_at k changes b n fs is = ap (λ (i : ℕ). mended k changes i n fs) is

mended_past : (k : Facts) (changes : List Change) (a b e n : ℕ) (fs : List Finding) → b ≡ a + e
    → mended k changes b n fs ≡ take a fs ++ mended k changes e n (drop a fs)
mended_past k changes a b e n fs is =
    ap (λ (i : ℕ). mended k changes i n fs) is
    ∙ (λ j. take-add a e fs
    j ++ (shift_each k changes (take n (sym (drop-drop e a fs) j)) ++ drop n (sym (drop-drop e a fs) j)))
    ∙ append_assoc (take a fs) (take e (drop a fs))
    (shift_each k changes (take n (drop e (drop a fs))) ++ drop n (drop e (drop a fs)))

-- the first slot's part of them, and the others'
record Cut (a : ℕ) (xs first rest : List Finding) : Type 0 where
  taken : take a xs ≡ first
  left : drop a xs ≡ rest

cut_at : (k : Facts) (changes : List Change) (b n : ℕ) (fs : List Finding) → b ≡ 0 → n ≤ length fs
    → Cut n (mended k changes b n fs) (shift_each k changes (take n fs)) (drop n fs)
cut_at k changes b n fs is le =
    let size : length (shift_each k changes (take n fs)) ≡ n =
    length_shifted k changes (take n fs) ∙ length-take-le n fs le in
    record {
      taken =
          ap (λ (zs : List Finding). take n zs) (mended_at k changes b n fs is)
          ∙ take_first n (shift_each k changes (take n fs)) (drop n fs) size;
      left =
          ap (λ (zs : List Finding). drop n zs) (mended_at k changes b n fs is)
          ∙ drop_first n (shift_each k changes (take n fs)) (drop n fs) size;
    }

cut_past : (k : Facts) (changes : List Change) (a b e n : ℕ) (fs : List Finding) → b ≡ a + e → a ≤ length fs
    → Cut a (mended k changes b n fs) (take a fs) (mended k changes e n (drop a fs))
cut_past k changes a b e n fs is le =
    record {
      taken =
          ap (λ (zs : List Finding). take a zs) (mended_past k changes a b e n fs is)
          ∙ take_first a (take a fs) (mended k changes e n (drop a fs)) (length-take-le a fs le);
      left =
          ap (λ (zs : List Finding). drop a zs) (mended_past k changes a b e n fs is)
          ∙ drop_first a (take a fs) (mended k changes e n (drop a fs)) (length-take-le a fs le);
    }

-- the record of a slot mended
pub stored_mended : (k : Facts) (changes : List Change) (f c p b : ℕ) (d : Slot) (ss : List Slot)
    (fs : List Finding) (cs : List Change)
    → p < length ss → AreLaid f c ss fs cs → (get_or ss p d).findings.first ≡ f + b
    → records_in ss (mended k changes b (get_or ss p d).findings.count fs) cs
    ≡ set (records_in ss fs cs) p (shift_slot k changes (get_or (records_in ss fs cs) p None))
stored_mended k changes f c p b d [] fs cs below laid asked = absurd (omega (arith, below))
stored_mended k changes f c zero b d (s ∷ ss) fs cs below laid asked =
    let n : ℕ = s.findings.count in
    let cut : Cut n (mended k changes b n fs) (shift_each k changes (take n fs)) (drop n fs) =
    cut_at k changes b n fs (omega (arith, asked, laid.0.asked)) laid.0.findings in
    (λ j. record_in s.kept (cut.taken j) (take s.changes.count cs) ∷ records_in ss (cut.left j)
    (drop s.changes.count cs))
    ∙ ap (λ (o : Option Record). o ∷ records_in ss (drop n fs) (drop s.changes.count cs))
    (sym (shifted_in k changes s.kept (take n fs) (take s.changes.count cs)))
stored_mended k changes f c (suc p) b d (s ∷ ss) fs cs below laid asked =
    let a : ℕ = s.findings.count in
    let t : Slot = get_or ss p d in
    let n : ℕ = t.findings.count in
    let at : Stands (f + a) (c + s.changes.count) p t ss (drop a fs) (drop s.changes.count cs) =
    stands (f + a) (c + s.changes.count) p d ss (drop a fs) (drop s.changes.count cs) (omega (arith, below))
    laid.1 in
    let cut : Cut a (mended k changes b n fs) (take a fs) (mended k changes at.before n (drop a fs)) =
    cut_past k changes a b at.before n fs (omega (arith, asked, at.asked)) laid.0.findings in
    (λ j. record_in s.kept (cut.taken j) (take s.changes.count cs) ∷ records_in ss (cut.left j)
    (drop s.changes.count cs))
    ∙ ap (λ (xs : List (Option Record)). record_in s.kept (take a fs) (take s.changes.count cs) ∷ xs)
    (stored_mended k changes (f + a) (c + s.changes.count) p at.before d ss (drop a fs)
    (drop s.changes.count cs)
    (omega (arith, below)) laid.1 at.asked)

pub laid_mended : (k : Facts) (changes : List Change) (f c p b : ℕ) (d : Slot) (ss : List Slot)
    (fs : List Finding) (cs : List Change)
    → p < length ss → AreLaid f c ss fs cs → (get_or ss p d).findings.first ≡ f + b
    → AreLaid f c ss (mended k changes b (get_or ss p d).findings.count fs) cs
laid_mended k changes f c p b d [] fs cs below laid asked = absurd (omega (arith, below))
laid_mended k changes f c zero b d (s ∷ ss) fs cs below laid asked =
    let n : ℕ = s.findings.count in
    let start : b ≡ 0 = omega (arith, asked, laid.0.asked) in
    let cut : Cut n (mended k changes b n fs) (shift_each k changes (take n fs)) (drop n fs) =
    cut_at k changes b n fs start laid.0.findings in
    let size : length (mended k changes b n fs)
    ≡ length (shift_each k changes (take n fs)) + length (drop n fs) =
    ap (λ (zs : List Finding). length zs) (mended_at k changes b n fs start)
    ∙ length-append (shift_each k changes (take n fs)) (drop n fs) in
    let part : length (shift_each k changes (take n fs)) ≡ n =
    length_shifted k changes (take n fs) ∙ length-take-le n fs laid.0.findings in (
      record {
        asked = laid.0.asked;
        changed = laid.0.changed;
        findings = omega (arith, size, part);
        changes = laid.0.changes;
        few = laid.0.few;
        counts = laid.0.counts ∙ sym (counts_stay k changes (take n fs)) ∙ ap have_count (sym cut.taken);
      },
      subst (λ (zs : List Finding). AreLaid (f + n) (c + s.changes.count) ss zs (drop s.changes.count cs))
          (sym cut.left) laid.1,
    )
laid_mended k changes f c (suc p) b d (s ∷ ss) fs cs below laid asked =
    let a : ℕ = s.findings.count in
    let t : Slot = get_or ss p d in
    let n : ℕ = t.findings.count in
    let at : Stands (f + a) (c + s.changes.count) p t ss (drop a fs) (drop s.changes.count cs) =
    stands (f + a) (c + s.changes.count) p d ss (drop a fs) (drop s.changes.count cs) (omega (arith, below))
    laid.1 in
    let start : b ≡ a + at.before = omega (arith, asked, at.asked) in
    let cut : Cut a (mended k changes b n fs) (take a fs) (mended k changes at.before n (drop a fs)) =
    cut_past k changes a b at.before n fs start laid.0.findings in
    let size : length (mended k changes b n fs)
    ≡ length (take a fs) + length (mended k changes at.before n (drop a fs)) =
    ap (λ (zs : List Finding). length zs) (mended_past k changes a b at.before n fs start)
    ∙ length-append (take a fs) (mended k changes at.before n (drop a fs)) in
    let part : length (take a fs) ≡ a = length-take-le a fs laid.0.findings in (
      record {
        asked = laid.0.asked;
        changed = laid.0.changed;
        findings = omega (arith, size, part);
        changes = laid.0.changes;
        few = laid.0.few;
        counts = laid.0.counts ∙ ap have_count (sym cut.taken);
      },
      subst (λ (zs : List Finding). AreLaid (f + a) (c + s.changes.count) ss zs (drop s.changes.count cs))
          (sym cut.left)
          (laid_mended k changes (f + a) (c + s.changes.count) p at.before d ss (drop a fs)
          (drop s.changes.count cs)
          (omega (arith, below)) laid.1 at.asked),
    )

-- a record that notes no count
pub nothing_mended : (k : Facts) (changes : List Change) (p : ℕ) (items : List (Option Record))
    (o : Option RecordHead) (fs : List Finding)
    (cs : List Change) → get_or items p None ≡ record_in o fs cs → have_count fs ≡ false
    → items ≡ set items p (shift_slot k changes (get_or items p None))
nothing_mended k changes p items o fs cs at none =
    let same : shift_slot k changes (get_or items p None) ≡ get_or items p None =
    ap (shift_slot k changes) at ∙ shifted_in k changes o fs cs
    ∙ ap (λ (xs : List Finding). record_in o xs cs) (none_shifted k changes fs none) ∙ sym at in
    sym (ap (set items p) same ∙ set-get_or items p None)

-- an empty slot
pub none_mended : (k : Facts) (changes : List Change) (p : ℕ) (items : List (Option Record))
    → get_or items p None ≡ None
    → items ≡ set items p (shift_slot k changes (get_or items p None))
none_mended k changes p items at =
    sym (ap (set items p) (ap (shift_slot k changes) at ∙ sym at) ∙ set-get_or items p None)
