-- What a walk under the keys of changes meets, and what is left once a record is taken out.
use Rattle.std.proofs.Common.{arith, ◌≡◌, refl, sym, ◌∙◌, ap, ℕ, zero, suc, ◌+◌, ◌-◌, ◌<◌, ◌≤◌, Bool, true}
use Rattle.std.proofs.Common.{false, cond, nat_lt}
use Rattle.std.proofs.Common.{subst, length, List, [], ◌∷◌, ◌++◌, take, drop, get_or, set, map, filter}
use Rattle.std.proofs.Common.{Option, None, Some}
use Rattle.std.proofs.lemmas.Bool.Decides.{nat_tests}
use Rattle.std.proofs.lemmas.List.{length-set, map-append}
use Rattle.hd_index.specs.Union.{has, union}
use Rattle.hd_rules.specs.declared.cells.Change.{Change}
use Rattle.hd_rules.specs.Facts.{Facts}
use Rattle.hd_rules.specs.Record.{Record}
use Rattle.hd_rules.specs.Run.{IsAmong, Rising}
use Rattle.hd_clash.specs.About.{EachIsAbout, OnlyTouchedRecordsShift, shift_touched, touches}
use Rattle.hd_clash.specs.Shift.{shift_record, shift_records}
use Rattle.hd_records.specs.Index.{numbers_of}
use Rattle.hd_records.specs.Slots.{AreNumbered, records_at, shift_at, slot_of, records_there}
use Rattle.hd_records.specs.Survivors.{newer, older, survivors_of}
use Rattle.hd_records.proofs.Filters.{about_filter, among_filter, map_alike, map_none, passes, rising_filter}
use Rattle.hd_records.proofs.Shifting.{length_shift_at, numbered_shifted, shift_if, taken_shifted}
use Rattle.hd_records.proofs.Numbered.{newer_are, older_are, slots_rise}
use Rattle.hd_records.proofs.Standing.{Stand, at_numbers, stand_all}
use Rattle.hd_records.proofs.Touched.{has_is, has_not}

-- the later records that the changes touch
abbrev pub met : Facts → List Change → ℕ → List (Option Record) → List Record
met k changes n slots = filter (touches k changes) (newer n (records_there slots))

-- they stand where they stood, in these slots too
pub record Touching (k : Facts) (changes : List Change) (n : ℕ) (slots : List (Option Record))
    (lists : List (List ℕ)) : Type 0 where
  pub numbers : union lists ≡ numbers_of (met k changes n slots)
  pub there : records_at (union lists) slots ≡ met k changes n slots

stand_met : (k : Facts) (changes : List Change) (n : ℕ) (slots : List (Option Record)) → AreNumbered 0 slots
    → Stand slots (met k changes n slots)
stand_met k changes n slots numbered r among =
    stand_all slots numbered r
    (among_filter (λ x. nat_lt n x.number) r (records_there slots)
    (among_filter (touches k changes) r (newer n (records_there slots)) among))

pub touching : (k : Facts) (changes : List Change) (n : ℕ) (slots : List (Option Record))
    (lists : List (List ℕ)) → AreNumbered 0 slots
    → union lists ≡ numbers_of (met k changes n slots) → Touching k changes n slots lists
touching k changes n slots lists numbered numbers = record {
  numbers = numbers;
  there =
      ap (λ (ns : List ℕ). records_at ns slots) numbers
      ∙ at_numbers slots (met k changes n slots) (stand_met k changes n slots numbered);
}

-- a slot emptied
abbrev pub emptied : ℕ → List (Option Record) → List (Option Record)
emptied n slots = set slots (n - 1) None

set_other : (p q : ℕ) (slots : List (Option Record)) → (p ≡ q → ⊥) → get_or (set slots p None) q None
    ≡ get_or slots q None
set_other p q [] other = refl
set_other zero zero (x ∷ xs) other = absurd (other refl)
set_other zero (suc q) (x ∷ xs) other = refl
set_other (suc p) zero (x ∷ xs) other = refl
set_other (suc p) (suc q) (x ∷ xs) other = set_other p q xs (λ (same : p ≡ q). other (ap suc same))

slot_other : (n m : ℕ) (slots : List (Option Record)) → 1 ≤ n → n < m → slot_of m (emptied n slots)
    ≡ slot_of m slots
slot_other n zero slots one less = absurd (omega (arith, less))
slot_other n (suc q) slots one less =
    set_other (n - 1) q slots (λ (same : n - 1 ≡ q). omega (arith, same, one, less))

numbered_set : (b p : ℕ) (slots : List (Option Record)) → AreNumbered b slots
    → AreNumbered b (set slots p None)
numbered_set b p [] numbered = tt
numbered_set b zero (None ∷ xs) numbered = numbered
numbered_set b zero (Some r ∷ xs) numbered = numbered.1
numbered_set b (suc p) (None ∷ xs) numbered = numbered_set (suc b) p xs numbered
numbered_set b (suc p) (Some r ∷ xs) numbered = (numbered.0, numbered_set (suc b) p xs numbered.1)

numbered_emptied : (n : ℕ) (slots : List (Option Record)) → AreNumbered 0 slots
    → AreNumbered 0 (emptied n slots)
numbered_emptied n slots numbered = numbered_set 0 (n - 1) slots numbered

taken_set : (p : ℕ) (slots : List (Option Record)) → records_there (set slots p None)
    ≡ records_there (take p slots) ++ records_there (drop (suc p) slots)
taken_set zero [] = refl
taken_set (suc p) [] = refl
taken_set zero (x ∷ xs) = refl
taken_set (suc p) (None ∷ xs) = taken_set p xs
taken_set (suc p) (Some r ∷ xs) = ap (λ (rs : List Record). r ∷ rs) (taken_set p xs)

taken_emptied : (n : ℕ) (slots : List (Option Record)) → 1 ≤ n → AreNumbered 0 slots
    → records_there (emptied n slots) ≡ older n (records_there slots) ++ newer n (records_there slots)
taken_emptied n slots one numbered =
    taken_set (n - 1) slots
    ∙ (λ j. sym (older_are n 0 (n - 1) slots (omega (arith, one)) numbered) j
    ++ sym (newer_are n 0 (suc (n - 1)) slots (omega (arith, one)) numbered) j)

-- those met stand in what is left
pub met_left : (k : Facts) (changes : List Change) (n : ℕ) (slots : List (Option Record))
    (lists : List (List ℕ)) → 1 ≤ n
    → AreNumbered 0 slots → Touching k changes n slots lists → records_at (union lists) (emptied n slots)
    ≡ met k changes n slots
met_left k changes n slots lists one numbered at =
    ap (λ (ns : List ℕ). records_at ns (emptied n slots)) at.numbers
    ∙ at_numbers (emptied n slots) (met k changes n slots)
    (λ (r : Record) (among : IsAmong r (met k changes n slots)).
    let later : IsAmong r (newer n (records_there slots)) =
    among_filter (touches k changes) r (newer n (records_there slots)) among in
    let up : nat_lt n r.number ≡ true = passes (λ x. nat_lt n x.number) r (records_there slots) later in
    let less : n < r.number = grind (arith, nat_tests, up) in
    slot_other n r.number slots one less ∙ stand_met k changes n slots numbered r among)

-- numbers of the newer ones
newer_rise : (n m : ℕ) (rs : List Record) → Rising m (survivors_of rs)
    → Rising (n + 1) (survivors_of (newer n rs))
newer_rise n m [] rising = tt
newer_rise n m (x ∷ xs) rising = by_test (nat_lt n x.number) refl (newer_rise n (x.number + 1) xs rising.1)
  where
    by_test : (b : Bool) → nat_lt n x.number ≡ b → Rising (n + 1) (survivors_of (newer n xs))
        → Rising (n + 1) (survivors_of (cond b (x ∷ newer n xs) (newer n xs)))
    by_test true is rest =
        let less : n < x.number = grind (arith, nat_tests, is) in
        (omega (arith, less), rising_filter (λ r. nat_lt n r.number) (x.number + 1) xs rising.1)
    by_test false is rest = rest

-- the records that are left: the older ones as they were, the newer ones shifted
left_records : OnlyTouchedRecordsShift
    → (k : Facts) (changes : List Change) (n : ℕ) (slots final : List (Option Record))
    (lists : List (List ℕ)) → 1 ≤ n → AreNumbered 0 slots → EachIsAbout k (records_there slots)
    → Touching k changes n slots lists
    → final ≡ shift_at k changes (union lists) 0 (emptied n slots)
    → records_there final
    ≡ older n (records_there slots) ++ shift_records k changes (newer n (records_there slots))
left_records law k changes n slots final lists one numbered about at is =
    let rs : List Record = records_there slots in
    let ns : List ℕ = union lists in
    let up : Rising 1 (survivors_of rs) = slots_rise 0 1 slots (omega arith) numbered in
    let later : Rising (n + 1) (survivors_of (newer n rs)) = newer_rise n 1 rs up in
    let stays : map (shift_if k changes ns) (older n rs) ≡ older n rs =
    map_none (shift_if k changes ns) (older n rs) (λ (r : Record) (among : IsAmong r (older n rs)).
    let low : nat_lt r.number n ≡ true = passes (λ x. nat_lt x.number n) r rs among in
    let less : r.number < n = grind (arith, nat_tests, low) in
    let none : has r.number ns ≡ false =
    ap (has r.number) at.numbers
    ∙ has_not (touches k changes) n r.number (n + 1) (newer n rs) later (omega arith) (omega (arith, less)) in
    ap (λ (b : Bool). cond b (shift_record k changes r) r) none) in
    let shifts : map (shift_if k changes ns) (newer n rs) ≡ map (shift_touched k changes) (newer n rs) =
    map_alike (shift_if k changes ns) (shift_touched k changes) (newer n rs)
    (λ (r : Record) (among : IsAmong r (newer n rs)).
    let same : has r.number ns ≡ touches k changes r =
    ap (has r.number) at.numbers ∙ has_is (touches k changes) (n + 1) (newer n rs) r later among in
    ap (λ (b : Bool). cond b (shift_record k changes r) r) same) in
    ap records_there is ∙ taken_shifted k changes ns 0 (emptied n slots) (numbered_emptied n slots numbered)
    ∙ ap (map (shift_if k changes ns)) (taken_emptied n slots one numbered)
    ∙ map-append (shift_if k changes ns) (older n rs) (newer n rs)
    ∙ (λ j. stays j ++ shifts j)
    ∙ ap (λ (ys : List Record). older n rs ++ ys)
    (sym (law k changes (newer n rs) (about_filter k (λ r. nat_lt n r.number) rs about)))

-- the slots that are left
pub record IsLeft (k : Facts) (changes : List Change) (n : ℕ) (slots final : List (Option Record)) : Type 0
  where
    pub numbered : AreNumbered 0 final
    pub size : length final ≡ length slots
    pub records : records_there final
        ≡ older n (records_there slots) ++ shift_records k changes (newer n (records_there slots))

pub is_left : OnlyTouchedRecordsShift
    → (k : Facts) (changes : List Change) (n : ℕ) (slots middle final : List (Option Record))
    (lists : List (List ℕ)) → 1 ≤ n → AreNumbered 0 slots → EachIsAbout k (records_there slots)
    → Touching k changes n slots lists
    → middle ≡ emptied n slots → final ≡ shift_at k changes (union lists) 0 middle
    → IsLeft k changes n slots final
is_left law k changes n slots middle final lists one numbered about at taken mended =
    let is : final ≡ shift_at k changes (union lists) 0 (emptied n slots) = mended
    ∙ ap (shift_at k changes (union lists) 0) taken in
    record {
      numbered = subst (AreNumbered 0) (sym is)
          (numbered_shifted k changes (union lists) 0 (emptied n slots) (numbered_emptied n slots numbered));
      size = ap (λ (xs : List (Option Record)). length xs) is
          ∙ length_shift_at k changes (union lists) 0 (emptied n slots)
          ∙ length-set slots (n - 1) None;
      records = left_records law k changes n slots final lists one numbered about at is;
    }
