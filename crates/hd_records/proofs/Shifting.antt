-- Slots with the records of some numbers shifted.
use Rattle.std.proofs.Common.{arith, ◌≡◌, refl, sym, ◌∙◌, ap, subst, ℕ, zero, suc, ◌+◌, ◌<◌, Bool, true}
use Rattle.std.proofs.Common.{false, cond, ◌||◌, ◌==◌}
use Rattle.std.proofs.Common.{List, [], ◌∷◌, length, get_or, set, map, Option, None, Some}
use Rattle.std.proofs.lemmas.Bool.{false≢true, eqb-true, ne_eqb, or_parts}
use Rattle.std.specs.List.{AllByRecursion}
use Rattle.hd_index.specs.Rising.{IsRising}
use Rattle.hd_index.specs.Union.{has}
use Rattle.hd_rules.specs.declared.cells.Change.{Change}
use Rattle.hd_rules.specs.Facts.{Facts}
use Rattle.hd_rules.specs.Record.{Record}
use Rattle.hd_clash.specs.Records.{EachRecordIsKnown}
use Rattle.hd_clash.specs.Shift.{shift_record}
use Rattle.hd_records.specs.Slots.{AreNumbered, records_at, shift_at, shift_slot, slot_of, records_there}
use Rattle.hd_lemmas.proofs.Tests.{number_self}

has_alone : (n m : ℕ) → (n ≡ m → ⊥) → has m (n ∷ []) ≡ false
has_alone n m other = ap (λ (b : Bool). b || false) (ne_eqb n m other)

has_itself : (n : ℕ) (ns : List ℕ) → has n (n ∷ ns) ≡ true
has_itself n ns = ap (λ (b : Bool). b || has n ns) (number_self n)

-- no numbers
pub shift_nothing : (k : Facts) (changes : List Change) (b : ℕ) (slots : List (Option Record))
    → shift_at k changes [] b slots ≡ slots
shift_nothing k changes b [] = refl
shift_nothing k changes b (x ∷ xs) =
    ap (λ (ys : List (Option Record)). x ∷ ys) (shift_nothing k changes (suc b) xs)

pub length_shift_at : (k : Facts) (changes : List Change) (ns : List ℕ) (b : ℕ) (slots : List (Option Record))
    → length (shift_at k changes ns b slots) ≡ length slots
length_shift_at k changes ns b [] = refl
length_shift_at k changes ns b (x ∷ xs) = ap suc (length_shift_at k changes ns (suc b) xs)

-- no slot has the number
pub shift_past : (k : Facts) (changes : List Change) (n b : ℕ) (slots : List (Option Record))
    → ((m : ℕ) → m < length slots → n ≡ suc b + m → ⊥)
    → shift_at k changes (n ∷ []) b slots ≡ slots
shift_past k changes n b [] other = refl
shift_past k changes n b (x ∷ xs) other =
    let here : has (suc b) (n ∷ [])
    ≡ false = has_alone n (suc b) (λ (is : n ≡ suc b). other 0 (omega arith) (omega (arith, is))) in
    let rest : shift_at k changes (n ∷ []) (suc b) xs ≡ xs =
    shift_past k changes n (suc b) xs (λ (m : ℕ) (below : m < length xs) (is : n ≡ suc (suc b) + m).
    other (suc m) (omega (arith, below)) (omega (arith, is))) in
    (λ j. cond (here j) (shift_slot k changes x) x ∷ rest j)

-- one slot has it
pub shift_one : (k : Facts) (changes : List Change) (n b m : ℕ) (slots : List (Option Record)) → n ≡ suc b + m
    → m < length slots
    → shift_at k changes (n ∷ []) b slots ≡ set slots m (shift_slot k changes (get_or slots m None))
shift_one k changes n b m [] is below = absurd (omega (arith, below))
shift_one k changes n b zero (x ∷ xs) is below =
    let same : n ≡ suc b = omega (arith, is) in
    let here : has (suc b) (n ∷ []) ≡ true =
    subst (λ (i : ℕ). has i (n ∷ []) ≡ true) same (has_itself n []) in
    let rest : shift_at k changes (n ∷ []) (suc b) xs ≡ xs =
    shift_past k changes n (suc b) xs
    (λ (m : ℕ) (low : m < length xs) (at : n ≡ suc (suc b) + m). omega (arith, at, same)) in
    (λ j. cond (here j) (shift_slot k changes x) x ∷ rest j)
shift_one k changes n b (suc m) (x ∷ xs) is below =
    let here : has (suc b) (n ∷ [])
    ≡ false = has_alone n (suc b) (λ (same : n ≡ suc b). omega (arith, is, same)) in
    let rest = shift_one k changes n (suc b) m xs (omega (arith, is)) (omega (arith, below)) in
    (λ j. cond (here j) (shift_slot k changes x) x ∷ rest j)

-- one number after others
twice : (k : Facts) (changes : List Change) (slot : Option Record) (one rest : Bool)
    → (one ≡ true → rest ≡ false)
    → cond rest (shift_slot k changes (cond (one || false) (shift_slot k changes slot) slot))
    (cond (one || false) (shift_slot k changes slot) slot)
    ≡ cond (one || rest) (shift_slot k changes slot) slot
twice k changes slot true rest apart =
    ap (λ (b : Bool). cond b (shift_slot k changes (shift_slot k changes slot)) (shift_slot k changes slot))
    (apart refl)
twice k changes slot false true apart = refl
twice k changes slot false false apart = refl

pub shift_more : (k : Facts) (changes : List Change) (n b : ℕ) (ns : List ℕ) (slots : List (Option Record))
    → has n ns ≡ false
    → shift_at k changes ns b (shift_at k changes (n ∷ []) b slots) ≡ shift_at k changes (n ∷ ns) b slots
shift_more k changes n b ns [] other = refl
shift_more k changes n b ns (x ∷ xs) other =
    (λ j. twice k changes x (n == suc b) (has (suc b) ns)
    (λ (is : (n == suc b) ≡ true). subst (λ (m : ℕ). has m ns ≡ false) (eqb-true n (suc b) is) other) j
    ∷ shift_more k changes n (suc b) ns xs other j)

-- the other numbers' slots stay
slot_stays : (k : Facts) (changes : List Change) (n m b i : ℕ) (slots : List (Option Record)) → m ≡ suc b + i
    → (n ≡ m → ⊥)
    → get_or (shift_at k changes (n ∷ []) b slots) i None ≡ get_or slots i None
slot_stays k changes n m b i [] is other = refl
slot_stays k changes n m b zero (x ∷ xs) is other =
    let here : has (suc b) (n ∷ [])
    ≡ false = has_alone n (suc b) (λ (same : n ≡ suc b). other (omega (arith, is, same))) in
    ap (λ (c : Bool). cond c (shift_slot k changes x) x) here
slot_stays k changes n m b (suc i) (x ∷ xs) is other =
    slot_stays k changes n m (suc b) i xs (omega (arith, is)) other

stays : (k : Facts) (changes : List Change) (n m : ℕ) (slots : List (Option Record)) → (n ≡ m → ⊥)
    → slot_of m (shift_at k changes (n ∷ []) 0 slots) ≡ slot_of m slots
stays k changes n zero slots other = refl
stays k changes n (suc i) slots other = slot_stays k changes n (suc i) 0 i slots (omega arith) other

no_number : (n m : ℕ) (ms : List ℕ) → has n (m ∷ ms) ≡ false → n ≡ m → ⊥
no_number n m ms none is =
    false≢true (sym none ∙ subst (λ (i : ℕ). has n (i ∷ ms) ≡ true) is (has_itself n ms))

records_stay : (k : Facts) (changes : List Change) (n : ℕ) (ns : List ℕ) (slots : List (Option Record))
    → has n ns ≡ false
    → records_at ns (shift_at k changes (n ∷ []) 0 slots) ≡ records_at ns slots
records_stay k changes n [] slots none = refl
records_stay k changes n (m ∷ ms) slots none =
    let here : slot_of m (shift_at k changes (n ∷ []) 0 slots) ≡ slot_of m slots =
    stays k changes n m slots (no_number n m ms none) in
    let rest : records_at ms (shift_at k changes (n ∷ []) 0 slots) ≡ records_at ms slots =
    records_stay k changes n ms slots (or_parts (m == n) (has n ms) none).1 in
    ap (λ (o : Option Record). records_there
    (o ∷ map (λ i. slot_of i (shift_at k changes (n ∷ []) 0 slots)) ms)) here
    ∙ join (slot_of m slots) rest
  where
    join : (o : Option Record) → records_at ms (shift_at k changes (n ∷ []) 0 slots) ≡ records_at ms slots
        → records_there (o ∷ map (λ i. slot_of i (shift_at k changes (n ∷ []) 0 slots)) ms)
        ≡ records_there (o ∷ map (λ i. slot_of i slots) ms)
    join None is = is
    join (Some r) is = ap (λ (rs : List Record). r ∷ rs) is

-- known records of numbers
pub known_first : (k : Facts) (n : ℕ) (ns : List ℕ) (slots : List (Option Record))
    → EachRecordIsKnown k (records_at (n ∷ ns) slots)
    → EachRecordIsKnown k (records_at (n ∷ []) slots)
known_first k n ns slots known = by_slot (slot_of n slots) known
  where
    by_slot : (o : Option Record) → EachRecordIsKnown k (records_there (o ∷ map (λ i. slot_of i slots) ns))
        → EachRecordIsKnown k (records_there (o ∷ []))
    by_slot None all = tt
    by_slot (Some r) all = (all.0, tt)

pub known_later : (k : Facts) (n : ℕ) (ns : List ℕ) (slots : List (Option Record))
    → EachRecordIsKnown k (records_at (n ∷ ns) slots)
    → EachRecordIsKnown k (records_at ns slots)
known_later k n ns slots known = by_slot (slot_of n slots) known
  where
    by_slot : (o : Option Record) → EachRecordIsKnown k (records_there (o ∷ map (λ i. slot_of i slots) ns))
        → EachRecordIsKnown k (records_there (map (λ i. slot_of i slots) ns))
    by_slot None all = all
    by_slot (Some r) all = all.1

-- a rising list has its first number once
pub not_again : (n : ℕ) (ns : List ℕ) → AllByRecursion (λ m. n < m) ns → has n ns ≡ false
not_again n [] above = refl
not_again n (m ∷ ms) above =
    let here : (m == n) ≡ false = ne_eqb m n (λ (same : m ≡ n). omega (arith, same, above.0)) in
    (λ j. here j || not_again n ms above.1 j)

-- what the first of the numbers leaves to mend
pub record Mends (k : Facts) (changes : List Change) (n : ℕ) (ns : List ℕ)
    (slots : List (Option Record)) : Type 0 where
  pub first : EachRecordIsKnown k (records_at (n ∷ []) slots)
  pub later : EachRecordIsKnown k (records_at ns (shift_at k changes (n ∷ []) 0 slots))
  pub rest : shift_at k changes ns 0 (shift_at k changes (n ∷ []) 0 slots)
      ≡ shift_at k changes (n ∷ ns) 0 slots

pub mends : (k : Facts) (changes : List Change) (n : ℕ) (ns : List ℕ) (slots : List (Option Record))
    → IsRising (n ∷ ns)
    → EachRecordIsKnown k (records_at (n ∷ ns) slots) → Mends k changes n ns slots
mends k changes n ns slots rising known =
    let none : has n ns ≡ false = not_again n ns rising.0 in
    record {
      first = known_first k n ns slots known;
      later =
          subst (EachRecordIsKnown k) (sym (records_stay k changes n ns slots none))
          (known_later k n ns slots known);
      rest = shift_more k changes n 0 ns slots none;
    }

-- the slots of numbered records are numbered
pub numbered_shifted : (k : Facts) (changes : List Change) (ns : List ℕ) (b : ℕ)
    (slots : List (Option Record)) → AreNumbered b slots
    → AreNumbered b (shift_at k changes ns b slots)
numbered_shifted k changes ns b [] numbered = tt
numbered_shifted k changes ns b (None ∷ xs) numbered =
    by_test (has (suc b) ns) (numbered_shifted k changes ns (suc b) xs numbered)
  where
    by_test : (c : Bool) → AreNumbered (suc b) (shift_at k changes ns (suc b) xs)
        → AreNumbered b (cond c (shift_slot k changes None) None ∷ shift_at k changes ns (suc b) xs)
    by_test true rest = rest
    by_test false rest = rest
numbered_shifted k changes ns b (Some r ∷ xs) numbered =
    by_test (has (suc b) ns) (numbered_shifted k changes ns (suc b) xs numbered.1)
  where
    by_test : (c : Bool) → AreNumbered (suc b) (shift_at k changes ns (suc b) xs)
        → AreNumbered b (cond c (shift_slot k changes (Some r)) (Some r) ∷ shift_at k changes ns (suc b) xs)
    by_test true rest = (numbered.0, rest)
    by_test false rest = (numbered.0, rest)

-- a record shifted, where its number is among these
abbrev pub shift_if : Facts → List Change → List ℕ → Record → Record
shift_if k changes ns r = cond (has r.number ns) (shift_record k changes r) r

pub taken_shifted : (k : Facts) (changes : List Change) (ns : List ℕ) (b : ℕ) (slots : List (Option Record))
    → AreNumbered b slots
    → records_there (shift_at k changes ns b slots) ≡ map (shift_if k changes ns) (records_there slots)
taken_shifted k changes ns b [] numbered = refl
taken_shifted k changes ns b (None ∷ xs) numbered =
    by_test (has (suc b) ns) (taken_shifted k changes ns (suc b) xs numbered)
  where
    by_test : (c : Bool) → records_there (shift_at k changes ns (suc b) xs)
        ≡ map (shift_if k changes ns) (records_there xs)
        → records_there (cond c (shift_slot k changes None) None ∷ shift_at k changes ns (suc b) xs)
        ≡ map (shift_if k changes ns) (records_there xs)
    by_test true rest = rest
    by_test false rest = rest
taken_shifted k changes ns b (Some r ∷ xs) numbered =
    by_test (has (suc b) ns) (taken_shifted k changes ns (suc b) xs numbered.1)
    ∙ ap (λ (n : ℕ). cond (has n ns) (shift_record k changes r) r ∷ map (shift_if k changes ns)
    (records_there xs)) (sym numbered.0)
  where
    by_test : (c : Bool) → records_there (shift_at k changes ns (suc b) xs)
        ≡ map (shift_if k changes ns) (records_there xs)
        → records_there (cond c (shift_slot k changes (Some r)) (Some r) ∷ shift_at k changes ns (suc b) xs)
        ≡ cond c (shift_record k changes r) r ∷ map (shift_if k changes ns) (records_there xs)
    by_test true rest = ap (λ (rs : List Record). shift_record k changes r ∷ rs) rest
    by_test false rest = ap (λ (rs : List Record). r ∷ rs) rest
