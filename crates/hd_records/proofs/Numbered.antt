-- Slots, and the records in them.
use Rattle.std.proofs.Common.{arith, ◌≡◌, refl, sym, ap, ℕ, zero, suc, ◌+◌, ◌<◌, ◌≤◌}
use Rattle.std.proofs.Common.{List, [], ◌∷◌, ◌++◌, length, take, drop, get_or, Option, None, Some}
use Rattle.std.specs.Option.{IsSome}
use Rattle.std.proofs.lemmas.Bool.{false≢true}
use Rattle.std.proofs.lemmas.Bool.Decides.{nat_tests}
use Rattle.std.proofs.lemmas.Option.{none-some}
use Rattle.hd_rules.specs.Record.{Record}
use Rattle.hd_rules.specs.Run.{Rising}
use Rattle.hd_records.specs.Slots.{AreNumbered, slot_of, records_there}
use Rattle.hd_records.specs.Survivors.{newer, older, record_of, survivors_of}

pub some_same : (x y : Record) → Some x ≡ Some y → x ≡ y
some_same x y is = ap (λ (o : Option Record). record_or o) is
  where
    record_or : Option Record → Record
    record_or None = x
    record_or (Some z) = z

pub taken_joined : (xs ys : List (Option Record)) → records_there (xs ++ ys)
    ≡ records_there xs ++ records_there ys
taken_joined [] ys = refl
taken_joined (None ∷ xs) ys = taken_joined xs ys
taken_joined (Some r ∷ xs) ys = ap (λ (zs : List Record). r ∷ zs) (taken_joined xs ys)

-- their numbers rise
pub slots_rise : (b n : ℕ) (slots : List (Option Record)) → n ≤ suc b → AreNumbered b slots
    → Rising n (survivors_of (records_there slots))
slots_rise b n [] le numbered = tt
slots_rise b n (None ∷ xs) le numbered = slots_rise (suc b) n xs (omega (arith, le)) numbered
slots_rise b n (Some r ∷ xs) le numbered = (
  omega (arith, le, numbered.0),
  slots_rise (suc b) (r.number + 1) xs (omega (arith, numbered.0))
      numbered.1,
)

-- behind a number are the slots behind its own
all_newer : (n b : ℕ) (slots : List (Option Record)) → n ≤ b → AreNumbered b slots
    → newer n (records_there slots) ≡ records_there slots
all_newer n b [] le numbered = refl
all_newer n b (None ∷ xs) le numbered = all_newer n (suc b) xs (omega (arith, le)) numbered
all_newer n b (Some r ∷ xs) le numbered =
    let rest : newer n (records_there xs)
    ≡ records_there xs = all_newer n (suc b) xs (omega (arith, le)) numbered.1 in
    let up : n < r.number = omega (arith, le, numbered.0) in
    grind (arith, nat_tests, up, rest)

pub newer_are : (n b m : ℕ) (slots : List (Option Record)) → n ≡ b + m → AreNumbered b slots
    → newer n (records_there slots) ≡ records_there (drop m slots)
newer_are n b zero slots is numbered = all_newer n b slots (omega (arith, is)) numbered
newer_are n b (suc m) [] is numbered = refl
newer_are n b (suc m) (None ∷ xs) is numbered = newer_are n (suc b) m xs (omega (arith, is)) numbered
newer_are n b (suc m) (Some r ∷ xs) is numbered =
    let rest : newer n (records_there xs)
    ≡ records_there (drop m xs) = newer_are n (suc b) m xs (omega (arith, is)) numbered.1 in
    let low : r.number ≤ n = omega (arith, is, numbered.0) in
    grind (arith, nat_tests, low, rest)

-- before it are those before
none_older : (n b : ℕ) (slots : List (Option Record)) → n ≤ suc b → AreNumbered b slots
    → older n (records_there slots) ≡ []
none_older n b [] le numbered = refl
none_older n b (None ∷ xs) le numbered = none_older n (suc b) xs (omega (arith, le)) numbered
none_older n b (Some r ∷ xs) le numbered =
    let rest : older n (records_there xs) ≡ [] = none_older n (suc b) xs (omega (arith, le)) numbered.1 in
    let up : n ≤ r.number = omega (arith, le, numbered.0) in
    grind (arith, nat_tests, up, rest)

pub older_are : (n b m : ℕ) (slots : List (Option Record)) → n ≡ suc b + m → AreNumbered b slots
    → older n (records_there slots) ≡ records_there (take m slots)
older_are n b zero slots is numbered = none_older n b slots (omega (arith, is)) numbered
older_are n b (suc m) [] is numbered = refl
older_are n b (suc m) (None ∷ xs) is numbered = older_are n (suc b) m xs (omega (arith, is)) numbered
older_are n b (suc m) (Some r ∷ xs) is numbered =
    let rest : older n (records_there xs)
    ≡ records_there (take m xs) = older_are n (suc b) m xs (omega (arith, is)) numbered.1 in
    let low : r.number < n = omega (arith, is, numbered.0) in
    grind (arith, nat_tests, low, rest)

-- and in it is its record
none_there : (n b : ℕ) (slots : List (Option Record)) → n ≤ b → AreNumbered b slots
    → record_of n (records_there slots) ≡ None
none_there n b [] le numbered = refl
none_there n b (None ∷ xs) le numbered = none_there n (suc b) xs (omega (arith, le)) numbered
none_there n b (Some r ∷ xs) le numbered =
    let rest : record_of n (records_there xs)
    ≡ None = none_there n (suc b) xs (omega (arith, le)) numbered.1 in
    let up : n < r.number = omega (arith, le, numbered.0) in
    grind (arith, nat_tests, up, rest)

pub record_is : (n b m : ℕ) (slots : List (Option Record)) → n ≡ suc b + m → AreNumbered b slots
    → record_of n (records_there slots) ≡ get_or slots m None
record_is n b m [] is numbered = refl
record_is n b zero (None ∷ xs) is numbered = none_there n (suc b) xs (omega (arith, is)) numbered
record_is n b zero (Some r ∷ xs) is numbered =
    let same : r.number ≡ n = omega (arith, is, numbered.0) in
    grind (arith, nat_tests, same)
record_is n b (suc m) (None ∷ xs) is numbered = record_is n (suc b) m xs (omega (arith, is)) numbered
record_is n b (suc m) (Some r ∷ xs) is numbered =
    let rest : record_of n (records_there xs)
    ≡ get_or xs m None = record_is n (suc b) m xs (omega (arith, is)) numbered.1 in
    let low : r.number < n = omega (arith, is, numbered.0) in
    grind (arith, nat_tests, low, rest)

-- no record has the number 0
pub none_of_zero : (slots : List (Option Record)) → AreNumbered 0 slots → record_of 0 (records_there slots)
    ≡ None
none_of_zero slots numbered = none_there 0 0 slots (omega arith) numbered

-- one more
pub numbered_more : (b n : ℕ) (slots : List (Option Record)) (r : Record) → n ≡ suc b + length slots
    → r.number ≡ n → AreNumbered b slots
    → AreNumbered b (slots ++ Some r ∷ [])
numbered_more b n [] r is number numbered = (omega (arith, is, number), tt)
numbered_more b n (None ∷ xs) r is number numbered =
    numbered_more (suc b) n xs r (omega (arith, is)) number numbered
numbered_more b n (Some x ∷ xs) r is number numbered =
    (numbered.0, numbered_more (suc b) n xs r (omega (arith, is)) number numbered.1)

-- a slot with a record is one of the slots
pub within_of : (slots : List (Option Record)) (m : ℕ) (r : Record) → get_or slots m None ≡ Some r
    → m < length slots
within_of [] m r is = absurd (none-some r is)
within_of (x ∷ xs) zero r is = omega arith
within_of (x ∷ xs) (suc m) r is = (let rest : m < length xs = within_of xs m r is in omega (arith, rest))

-- what was found
pub some_of : (o : Option Record) → IsSome o → (r : Record) × (o ≡ Some r)
some_of None is = absurd (false≢true is)
some_of (Some r) is = (r, refl)

-- what stands at a place
pub read_at : (slots : List (Option Record)) (m : ℕ) (o : Option Record) → m < length slots → o
    ≡ get_or slots m o → get_or slots m None ≡ o
read_at [] m o below is = absurd (omega (arith, below))
read_at (x ∷ xs) zero o below is = sym is
read_at (x ∷ xs) (suc m) o below is = read_at xs m o (omega (arith, below)) is

-- the record of a number stands in its slot
pub record_there : (n : ℕ) (slots : List (Option Record)) → AreNumbered 0 slots
    → record_of n (records_there slots) ≡ slot_of n slots
record_there zero slots numbered = none_of_zero slots numbered
record_there (suc m) slots numbered = record_is (suc m) 0 m slots (omega arith) numbered
