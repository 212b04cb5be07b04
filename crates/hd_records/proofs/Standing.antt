-- Records in the slots of their numbers.
use Rattle.std.proofs.Common.{arith, ◌≡◌, refl, sym, ◌∙◌, ap, subst, ℕ, zero, suc, ◌+◌, ◌<◌, ◌≤◌, List, []}
use Rattle.std.proofs.Common.{◌∷◌, ◌++◌, length, get_or, map}
use Rattle.std.proofs.Common.{Option, None, Some, inl, inr, drop, take, drop-cons}
use Rattle.std.proofs.lemmas.Bool.Decides.{nat_tests}
use Rattle.std.proofs.lemmas.List.{take-append-drop, map-append}
use Rattle.std.proofs.lemmas.Option.{none-some}
use Rattle.hd_rules.specs.Facts.{Facts}
use Rattle.hd_rules.specs.Known.{IsKnownAction}
use Rattle.hd_rules.specs.Record.{Record}
use Rattle.hd_rules.specs.Run.{IsAmong, Rising}
use Rattle.hd_clash.specs.Records.{EachCommandIsKnown, EachRecordIsKnown, IsKnownRecord}
use Rattle.hd_clash.specs.declared.key.Key.{Key}
use Rattle.hd_records.specs.Index.{asks_about, numbers_of, records_about}
use Rattle.hd_records.specs.Slots.{AreNumbered, records_at, slot_of, records_there}
use Rattle.hd_records.specs.Survivors.{newer, survivors_of}
use Rattle.hd_records.proofs.Filters.{among_filter, number_from}
use Rattle.hd_records.proofs.Numbered.{some_same, taken_joined, within_of}

-- each of the records stands in the slot of its number
abbrev pub Stand : List (Option Record) → List Record → Type 0
Stand slots rs = (r : Record) → IsAmong r rs → slot_of r.number slots ≡ Some r

-- so those at their numbers are they
pub at_numbers : (slots : List (Option Record)) (rs : List Record) → Stand slots rs
    → records_at (numbers_of rs) slots ≡ rs
at_numbers slots [] stand = refl
at_numbers slots (r ∷ rs) stand =
    ap (λ (o : Option Record). records_there (o ∷ map (λ n. slot_of n slots) (numbers_of rs)))
    (stand r (inl refl))
    ∙ ap (λ (xs : List Record). r ∷ xs)
    (at_numbers slots rs (λ (x : Record) (among : IsAmong x rs). stand x (inr among)))

-- a place where the record stands
record Found (b : ℕ) (slots : List (Option Record)) (r : Record) : Type 0 where
  place : ℕ
  is : r.number ≡ suc b + place
  there : get_or slots place None ≡ Some r

found : (b : ℕ) (slots : List (Option Record)) (r : Record) → AreNumbered b slots
    → IsAmong r (records_there slots) → Found b slots r
found b [] r numbered among = absurd among
found b (None ∷ xs) r numbered among =
    let rest : Found (suc b) xs r = found (suc b) xs r numbered among in
    record { place = suc rest.place; is = omega (arith, rest.is); there = rest.there }
found b (Some x ∷ xs) r numbered (inl same) =
    let number : r.number ≡ x.number = ap (λ (y : Record). y.number) same in
    record {
      place = 0;
      is = omega (arith, number, numbered.0);
      there =
          ap (λ (y : Record). Some y) (sym same);
    }
found b (Some x ∷ xs) r numbered (inr later) =
    let rest : Found (suc b) xs r = found (suc b) xs r numbered.1 later in
    record { place = suc rest.place; is = omega (arith, rest.is); there = rest.there }

pub stand_all : (slots : List (Option Record)) → AreNumbered 0 slots → Stand slots (records_there slots)
stand_all slots numbered r among =
    let at : Found 0 slots r = found 0 slots r numbered among in
    let is : r.number ≡ suc at.place = omega (arith, at.is) in
    ap (λ (n : ℕ). slot_of n slots) is ∙ at.there

-- records at numbers, parted
pub at_joined : (xs ys : List ℕ) (slots : List (Option Record)) → records_at (xs ++ ys) slots
    ≡ records_at xs slots ++ records_at ys slots
at_joined xs ys slots =
    ap records_there (map-append (λ (n : ℕ). slot_of n slots) xs ys)
    ∙ taken_joined (map (λ (n : ℕ). slot_of n slots) xs) (map (λ (n : ℕ). slot_of n slots) ys)

-- the newer ones of a rising list are those behind it
all_newer : (n m : ℕ) (rs : List Record) → n < m → Rising m (survivors_of rs) → newer n rs ≡ rs
all_newer n m [] below rising = refl
all_newer n m (x ∷ xs) below rising =
    let up : n < x.number = omega (arith, below, rising.0) in
    let rest : newer n xs ≡ xs = all_newer n (x.number + 1) xs (omega (arith, up)) rising.1 in
    grind (arith, nat_tests, up, rest)

among_middle : (xs : List Record) (r : Record) (ys : List Record) → IsAmong r (xs ++ r ∷ ys)
among_middle [] r ys = inl refl
among_middle (x ∷ xs) r ys = inr (among_middle xs r ys)

newer_behind : (m : ℕ) (xs : List Record) (r : Record) (ys : List Record)
    → Rising m (survivors_of (xs ++ r ∷ ys))
    → newer r.number (xs ++ r ∷ ys) ≡ ys
newer_behind m [] r ys rising =
    let rest : newer r.number ys ≡ ys = all_newer r.number (r.number + 1) ys (omega arith) rising.1 in
    grind (arith, nat_tests, rest)
newer_behind m (x ∷ xs) r ys rising =
    let rest : newer r.number (xs ++ r ∷ ys) ≡ ys = newer_behind (x.number + 1) xs r ys rising.1 in
    let low : x.number + 1 ≤ r.number =
    number_from (x.number + 1) (xs ++ r ∷ ys) r rising.1 (among_middle xs r ys) in
    grind (arith, nat_tests, low, rest)

-- a record at a place among the numbers, as a loop reads it
pub record Reads (slots : List (Option Record)) (numbers : List ℕ) (i : ℕ) (r : Record) : Type 0 where
  pub from : records_at (drop i numbers) slots ≡ r ∷ records_at (drop (i + 1) numbers) slots
  pub split : records_at numbers slots
      ≡ records_at (take i numbers) slots ++ r ∷ records_at (drop (i + 1) numbers) slots
  pub newer : newer r.number (records_at numbers slots) ≡ records_at (drop (i + 1) numbers) slots

pub reads : (slots : List (Option Record)) (numbers : List ℕ) (i n : ℕ) (r : Record) → i < length numbers → n
    ≡ get_or numbers i 0
    → Some r ≡ slot_of n slots → Rising 1 (survivors_of (records_at numbers slots)) → Reads slots numbers i r
reads slots numbers i n r below at there rising =
    let next : suc i ≡ i + 1 = omega arith in
    let first : drop i numbers ≡ n ∷ drop (i + 1) numbers =
    drop-cons numbers i 0 below ∙ (λ j. sym at j ∷ drop (next j) numbers) in
    let from : records_at (drop i numbers) slots ≡ r ∷ records_at (drop (i + 1) numbers) slots =
    ap (λ (ns : List ℕ). records_at ns slots) first
    ∙ ap (λ (o : Option Record). records_there (o ∷ map (λ m. slot_of m slots) (drop (i + 1) numbers)))
    (sym there) in
    let split : records_at numbers slots
    ≡ records_at (take i numbers) slots ++ r ∷ records_at (drop (i + 1) numbers) slots =
    ap (λ (ns : List ℕ). records_at ns slots) (sym (take-append-drop i numbers))
    ∙ at_joined (take i numbers) (drop i numbers) slots
    ∙ ap (λ (rs : List Record). records_at (take i numbers) slots ++ rs) from in
    record {
      from = from;
      split = split;
      newer =
          ap (newer r.number) split
          ∙ newer_behind 1 (records_at (take i numbers) slots) r (records_at (drop (i + 1) numbers) slots)
          (subst (λ (rs : List Record). Rising 1 (survivors_of rs)) split rising);
    }

-- a number whose slot has a record
pub record At (n : ℕ) (slots : List (Option Record)) (r : Record) : Type 0 where
  pub among : IsAmong r (records_there slots)
  pub number : r.number ≡ n
  pub above : 1 ≤ n
  pub within : n ≤ length slots

among_there : (m : ℕ) (slots : List (Option Record)) (r : Record) → get_or slots m None ≡ Some r
    → IsAmong r (records_there slots)
among_there m [] r is = absurd (none-some r is)
among_there zero (None ∷ xs) r is = absurd (none-some r is)
among_there zero (Some x ∷ xs) r is = inl (some_same r x (sym is))
among_there (suc m) (None ∷ xs) r is = among_there m xs r is
among_there (suc m) (Some x ∷ xs) r is = inr (among_there m xs r is)

number_there : (b m : ℕ) (slots : List (Option Record)) (r : Record) → AreNumbered b slots
    → get_or slots m None ≡ Some r
    → r.number ≡ suc b + m
number_there b m [] r numbered is = absurd (none-some r is)
number_there b zero (None ∷ xs) r numbered is = absurd (none-some r is)
number_there b zero (Some x ∷ xs) r numbered is =
    (let same : r.number ≡ x.number = ap (λ (y : Record). y.number) (some_same r x (sym is)) in
    omega (arith, same, numbered.0))
number_there b (suc m) (None ∷ xs) r numbered is =
    (let rest : r.number ≡ suc (suc b) + m = number_there (suc b) m xs r numbered is in omega (arith, rest))
number_there b (suc m) (Some x ∷ xs) r numbered is =
    (let rest : r.number ≡ suc (suc b) + m = number_there (suc b) m xs r numbered.1 is in omega (arith, rest))

pub at_slot : (n : ℕ) (slots : List (Option Record)) (r : Record) → AreNumbered 0 slots → slot_of n slots
    ≡ Some r → At n slots r
at_slot zero slots r numbered is = absurd (none-some r is)
at_slot (suc m) slots r numbered is =
    let within : m < length slots = within_of slots m r is in
    let number : r.number ≡ suc 0 + m = number_there 0 m slots r numbered is in
    record {
      among = among_there m slots r is;
      number = omega (arith, number);
      above = omega arith;
      within = omega (arith, within);
    }

-- no other record has its number
pub only_one : (n : ℕ) (slots : List (Option Record)) (r y : Record) → AreNumbered 0 slots → slot_of n slots
    ≡ Some r
    → IsAmong y (records_there slots)
    → y.number ≡ n → y ≡ r
only_one n slots r y numbered is among number =
    some_same y r (sym (stand_all slots numbered y among) ∙ ap (λ (i : ℕ). slot_of i slots) number ∙ is)

-- what is known of each record
pub known_one : (k : Facts) (rs : List Record) (r : Record) → EachRecordIsKnown k rs → IsAmong r rs
    → IsKnownRecord k r
known_one k [] r known among = absurd among
known_one k (x ∷ xs) r known (inl same) = subst (IsKnownRecord k) (sym same) known.0
known_one k (x ∷ xs) r known (inr later) = known_one k xs r known.1 later

pub command_known : (k : Facts) (rs : List Record) (r : Record) → EachCommandIsKnown k (survivors_of rs)
    → IsAmong r rs
    → IsKnownAction k r.command.action
command_known k [] r known among = absurd among
command_known k (x ∷ xs) r known (inl same) =
    subst (λ (y : Record). IsKnownAction k y.command.action) (sym same) known.0
command_known k (x ∷ xs) r known (inr later) = command_known k xs r known.1 later

-- those that are listed under a key stand where their numbers say
pub about_there : (k : Facts) (x : Key) (slots lent : List (Option Record)) (numbers : List ℕ)
    → AreNumbered 0 slots → lent ≡ slots
    → numbers ≡ numbers_of (records_about k x (records_there slots)) → records_at numbers lent
    ≡ records_about k x (records_there slots)
about_there k x slots lent numbers numbered same are =
    (λ j. records_at (are j) (same j))
    ∙ at_numbers slots (records_about k x (records_there slots))
    (λ (r : Record) (among : IsAmong r (records_about k x (records_there slots))).
    stand_all slots numbered r (among_filter (asks_about k x) r (records_there slots) among))
