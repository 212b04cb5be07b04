-- The numbers that are listed under some of the keys are those of the records that changes touch.
use Rattle.std.proofs.Common.{arith, ◌≡◌, refl, sym, ◌∙◌, ap, subst, ℕ, ◌+◌, ◌<◌, ◌≤◌, Bool, true, false}
use Rattle.std.proofs.Common.{cond, ◌||◌, ◌&&◌, ◌==◌}
use Rattle.std.proofs.Common.{nat_lt, List, [], ◌∷◌, map, filter, inl, inr}
use Rattle.std.proofs.lemmas.Bool.{false≢true}
use Rattle.std.proofs.lemmas.Bool.Decides.{nat_tests}
use Rattle.std.specs.List.{AllByRecursion, list_any}
use Rattle.hd_index.specs.Rising.{IsRising, above}
use Rattle.hd_index.specs.Union.{UnionsHaveEachOnce, has, union}
use Rattle.hd_rules.specs.declared.cells.Change.{Change}
use Rattle.hd_rules.specs.Facts.{Facts}
use Rattle.hd_rules.specs.Record.{Record}
use Rattle.hd_rules.specs.Run.{IsAmong, Rising}
use Rattle.hd_clash.specs.declared.key.Key.{Key}
use Rattle.hd_clash.specs.About.{touches}
use Rattle.hd_clash.specs.CommandKeys.{has_key, keys_of_command}
use Rattle.hd_records.specs.Index.{IsIndexOf, asks_about, listed_under, numbers_of}
use Rattle.hd_records.specs.IndexValue.{IndexValue}
use Rattle.hd_records.specs.Survivors.{newer, survivors_of}
use Rattle.hd_records.proofs.Filters.{number_from, rising_filter}
use Rattle.hd_lemmas.proofs.Tests.{number_self}

other_is : (n m : ℕ) → n < m → (m == n) ≡ false
other_is n m less = grind (arith, nat_tests, less)

other_back : (n m : ℕ) → n < m → (n == m) ≡ false
other_back n m less = grind (arith, nat_tests, less)

-- rising lists that have the same numbers are the same
none_above : (n m : ℕ) (ns : List ℕ) → n ≤ m → AllByRecursion (λ i. m < i) ns → has n ns ≡ false
none_above n m [] le all = refl
none_above n m (x ∷ xs) le all =
    (λ j. other_is n x (omega (arith, le, all.0)) j || none_above n m xs le all.1 j)

or_right : (a b : Bool) → (a ≡ false) → (a || b) ≡ b
or_right a b is = ap (λ (c : Bool). c || b) is

first_less : (x y : ℕ) (xs ys : List ℕ) → x < y → AllByRecursion (λ i. y < i) ys → has x (x ∷ xs)
    ≡ has x (y ∷ ys) → ⊥
first_less x y xs ys less all same =
    false≢true
    (sym ((λ j. other_is x y less j || none_above x y ys (omega (arith, less)) all j))
    ∙ sym same ∙ ap (λ (b : Bool). b || has x xs) (number_self x))

-- the rest has the same, too
rest_same : (x n : ℕ) (xs ys : List ℕ) → AllByRecursion (λ i. x < i) xs → AllByRecursion (λ i. x < i) ys
    → has n (x ∷ xs) ≡ has n (x ∷ ys) → has n xs ≡ has n ys
rest_same x n xs ys above_xs above_ys same = by_test (x == n) refl same
  where
    by_test : (b : Bool) → (x == n) ≡ b → (b || has n xs) ≡ (b || has n ys) → has n xs ≡ has n ys
    by_test true is both =
        let at : n ≤ x = grind (arith, nat_tests, is) in
        none_above n x xs at above_xs ∙ sym (none_above n x ys at above_ys)
    by_test false is both = both

data_less : (x y : ℕ) (xs ys : List ℕ) → IsRising (x ∷ xs) → IsRising (y ∷ ys)
    → ((n : ℕ) → has n (x ∷ xs) ≡ has n (y ∷ ys)) → x ≡ y
data_less x y xs ys rising_x rising_y same = by_tests (nat_lt x y) (nat_lt y x) refl refl
  where
    by_tests : (b c : Bool) → nat_lt x y ≡ b → nat_lt y x ≡ c → x ≡ y
    by_tests true c is other =
        absurd (first_less x y xs ys (grind (arith, nat_tests, is)) rising_y.0 (same x))
    by_tests false true is other =
        absurd (first_less y x ys xs (grind (arith, nat_tests, other)) rising_x.0 (sym (same y)))
    by_tests false false is other = grind (arith, nat_tests, is, other)

pub same_lists : (xs ys : List ℕ) → IsRising xs → IsRising ys → ((n : ℕ) → has n xs ≡ has n ys) → xs ≡ ys
same_lists [] [] rising_x rising_y same = refl
same_lists [] (y ∷ ys) rising_x rising_y same =
    absurd (false≢true (same y ∙ ap (λ (b : Bool). b || has y ys) (number_self y)))
same_lists (x ∷ xs) [] rising_x rising_y same =
    absurd (false≢true (sym (same x) ∙ ap (λ (b : Bool). b || has x xs) (number_self x)))
same_lists (x ∷ xs) (y ∷ ys) rising_x rising_y same =
    let head : x ≡ y = data_less x y xs ys rising_x rising_y same in
    let above_y : AllByRecursion (λ i. x < i) ys =
    subst (λ (m : ℕ). AllByRecursion (λ i. m < i) ys) (sym head) rising_y.0 in
    let tail : xs ≡ ys =
    same_lists xs ys rising_x.1 rising_y.1
    (λ (n : ℕ). rest_same x n xs ys rising_x.0 above_y
    (subst (λ (m : ℕ). has n (x ∷ xs) ≡ has n (m ∷ ys)) (sym head) (same n))) in
    (λ j. head j ∷ tail j)

-- numbers of records rise with them
numbers_above : (n m : ℕ) (rs : List Record) → n < m → Rising m (survivors_of rs)
    → AllByRecursion (λ i. n < i) (numbers_of rs)
numbers_above n m [] less rising = tt
numbers_above n m (x ∷ xs) less rising = (
  omega (arith, less, rising.0),
  numbers_above n (x.number + 1) xs (omega (arith, less, rising.0))
      rising.1,
)

pub numbers_rise : (m : ℕ) (rs : List Record) → Rising m (survivors_of rs) → IsRising (numbers_of rs)
numbers_rise m [] rising = tt
numbers_rise m (x ∷ xs) rising =
    (numbers_above x.number (x.number + 1) xs (omega arith) rising.1, numbers_rise (x.number + 1) xs rising.1)

-- one of them that passes, with this number above the other
listed_once : (P : Record → Bool) (n m : ℕ) (rs : List Record)
    → has m (above n (numbers_of (filter P rs)))
    ≡ list_any (λ r. P r && (nat_lt n r.number && (r.number == m))) rs
listed_once P n m [] = refl
listed_once P n m (x ∷ xs) = by_tests (P x) (nat_lt n x.number) refl (listed_once P n m xs)
  where
    by_tests : (b c : Bool) → nat_lt n x.number ≡ c
        → has m (above n (numbers_of (filter P xs)))
        ≡ list_any (λ r. P r && (nat_lt n r.number && (r.number == m))) xs
        → has m (above n (numbers_of (cond b (x ∷ filter P xs) (filter P xs))))
        ≡ ((b && (nat_lt n x.number && (x.number == m))) || list_any
        (λ r. P r && (nat_lt n r.number && (r.number == m))) xs)
    by_tests true true is rest =
        (λ j. has m (cond (is j) (x.number ∷ above n (numbers_of (filter P xs)))
        (above n (numbers_of (filter P xs)))))
        ∙ ap (λ (b : Bool). (x.number == m) || b) rest
        ∙ (λ j. (sym is j && (x.number == m)) || list_any (λ r. P r && (nat_lt n r.number && (r.number == m)))
        xs)
    by_tests true false is rest =
        (λ j. has m (cond (is j) (x.number ∷ above n (numbers_of (filter P xs)))
        (above n (numbers_of (filter P xs)))))
        ∙ rest
        ∙ (λ j. (sym is j && (x.number == m)) || list_any (λ r. P r && (nat_lt n r.number && (r.number == m)))
        xs)
    by_tests false c is rest = rest

-- tests on each of a list
any_alike : {X : Type 0} (p q : X → Bool) (xs : List X) → ((x : X) → p x ≡ q x) → list_any p xs
    ≡ list_any q xs
any_alike p q [] same = refl
any_alike p q (x ∷ xs) same = (λ j. same x j || any_alike p q xs same j)

any_map : {X Y : Type 0} (p : Y → Bool) (f : X → Y) (xs : List X) → list_any p (map f xs)
    ≡ list_any (λ x. p (f x)) xs
any_map p f [] = refl
any_map p f (x ∷ xs) = ap (λ (b : Bool). p (f x) || b) (any_map p f xs)

swap : (a b t x y : Bool) → (((a && t) || x) || ((b && t) || y)) ≡ (((a || b) && t) || (x || y))
swap true b true x y = refl
swap true true false x y = refl
swap true false false x y = refl
swap false true true true y = refl
swap false true true false y = refl
swap false true false x y = refl
swap false false t x y = refl

any_or : (A B T : Record → Bool) (rs : List Record)
    → (list_any (λ r. A r && T r) rs || list_any (λ r. B r && T r) rs)
    ≡ list_any (λ r. (A r || B r) && T r) rs
any_or A B T [] = refl
any_or A B T (x ∷ xs) =
    swap (A x) (B x) (T x) (list_any (λ r. A r && T r) xs) (list_any (λ r. B r && T r) xs)
    ∙ ap (λ (b : Bool). ((A x || B x) && T x) || b) (any_or A B T xs)

any_false : (T : Record → Bool) (rs : List Record) → false ≡ list_any (λ r. false && T r) rs
any_false T [] = refl
any_false T (x ∷ xs) = any_false T xs

any_keys : (A : Key → Record → Bool) (T : Record → Bool) (keys : List Key) (rs : List Record)
    → list_any (λ x. list_any (λ r. A x r && T r) rs) keys
    ≡ list_any (λ r. list_any (λ x. A x r) keys && T r) rs
any_keys A T [] rs = any_false T rs
any_keys A T (x ∷ xs) rs =
    ap (λ (b : Bool). list_any (λ r. A x r && T r) rs || b) (any_keys A T xs rs)
    ∙ any_or (A x) (λ r. list_any (λ y. A y r) xs) T rs

-- numbers above one are those of the newer records
above_newer : (P : Record → Bool) (n : ℕ) (rs : List Record) → above n (numbers_of (filter P rs))
    ≡ numbers_of (filter P (newer n rs))
above_newer P n [] = refl
above_newer P n (x ∷ xs) = by_tests (P x) (nat_lt n x.number) refl refl (above_newer P n xs)
  where
    by_tests : (b c : Bool) → P x ≡ b → nat_lt n x.number ≡ c
        → above n (numbers_of (filter P xs)) ≡ numbers_of (filter P (newer n xs))
        → above n (numbers_of (cond b (x ∷ filter P xs) (filter P xs)))
        ≡ numbers_of (filter P (cond (nat_lt n x.number) (x ∷ newer n xs) (newer n xs)))
    by_tests true true is up rest =
        (λ j. cond (up j) (x.number ∷ above n (numbers_of (filter P xs)))
        (above n (numbers_of (filter P xs))))
        ∙ ap (λ (ns : List ℕ). x.number ∷ ns) rest
        ∙ (λ j. numbers_of (cond (sym is j) (x ∷ filter P (newer n xs)) (filter P (newer n xs))))
        ∙ (λ j. numbers_of (filter P (cond (sym up j) (x ∷ newer n xs) (newer n xs))))
    by_tests true false is up rest =
        (λ j. cond (up j) (x.number ∷ above n (numbers_of (filter P xs)))
        (above n (numbers_of (filter P xs))))
        ∙ rest
        ∙ (λ j. numbers_of (filter P (cond (sym up j) (x ∷ newer n xs) (newer n xs))))
    by_tests false true is up rest =
        rest
        ∙ (λ j. numbers_of (cond (sym is j) (x ∷ filter P (newer n xs)) (filter P (newer n xs))))
        ∙ (λ j. numbers_of (filter P (cond (sym up j) (x ∷ newer n xs) (newer n xs))))
    by_tests false false is up rest =
        rest ∙ (λ j. numbers_of (filter P (cond (sym up j) (x ∷ newer n xs) (newer n xs))))

-- the union under the keys of changes
pub union_is : UnionsHaveEachOnce
    → (k : Facts) (changes : List Change) (rs : List Record) (index : IndexValue) (keys : List Key) (n : ℕ)
    (lists : List (List ℕ)) → Rising 1 (survivors_of rs) → IsIndexOf k rs index
    → ((r : Record) → list_any (has_key (keys_of_command k r.command)) keys ≡ touches k changes r)
    → lists ≡ map (λ x. above n (listed_under x index)) keys
    → union lists ≡ numbers_of (filter (touches k changes) (newer n rs))
union_is law k changes rs index keys n lists rising listed touched are =
    same_lists (union lists) (numbers_of (filter (touches k changes) (newer n rs))) (law.rising lists)
    (numbers_rise 1 (filter (touches k changes) (newer n rs))
    (rising_filter (touches k changes) 1 (newer n rs) (rising_filter (λ r. nat_lt n r.number) 1 rs rising)))
    (λ (m : ℕ). law.numbers lists m ∙ ap (list_any (has m)) are
    ∙ any_map (has m) (λ x. above n (listed_under x index)) keys
    ∙ any_alike (λ x. has m (above n (listed_under x index)))
    (λ x. list_any (λ r. asks_about k x r && (nat_lt n r.number && (r.number == m))) rs) keys
    (λ (x : Key). ap (λ (ns : List ℕ). has m (above n ns)) (listed x) ∙ listed_once (asks_about k x) n m rs)
    ∙ any_keys (asks_about k) (λ r. nat_lt n r.number && (r.number == m)) keys rs
    ∙ any_alike (λ r. list_any (λ x. asks_about k x r) keys && (nat_lt n r.number && (r.number == m)))
    (λ r. touches k changes r && (nat_lt n r.number && (r.number == m))) rs
    (λ (r : Record). ap (λ (b : Bool). b && (nat_lt n r.number && (r.number == m))) (touched r))
    ∙ sym (listed_once (touches k changes) n m rs)
    ∙ ap (has m) (above_newer (touches k changes) n rs))

-- a record of a rising list is among those that pass where it passes
pub has_is : (P : Record → Bool) (m : ℕ) (rs : List Record) (r : Record) → Rising m (survivors_of rs)
    → IsAmong r rs
    → has r.number (numbers_of (filter P rs)) ≡ P r
has_is P m [] r rising among = absurd among
has_is P m (x ∷ xs) r rising (inl same) =
    by_test (P x) refl ∙ ap P (sym same)
  where
    number : r.number ≡ x.number
    number = ap (λ (y : Record). y.number) same

    later : has r.number (numbers_of (filter P xs)) ≡ false
    later =
        none_above r.number x.number (numbers_of (filter P xs)) (omega (arith, number))
        (numbers_above x.number (x.number + 1) (filter P xs) (omega arith)
        (rising_filter P (x.number + 1) xs rising.1))

    by_test : (b : Bool) → P x ≡ b → has r.number (numbers_of (cond b (x ∷ filter P xs) (filter P xs))) ≡ P x
    by_test true is =
        ap (λ (i : ℕ). (x.number == i) || has r.number (numbers_of (filter P xs))) number
        ∙ ap (λ (c : Bool). c || has r.number (numbers_of (filter P xs))) (number_self x.number) ∙ sym is
    by_test false is = later ∙ sym is
has_is P m (x ∷ xs) r rising (inr among) = by_test (P x) (has_is P (x.number + 1) xs r rising.1 among)
  where
    up : x.number + 1 ≤ r.number
    up = number_from (x.number + 1) xs r rising.1 among

    by_test : (b : Bool) → has r.number (numbers_of (filter P xs)) ≡ P r
        → has r.number (numbers_of (cond b (x ∷ filter P xs) (filter P xs))) ≡ P r
    by_test true rest = ap (λ (c : Bool). c || has r.number (numbers_of (filter P xs)))
        (other_back x.number r.number (omega (arith, up)))
        ∙ rest
    by_test false rest = rest

-- no newer record has a number up to it
pub has_not : (P : Record → Bool) (n i m : ℕ) (rs : List Record) → Rising m (survivors_of rs) → n < m → i ≤ n
    → has i (numbers_of (filter P rs)) ≡ false
has_not P n i m rs rising below le =
    none_above i n (numbers_of (filter P rs)) le
    (numbers_above n m (filter P rs) below (rising_filter P m rs rising))
