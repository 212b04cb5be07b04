-- Lists of the records, with one more and with one less.
use Rattle.std.proofs.Common.{arith, ◌≡◌, refl, sym, ◌∙◌, ap, ℕ, suc, ◌+◌, ◌<◌, ◌≤◌, Bool, true, false, cond}
use Rattle.std.proofs.Common.{not, ◌==◌}
use Rattle.std.proofs.Common.{nat_lt, List, [], ◌∷◌, ◌++◌, length, filter, Option, None, Some, inl, inr}
use Rattle.std.proofs.lemmas.Bool.{false≢true}
use Rattle.std.proofs.lemmas.Bool.Decides.{nat_tests}
use Rattle.hd_index.specs.Rising.{AreBelow, without}
use Rattle.hd_rules.specs.declared.cells.Change.{Change}
use Rattle.hd_rules.specs.Facts.{Facts}
use Rattle.hd_rules.specs.Record.{Record}
use Rattle.hd_rules.specs.Run.{IsAmong, Rising}
use Rattle.hd_clash.specs.declared.key.Key.{Key}
use Rattle.hd_clash.specs.Shift.{shift_record, shift_records}
use Rattle.hd_records.specs.Index.{asks_about, numbers_of, records_about}
use Rattle.hd_records.specs.Slots.{AreNumbered, records_there}
use Rattle.hd_records.specs.Survivors.{newer, older, survivors_of}

-- one more at the end
pub one_more : (P : Record → Bool) (rs : List Record) (r : Record)
    → numbers_of (filter P (rs ++ r ∷ []))
    ≡ cond (P r) (numbers_of (filter P rs) ++ r.number ∷ []) (numbers_of (filter P rs))
one_more P [] r = by_test (P r)
  where
    by_test : (b : Bool) → numbers_of (cond b (r ∷ []) []) ≡ cond b (r.number ∷ []) []
    by_test true = refl
    by_test false = refl
one_more P (x ∷ xs) r = by_tests (P x) (P r) (one_more P xs r)
  where
    by_tests : (b c : Bool)
        → numbers_of (filter P (xs ++ r ∷ []))
        ≡ cond c (numbers_of (filter P xs) ++ r.number ∷ []) (numbers_of (filter P xs))
        → numbers_of (cond b (x ∷ filter P (xs ++ r ∷ [])) (filter P (xs ++ r ∷ [])))
        ≡ cond c (numbers_of (cond b (x ∷ filter P xs) (filter P xs)) ++ r.number ∷ [])
        (numbers_of (cond b (x ∷ filter P xs) (filter P xs)))
    by_tests true true rest = ap (λ (ns : List ℕ). x.number ∷ ns) rest
    by_tests true false rest = ap (λ (ns : List ℕ). x.number ∷ ns) rest
    by_tests false c rest = rest

-- its number is above theirs
pub all_below : (P : Record → Bool) (n b : ℕ) (slots : List (Option Record)) → b + length slots < n
    → AreNumbered b slots
    → AreBelow n (numbers_of (filter P (records_there slots)))
all_below P n b [] below numbered = tt
all_below P n b (None ∷ xs) below numbered = all_below P n (suc b) xs (omega (arith, below)) numbered
all_below P n b (Some r ∷ xs) below numbered =
    by_test (P r) (all_below P n (suc b) xs (omega (arith, below)) numbered.1)
  where
    by_test : (c : Bool) → AreBelow n (numbers_of (filter P (records_there xs)))
        → AreBelow n (numbers_of (cond c (r ∷ filter P (records_there xs)) (filter P (records_there xs))))
    by_test true rest = (omega (arith, below, numbered.0), rest)
    by_test false rest = rest

-- those of other numbers
abbrev others : ℕ → List Record → List Record
others n rs = filter (λ r. not (r.number == n)) rs

without_one : (P : Record → Bool) (n : ℕ) (rs : List Record) → without n (numbers_of (filter P rs))
    ≡ numbers_of (filter P (others n rs))
without_one P n [] = refl
without_one P n (x ∷ xs) = by_tests (P x) (not (x.number == n)) refl refl (without_one P n xs)
  where
    by_tests : (b c : Bool) → P x ≡ b → not (x.number == n) ≡ c
        → without n (numbers_of (filter P xs)) ≡ numbers_of (filter P (others n xs))
        → without n (numbers_of (cond b (x ∷ filter P xs) (filter P xs)))
        ≡ numbers_of (filter P (cond (not (x.number == n)) (x ∷ others n xs) (others n xs)))
    by_tests true true is other rest =
        (λ j. cond (other j) (x.number ∷ without n (numbers_of (filter P xs)))
        (without n (numbers_of (filter P xs))))
        ∙ ap (λ (ns : List ℕ). x.number ∷ ns) rest
        ∙ (λ j. numbers_of (cond (sym is j) (x ∷ filter P (others n xs)) (filter P (others n xs))))
        ∙ (λ j. numbers_of (filter P (cond (sym other j) (x ∷ others n xs) (others n xs))))
    by_tests true false is other rest =
        (λ j. cond (other j) (x.number ∷ without n (numbers_of (filter P xs)))
        (without n (numbers_of (filter P xs))))
        ∙ rest
        ∙ (λ j. numbers_of (filter P (cond (sym other j) (x ∷ others n xs) (others n xs))))
    by_tests false true is other rest =
        rest
        ∙ (λ j. numbers_of (cond (sym is j) (x ∷ filter P (others n xs)) (filter P (others n xs))))
        ∙ (λ j. numbers_of (filter P (cond (sym other j) (x ∷ others n xs) (others n xs))))
    by_tests false false is other rest =
        rest ∙ (λ j. numbers_of (filter P (cond (sym other j) (x ∷ others n xs) (others n xs))))

-- where none of that number passes, they are all that pass
none_less : (P : Record → Bool) (n : ℕ) (rs : List Record)
    → ((r : Record) → IsAmong r rs → r.number ≡ n → P r ≡ false)
    → filter P (others n rs) ≡ filter P rs
none_less P n [] none = refl
none_less P n (x ∷ xs) none =
    by_tests (P x) (x.number == n) refl refl
    (none_less P n xs (λ (r : Record) (among : IsAmong r xs). none r (inr among)))
  where
    by_tests : (b c : Bool) → P x ≡ b → (x.number == n) ≡ c → filter P (others n xs) ≡ filter P xs
        → filter P (cond (not (x.number == n)) (x ∷ others n xs) (others n xs))
        ≡ cond (P x) (x ∷ filter P xs) (filter P xs)
    by_tests true true is same rest =
        (let number : x.number
        ≡ n = grind (arith, nat_tests, same) in absurd (false≢true (sym (none x (inl refl) number) ∙ is)))
    by_tests true false is other rest =
        (λ j. filter P (cond (not (other j)) (x ∷ others n xs) (others n xs)))
        ∙ ap (λ (rs : List Record). cond (P x) (x ∷ rs) rs) rest
    by_tests false true is same rest =
        (λ j. filter P (cond (not (same j)) (x ∷ others n xs) (others n xs)))
        ∙ rest ∙ (λ j. cond (sym is j) (x ∷ filter P xs) (filter P xs))
    by_tests false false is other rest =
        (λ j. filter P (cond (not (other j)) (x ∷ others n xs) (others n xs)))
        ∙ ap (λ (rs : List Record). cond (P x) (x ∷ rs) rs) rest

-- the older and the newer ones are those of other numbers
no_older : (n m : ℕ) (rs : List Record) → n ≤ m → Rising m (survivors_of rs) → older n rs ≡ []
no_older n m [] le rising = refl
no_older n m (x ∷ xs) le rising =
    let up : n ≤ x.number = omega (arith, le, rising.0) in
    let rest : older n xs ≡ [] = no_older n (x.number + 1) xs (omega (arith, up)) rising.1 in
    grind (arith, nat_tests, up, rest)

both_are : (n m : ℕ) (rs : List Record) → Rising m (survivors_of rs) → older n rs ++ newer n rs ≡ others n rs
both_are n m [] rising = refl
both_are n m (x ∷ xs) rising =
    by_tests (nat_lt x.number n) (nat_lt n x.number) (x.number == n) refl refl refl
    (both_are n (x.number + 1) xs rising.1)
  where
    by_tests : (a b c : Bool) → nat_lt x.number n ≡ a → nat_lt n x.number ≡ b → (x.number == n) ≡ c
        → older n xs ++ newer n xs ≡ others n xs
        → cond a (x ∷ older n xs) (older n xs) ++ cond b (x ∷ newer n xs) (newer n xs)
        ≡ cond (not c) (x ∷ others n xs) (others n xs)
    by_tests true true c low up same rest = absurd (grind (arith, nat_tests, low, up))
    by_tests true false true low up same rest = absurd (grind (arith, nat_tests, low, same))
    by_tests true false false low up same rest = ap (λ (rs : List Record). x ∷ rs) rest
    by_tests false true true low up same rest = absurd (grind (arith, nat_tests, up, same))
    by_tests false true false low up same rest =
        let below : n < x.number = grind (arith, nat_tests, up) in
        let none : older n xs ≡ [] = no_older n (x.number + 1) xs (omega (arith, below)) rising.1 in
        (λ j. none j ++ x ∷ newer n xs)
        ∙ ap (λ (rs : List Record). x ∷ rs) ((λ j. sym none j ++ newer n xs) ∙ rest)
    by_tests false false true low up same rest = rest
    by_tests false false false low up same rest = absurd (grind (arith, nat_tests, low, up, same))

-- shifted ones are listed alike
shifted_alike : (k : Facts) (changes : List Change) (x : Key) (rs : List Record)
    → numbers_of (records_about k x (shift_records k changes rs)) ≡ numbers_of (records_about k x rs)
shifted_alike k changes x [] = refl
shifted_alike k changes x (r ∷ rs) = by_test (asks_about k x r) (shifted_alike k changes x rs)
  where
    by_test : (b : Bool) → numbers_of (records_about k x (shift_records k changes rs))
        ≡ numbers_of (records_about k x rs)
        → numbers_of (cond b (shift_record k changes r ∷ records_about k x (shift_records k changes rs))
        (records_about k x (shift_records k changes rs)))
        ≡ numbers_of (cond b (r ∷ records_about k x rs) (records_about k x rs))
    by_test true rest = ap (λ (ns : List ℕ). r.number ∷ ns) rest
    by_test false rest = rest

joined_numbers : (P : Record → Bool) (xs ys : List Record) → numbers_of (filter P (xs ++ ys))
    ≡ numbers_of (filter P xs) ++ numbers_of (filter P ys)
joined_numbers P [] ys = refl
joined_numbers P (x ∷ xs) ys = by_test (P x) (joined_numbers P xs ys)
  where
    by_test : (b : Bool) → numbers_of (filter P (xs ++ ys))
        ≡ numbers_of (filter P xs) ++ numbers_of (filter P ys)
        → numbers_of (cond b (x ∷ filter P (xs ++ ys)) (filter P (xs ++ ys)))
        ≡ numbers_of (cond b (x ∷ filter P xs) (filter P xs)) ++ numbers_of (filter P ys)
    by_test true rest = ap (λ (ns : List ℕ). x.number ∷ ns) rest
    by_test false rest = rest

-- one record less, and the newer ones shifted
left_numbers : (k : Facts) (changes : List Change) (x : Key) (n : ℕ) (rs : List Record)
    → Rising 1 (survivors_of rs)
    → numbers_of (records_about k x (older n rs ++ shift_records k changes (newer n rs)))
    ≡ numbers_of (records_about k x (others n rs))
left_numbers k changes x n rs rising =
    joined_numbers (asks_about k x) (older n rs) (shift_records k changes (newer n rs))
    ∙ ap (λ (ns : List ℕ). numbers_of (records_about k x (older n rs)) ++ ns)
    (shifted_alike k changes x (newer n rs))
    ∙ sym (joined_numbers (asks_about k x) (older n rs) (newer n rs))
    ∙ ap (λ (ys : List Record). numbers_of (records_about k x ys)) (both_are n 1 rs rising)

pub one_less : (k : Facts) (changes : List Change) (x : Key) (n : ℕ) (r : Record) (rs : List Record)
    → Rising 1 (survivors_of rs)
    → ((y : Record) → IsAmong y rs → y.number ≡ n → y ≡ r)
    → cond (asks_about k x r) (without n (numbers_of (records_about k x rs)))
    (numbers_of (records_about k x rs))
    ≡ numbers_of (records_about k x (older n rs ++ shift_records k changes (newer n rs)))
one_less k changes x n r rs rising only = by_test (asks_about k x r) refl
    ∙ sym (left_numbers k changes x n rs rising)
  where
    by_test : (b : Bool) → asks_about k x r ≡ b
        → cond b (without n (numbers_of (records_about k x rs))) (numbers_of (records_about k x rs))
        ≡ numbers_of (records_about k x (others n rs))
    by_test true is = without_one (asks_about k x) n rs
    by_test false is =
        ap numbers_of (sym (none_less (asks_about k x) n rs
        (λ (y : Record) (among : IsAmong y rs) (number : y.number ≡ n). ap (asks_about k x)
        (only y among number) ∙ is)))
