-- Rising lists of held titles: what stands before what, and lists joined and split.
use Rattle.std.proofs.Common.{◌≡◌, ◌≢◌, ℕ, zero, suc, ◌+◌, ◌<◌, ◌≤◌, ◌==◌, nat_lt, Bool, true, false, List}
use Rattle.std.proofs.Common.{[], ◌∷◌, ◌++◌, length, get_or}
use Rattle.std.specs.Prelude.{◌↔◌, nat_le, not}
use Rattle.std.proofs.Common.{take, drop, ⊎_elim, refl, ap, sym, subst, ◌∙◌, inl, inr, ◌⊎◌, arith}
use Rattle.std.specs.List.{All, AllByRecursion, AllWithin, Contains, insert, remove}
use Rattle.std.specs.List.Sorted.{IsNonDecreasingBy, IsPartitionPoint, IsPartitionedBy}
use Rattle.std.proofs.lemmas.Bool.{false≢true}
use Rattle.std.proofs.lemmas.Bool.Decides.{nat_tests}
use Rattle.std.proofs.lemmas.Grind.{common_steps}
use Rattle.std.proofs.lemmas.List.{get_or-take, get_or-drop, length-take-le, length-drop, take-append-drop}
use Rattle.std.proofs.lemmas.List.Elements.{All-from_recursion, All-contains, Contains-append_left}
use Rattle.std.proofs.lemmas.List.Elements.{Contains-append_right, Contains-append_cases, recursion_from_All}
use Rattle.hd_holds.specs.declared.held_title.HeldTitle.{HeldTitle}
use Rattle.hd_holds.specs.HeldTitles.{BeginsWith, IsBeforeAll, IsRising, is_before}

-- it is an order

pub before_trans : (a b c : HeldTitle) → is_before a b ≡ true → is_before b c ≡ true → is_before a c ≡ true
before_trans a b c one two = grind (arith, nat_tests, common_steps)

pub before_itself : (a : HeldTitle) → is_before a a ≡ false
before_itself a = grind (arith, nat_tests, common_steps)

pub before_apart : (a b : HeldTitle) → is_before a b ≡ true → a ≢ b
before_apart a b one same = false≢true (sym (before_itself a) ∙ ap (is_before a) same ∙ one)

pub same_fields : (a b : HeldTitle) → a.patron ≡ b.patron → a.stamp ≡ b.stamp → a.title ≡ b.title → a ≡ b
same_fields a b p s t = λ i. record { patron = p i; stamp = s i; title = t i }

pub before_neither : (a b : HeldTitle) → is_before a b ≡ false → is_before b a ≡ false → a ≡ b
before_neither a b one two =
    same_fields a b (grind (arith, nat_tests, common_steps)) (grind (arith, nat_tests, common_steps))
    (grind (arith, nat_tests, common_steps))

-- what all of a list pass, another test passes that follows from it
all_weaker : (P Q : HeldTitle → Type 0) → ((x : HeldTitle) → P x → Q x) → (xs : List HeldTitle)
    → AllByRecursion P xs → AllByRecursion Q xs
all_weaker P Q weaker [] all = tt
all_weaker P Q weaker (x ∷ xs) all = (weaker x all.0, all_weaker P Q weaker xs all.1)

all_join : (P : HeldTitle → Type 0) (xs ys : List HeldTitle) → AllByRecursion P xs → AllByRecursion P ys
    → AllByRecursion P (xs ++ ys)
all_join P [] ys left right = right
all_join P (x ∷ xs) ys left right = (left.0, all_join P xs ys left.1 right)

all_left : (P : HeldTitle → Type 0) (xs ys : List HeldTitle) → AllByRecursion P (xs ++ ys)
    → AllByRecursion P xs
all_left P [] ys all = tt
all_left P (x ∷ xs) ys all = (all.0, all_left P xs ys all.1)

all_right : (P : HeldTitle → Type 0) (xs ys : List HeldTitle) → AllByRecursion P (xs ++ ys)
    → AllByRecursion P ys
all_right P [] ys all = all
all_right P (x ∷ xs) ys all = all_right P xs ys all.1

pub all_at : (P : HeldTitle → Type 0) (xs : List HeldTitle) (x : HeldTitle) → AllByRecursion P xs
    → Contains xs x → P x
all_at P xs x all has = All-contains P xs x (All-from_recursion P xs all) has

-- each of one list stands before all of another
abbrev pub AreBeforeAll : List HeldTitle → List HeldTitle → Type 0
AreBeforeAll xs ys = AllByRecursion (λ x. IsBeforeAll x ys) xs

pub rising_join : (xs ys : List HeldTitle) → IsRising xs → IsRising ys → AreBeforeAll xs ys
    → IsRising (xs ++ ys)
rising_join [] ys left right before = right
rising_join (x ∷ xs) ys left right before =
    (all_join (λ y. is_before x y ≡ true) xs ys left.0 before.0, rising_join xs ys left.1 right before.1)

pub rising_left : (xs ys : List HeldTitle) → IsRising (xs ++ ys) → IsRising xs
rising_left [] ys up = tt
rising_left (x ∷ xs) ys up = (all_left (λ y. is_before x y ≡ true) xs ys up.0, rising_left xs ys up.1)

pub rising_right : (xs ys : List HeldTitle) → IsRising (xs ++ ys) → IsRising ys
rising_right [] ys up = up
rising_right (x ∷ xs) ys up = rising_right xs ys up.1

pub rising_before : (xs ys : List HeldTitle) → IsRising (xs ++ ys) → AreBeforeAll xs ys
rising_before [] ys up = tt
rising_before (x ∷ xs) ys up = (all_right (λ y. is_before x y ≡ true) xs ys up.0, rising_before xs ys up.1)

before_cons : (xs : List HeldTitle) (y : HeldTitle) (ys : List HeldTitle)
    → AllByRecursion (λ x. is_before x y ≡ true) xs → AreBeforeAll xs ys →
    AreBeforeAll xs (y ∷ ys)
before_cons [] y ys first all = tt
before_cons (x ∷ xs) y ys first all = ((first.0, all.0), before_cons xs y ys first.1 all.1)

before_tail : (xs : List HeldTitle) (y : HeldTitle) (ys : List HeldTitle) → AreBeforeAll xs (y ∷ ys)
    → AreBeforeAll xs ys
before_tail [] y ys all = tt
before_tail (x ∷ xs) y ys all = (all.0.1, before_tail xs y ys all.1)

-- one put between those before it and those behind it, and one taken from there
pub rising_put : (xs : List HeldTitle) (y : HeldTitle) (ys : List HeldTitle) → IsRising (xs ++ ys)
    → AllByRecursion (λ x. is_before x y ≡ true) xs →
    IsBeforeAll y ys → IsRising (xs ++ y ∷ ys)
rising_put xs y ys up before after =
    rising_join xs (y ∷ ys) (rising_left xs ys up) (after, rising_right xs ys up)
    (before_cons xs y ys before (rising_before xs ys up))

pub rising_taken : (xs : List HeldTitle) (y : HeldTitle) (ys : List HeldTitle) → IsRising (xs ++ y ∷ ys)
    → IsRising (xs ++ ys)
rising_taken xs y ys up =
    rising_join xs ys (rising_left xs (y ∷ ys) up) (rising_right xs (y ∷ ys) up).1
    (before_tail xs y ys (rising_before xs (y ∷ ys) up))

-- what a list has

cons_cases : (y : HeldTitle) (ys : List HeldTitle) (x : HeldTitle) → Contains (y ∷ ys) x
    → (x ≡ y) ⊎ Contains ys x
cons_cases y ys x (zero, l, is) = inl (sym is)
cons_cases y ys x (suc k, l, is) = inr (k, omega arith, is)

cons_later : (y : HeldTitle) (ys : List HeldTitle) (x : HeldTitle) → Contains ys x → Contains (y ∷ ys) x
cons_later y ys x (k, l, is) = (suc k, omega arith, is)

cons_first : (y : HeldTitle) (ys : List HeldTitle) → Contains (y ∷ ys) y
cons_first y ys = (zero, omega arith, refl)

pub has_put : (xs : List HeldTitle) (y : HeldTitle) (ys : List HeldTitle) (x : HeldTitle)
    → Contains (xs ++ y ∷ ys) x → (x ≡ y) ⊎ Contains (xs ++ ys) x
has_put xs y ys x has = elim (Contains-append_cases xs (y ∷ ys) x has) [
  | inl left ↦ inr (Contains-append_left xs ys x left)
  | inr right ↦ elim (cons_cases y ys x right) [
    | inl here ↦ inl here
    | inr later ↦ inr (Contains-append_right xs ys x later)
  ]
]

pub put_has : (xs : List HeldTitle) (y : HeldTitle) (ys : List HeldTitle) (x : HeldTitle)
    → (x ≡ y) ⊎ Contains (xs ++ ys) x → Contains (xs ++ y ∷ ys) x
put_has xs y ys x (inl here) =
    subst (Contains (xs ++ y ∷ ys)) (sym here) (Contains-append_right xs (y ∷ ys) y (cons_first y ys))
put_has xs y ys x (inr there) = elim (Contains-append_cases xs ys x there) [
  | inl left ↦ Contains-append_left xs (y ∷ ys) x left
  | inr right ↦ Contains-append_right xs (y ∷ ys) x (cons_later y ys x right)
]

-- between those before it and those behind it, it isn't
pub not_between : (xs : List HeldTitle) (y : HeldTitle) (ys : List HeldTitle)
    → AllByRecursion (λ x. is_before x y ≡ true) xs → IsBeforeAll y ys →
    (x : HeldTitle) → Contains (xs ++ ys) x → x ≢ y
not_between xs y ys before after x has same = elim (Contains-append_cases xs ys x has) [
  | inl left ↦ before_apart x y (all_at (λ z. is_before z y ≡ true) xs x before left) same
  | inr right ↦ before_apart y x (all_at (λ z. is_before y z ≡ true) ys x after right) (sym same)
]

-- a search's place

-- what is before the first of a rising list is before all of it
pub before_all : (y z : HeldTitle) (zs : List HeldTitle) → IsRising (z ∷ zs) → is_before y z ≡ true
    → IsBeforeAll y (z ∷ zs)
before_all y z zs up first = (
  first,
  all_weaker (λ x. is_before z x ≡ true) (λ x. is_before y x ≡ true)
      (λ x later. before_trans y z x first later) zs up.0,
)

pub all_take : (P : HeldTitle → Type 0) (xs : List HeldTitle) (i : ℕ) → i ≤ length xs → AllWithin P xs 0 i
    → AllByRecursion P (take i xs)
all_take P xs i le all =
    recursion_from_All P (take i xs) (λ k d l. let less : k < i = omega (arith, length-take-le i xs le) in
    subst P (sym (get_or-take i xs k d less)) (all k d (omega arith) less))

pub all_drop : (P : HeldTitle → Type 0) (xs : List HeldTitle) (i : ℕ) → i ≤ length xs
    → AllWithin P xs i (length xs) → AllByRecursion P (drop i xs)
all_drop P xs i le all =
    recursion_from_All P (drop i xs)
    (λ k d l. let less : i + k < length xs = omega (arith, length-drop i xs) in
    subst P (sym (get_or-drop i xs k d)) (all (i + k) d (omega arith) less))

later_at : (x : HeldTitle) (xs : List HeldTitle) (j : ℕ) (d : HeldTitle) → IsBeforeAll x xs → j < length xs
    → is_before x (get_or xs j d) ≡ true
later_at x xs j d all l = All-from_recursion (λ y. is_before x y ≡ true) xs all j d l

-- those before one are the first ones
pub parted : (y : HeldTitle) (xs : List HeldTitle) → IsRising xs → IsPartitionedBy (λ x. is_before x y) xs
parted y [] up i j d le l on = absurd (omega arith)
parted y (x ∷ xs) up zero zero d le l on = on
parted y (x ∷ xs) up zero (suc j) d le l on =
    before_trans x (get_or xs j d) y (later_at x xs j d up.0 (omega arith)) on
parted y (x ∷ xs) up (suc i) zero d le l on = absurd (omega arith)
parted y (x ∷ xs) up (suc i) (suc j) d le l on = parted y xs up.1 i j d (omega arith) (omega arith) on

-- the patrons' numbers don't fall
before_patron : (a b : HeldTitle) → is_before a b ≡ true → a.patron ≤ b.patron
before_patron a b before = grind (arith, nat_tests, common_steps)

pub patrons_rise : (xs : List HeldTitle) → IsRising xs → IsNonDecreasingBy (λ (x : HeldTitle). x.patron) xs
patrons_rise [] up i j d le l = absurd (omega arith)
patrons_rise (x ∷ xs) up zero zero d le l = omega arith
patrons_rise (x ∷ xs) up zero (suc j) d le l =
    before_patron x (get_or xs j d) (later_at x xs j d up.0 (omega arith))
patrons_rise (x ∷ xs) up (suc i) zero d le l = absurd (omega arith)
patrons_rise (x ∷ xs) up (suc i) (suc j) d le l = patrons_rise xs up.1 i j d (omega arith) (omega arith)

-- whether one stands where a search for it ended

pub begins : (b : Bool) (y z : HeldTitle) (xs : List HeldTitle) (i : ℕ) → IsRising xs
    → AllByRecursion (λ x. is_before x y ≡ false) (drop i xs) →
    drop i xs ≡ z ∷ drop (suc i) xs → is_before y z ≡ b → BeginsWith (not b) y (drop i xs)
begins true y z xs i up after is before =
    let rest : IsRising (drop i xs) =
    rising_right (take i xs) (drop i xs) (subst IsRising (sym (take-append-drop i xs)) up) in
    subst (IsBeforeAll y) (sym is) (before_all y z (drop (suc i) xs) (subst IsRising is rest) before)
begins false y z xs i up after is before =
    let first : is_before z y ≡ false = (subst (AllByRecursion (λ x. is_before x y ≡ false)) is after).0 in
    let same : z ≡ y = before_neither z y first before in
    (drop (suc i) xs, is ∙ ap (λ x. x ∷ drop (suc i) xs) same)

pub drop_read : (xs : List HeldTitle) (i : ℕ) (z : HeldTitle) → i < length xs → z ≡ get_or xs i z → drop i xs
    ≡ z ∷ drop (suc i) xs
drop_read [] i z within is = absurd (omega arith)
drop_read (x ∷ xs) zero z within is = ap (λ y. y ∷ xs) (sym is)
drop_read (x ∷ xs) (suc i) z within is = drop_read xs i z (omega arith) is

-- one put where it isn't, and taken where it is

module _ (xs : List HeldTitle) (i : ℕ) (y : HeldTitle) (up : IsRising xs)
    (before : AllByRecursion (λ x. is_before x y ≡ true) (take i xs)) where
  parts : take i xs ++ drop i xs ≡ xs
  parts = take-append-drop i xs

  pub put_rises : (b : Bool) → b ≡ false → BeginsWith b y (drop i xs) → IsRising (insert xs i y)
  put_rises b off at =
      rising_put (take i xs) y (drop i xs) (subst IsRising (sym parts) up) before
      (subst (λ c. BeginsWith c y (drop i xs)) off at)

  pub put_there : (x : HeldTitle) → Contains (insert xs i y) x ↔ ((x ≡ y) ⊎ Contains xs x)
  put_there x = (
    λ has. subst (λ l. (x ≡ y) ⊎ Contains l x) parts (has_put (take i xs) y (drop i xs) x has),
    λ is. put_has (take i xs) y (drop i xs) x (subst (λ l. (x ≡ y) ⊎ Contains l x) (sym parts) is),
  )

  -- it isn't there
  pub absent : (b : Bool) → b ≡ false → BeginsWith b y (drop i xs) → (x : HeldTitle)
      → Contains xs x ↔ ((x ≢ y) × Contains xs x)
  absent b off at x = (
    λ has. (
      not_between (take i xs) y (drop i xs) before (subst (λ c. BeginsWith c y (drop i xs)) off at) x
          (subst (λ l. Contains l x) (sym parts) has),
      has,
    ),
    λ is. is.1,
  )

  -- it is there
  module _ (b : Bool) (on : b ≡ true) (at : BeginsWith b y (drop i xs)) where
    there : (others : List HeldTitle) × (drop i xs ≡ y ∷ others)
    there = subst (λ c. BeginsWith c y (drop i xs)) on at

    split : xs ≡ take i xs ++ y ∷ there.0
    split = sym parts ∙ ap (λ l. take i xs ++ l) there.1

    left : remove xs i ≡ take i xs ++ there.0
    left = ap (λ l. take i xs ++ l) (drop-suc xs i y there.0 there.1)
      where
        drop-suc : (xs : List HeldTitle) (i : ℕ) (y : HeldTitle) (ys : List HeldTitle) → drop i xs ≡ y ∷ ys
            → drop (suc i) xs ≡ ys
        drop-suc [] zero y ys is = absurd (let no : ⊥ = cc in no)
        drop-suc [] (suc i) y ys is = absurd (let no : ⊥ = cc in no)
        drop-suc (x ∷ xs) zero y ys is = let same : xs ≡ ys = cc in same
        drop-suc (x ∷ xs) (suc i) y ys is = drop-suc xs i y ys is

    pub within : i < length xs
    within = inside xs i y there.0 there.1
      where
        inside : (xs : List HeldTitle) (i : ℕ) (y : HeldTitle) (ys : List HeldTitle) → drop i xs ≡ y ∷ ys
            → i < length xs
        inside [] zero y ys is = absurd (let no : ⊥ = cc in no)
        inside [] (suc i) y ys is = absurd (let no : ⊥ = cc in no)
        inside (x ∷ xs) zero y ys is = omega arith
        inside (x ∷ xs) (suc i) y ys is = omega (arith, inside xs i y ys is)

    pub taken_rises : IsRising (remove xs i)
    taken_rises = subst IsRising (sym left) (rising_taken (take i xs) y there.0 (subst IsRising split up))

    pub taken : (x : HeldTitle) → Contains (remove xs i) x ↔ ((x ≢ y) × Contains xs x)
    taken x = (
      λ has. (
        not_between (take i xs) y there.0 before behind x (subst (λ l. Contains l x) left has),
        subst (λ l. Contains l x) (sym split)
            (put_has (take i xs) y there.0 x (inr (subst (λ l. Contains l x) left has))),
      ),
      λ is. subst (λ l. Contains l x) (sym left)
          (other (has_put (take i xs) y there.0 x (subst (λ l. Contains l x) split is.1)) is.0),
    )
      where
        behind : IsBeforeAll y there.0
        behind = (rising_right (take i xs) (y ∷ there.0) (subst IsRising split up)).0

        other : {P : Type 0} → (x ≡ y) ⊎ P → x ≢ y → P
        other (inl same) apart = absurd (apart same)
        other (inr p) apart = p

    pub is_there : (x : HeldTitle) → Contains xs x ↔ ((x ≡ y) ⊎ Contains xs x)
    is_there x = (
      λ has. inr has,
      λ is. ⊎_elim
          (λ same. subst (λ l. Contains l x) (sym split) (put_has (take i xs) y there.0 x (inl same)))
          (λ has. has) is,
    )

-- The titles of one patron in a rising list: behind the first ones, which are of lower patrons, as many as
-- are not of
-- higher ones.
pub record IsPatronsPart (xs rest : List HeldTitle) (p i n : ℕ) : Type 0 where
  pub rising : IsRising xs
  pub same : rest ≡ drop i xs
  pub within : i ≤ length xs
  pub lower : IsPartitionPoint (λ x. nat_lt x.patron p ≡ true) (λ x. nat_lt x.patron p ≡ false) xs i
  pub count : n ≤ length rest
  pub those : IsPartitionPoint (λ x. nat_le x.patron p ≡ true) (λ x. nat_le x.patron p ≡ false) rest n

pub rising_rest : (xs rest : List HeldTitle) (i : ℕ) → IsRising xs → rest ≡ drop i xs → IsRising rest
rising_rest xs rest i up is =
    subst IsRising (sym is)
    (rising_right (take i xs) (drop i xs) (subst IsRising (sym (take-append-drop i xs)) up))

module _ {xs rest : List HeldTitle} {p i n : ℕ} (part : IsPatronsPart xs rest p i n) where
  whole : xs ≡ take i xs ++ (take n rest ++ drop n rest)
  whole = sym (take-append-drop i xs)
      ∙ ap (λ l. take i xs ++ l) (sym part.same ∙ sym (take-append-drop n rest))

  pub part_rises : IsRising (take n rest)
  part_rises = rising_left (take n rest) (drop n rest)
      (subst IsRising (sym (take-append-drop n rest)) (rising_rest xs rest i part.rising part.same))

  own : (x : HeldTitle) → Contains (take n rest) x → x.patron ≡ p
  own x has =
      let in_rest : Contains (drop i xs) x =
      subst (λ l. Contains l x) (take-append-drop n rest ∙ part.same)
      (Contains-append_left (take n rest) (drop n rest) x has) in
      let low : nat_lt x.patron p ≡ false = all_at (λ y. nat_lt y.patron p ≡ false) (drop i xs) x
      (all_drop (λ y. nat_lt y.patron p ≡ false) xs i part.within part.lower.1) in_rest in
      let high : nat_le x.patron p ≡ true = all_at (λ y. nat_le y.patron p ≡ true) (take n rest) x
      (all_take (λ y. nat_le y.patron p ≡ true) rest n part.count part.those.0) has in
      grind (arith, nat_tests)

  not_lower : (x : HeldTitle) → x.patron ≡ p → Contains (take i xs) x → ⊥
  not_lower x same has =
      let low : nat_lt x.patron p ≡ true = all_at (λ y. nat_lt y.patron p ≡ true) (take i xs) x
      (all_take (λ y. nat_lt y.patron p ≡ true) xs i part.within part.lower.0) has in
      grind (arith, nat_tests)

  not_higher : (x : HeldTitle) → x.patron ≡ p → Contains (drop n rest) x → ⊥
  not_higher x same has =
      let high : nat_le x.patron p ≡ false = all_at (λ y. nat_le y.patron p ≡ false) (drop n rest) x
      (all_drop (λ y. nat_le y.patron p ≡ false) rest n part.count part.those.1) has in
      grind (arith, nat_tests)

  stays : (x : HeldTitle) → x.patron ≡ p → Contains xs x → Contains (take n rest) x
  stays x same has = elim
      (Contains-append_cases (take i xs) (take n rest ++ drop n rest) x
      (subst (λ l. Contains l x) whole has)) [
        | inl left ↦ absurd (not_lower x same left)
        | inr right ↦ elim (Contains-append_cases (take n rest) (drop n rest) x right) [
          | inl here ↦ here
          | inr later ↦ absurd (not_higher x same later)
        ]
      ]

  pub part_of : (x : HeldTitle) → Contains (take n rest) x ↔ ((x.patron ≡ p) × Contains xs x)
  part_of x = (
    λ has. (
      own x has,
      subst (λ l. Contains l x) (sym whole) (Contains-append_right (take i xs) (take n rest ++ drop n rest) x
          (Contains-append_left (take n rest) (drop n rest) x has)),
    ),
    λ at. stays x at.0 at.1,
  )
