-- What a union begins with.
use Rattle.std.proofs.Common.{◌≡◌, ℕ, ◌<◌, ◌≤◌, ◌==◌, nat_lt, ◌||◌, Bool, true, false, cond, ◌⊎◌, inl, inr}
use Rattle.std.proofs.Common.{Option, None, Some, min}
use Rattle.std.proofs.Common.{List, [], ◌∷◌, length, map, refl, sym, ap, ◌∙◌, arith}
use Rattle.std.proofs.lemmas.Bool.{cases_Bool}
use Rattle.std.proofs.lemmas.Bool.Decides.{nat_tests}
use Rattle.std.specs.List.{AllByRecursion, list_any}
use Rattle.hd_index.specs.Rising.{IsRising}
use Rattle.hd_index.specs.Union.{IsNotBelow, put_in_place, least_first, past, union, union_with}

-- each number of the list is above this one
abbrev pub AreAbove : ℕ → List ℕ → Type 0
AreAbove n ns = AllByRecursion (λ m. n < m) ns

pub joined_above : (h n : ℕ) (ms : List ℕ) → h < n → AreAbove h ms → AreAbove h (put_in_place n ms)
joined_above h n [] l all = (l, tt)
joined_above h n (m ∷ ms) l all = elim (cases_Bool (nat_lt n m)) [
  | inl e ↦ rw e (l, all)
  | inr e ↦ elim (cases_Bool (n == m)) [
    | inl f ↦ rw (e, f) all
    | inr f ↦ rw (e, f) (all.0, joined_above h n ms l all.1)
  ]
]

pub union_above : (h : ℕ) (ns ms : List ℕ) → AreAbove h ns → AreAbove h ms → AreAbove h (union_with ns ms)
union_above h [] ms low all = all
union_above h (n ∷ ns) ms low all = joined_above h n (union_with ns ms) low.0 (union_above h ns ms low.1 all)

pub joined_first : (h : ℕ) (ms : List ℕ) → AreAbove h ms → put_in_place h ms ≡ h ∷ ms
joined_first h [] all = refl
joined_first h (m ∷ ms) all =
    let less = all.0 in
    let e : nat_lt h m ≡ true = grind (arith, nat_tests) in
    rw e

joined_same : (h : ℕ) (ms : List ℕ) → put_in_place h (h ∷ ms) ≡ h ∷ ms
joined_same h ms =
    let e : nat_lt h h ≡ false = grind (arith, nat_tests) in
    let f : (h == h) ≡ true = grind (arith, nat_tests) in
    rw (e, f)

joined_behind : (h n : ℕ) (ms : List ℕ) → h < n → put_in_place n (h ∷ ms) ≡ h ∷ put_in_place n ms
joined_behind h n ms l =
    let e : nat_lt n h ≡ false = grind (arith, nat_tests) in
    let f : (n == h) ≡ false = grind (arith, nat_tests) in
    rw (e, f)

union_behind : (h : ℕ) (ns ms : List ℕ) → AreAbove h ns → union_with ns (h ∷ ms) ≡ h ∷ union_with ns ms
union_behind h [] ms low = refl
union_behind h (n ∷ ns) ms low = ap (put_in_place n) (union_behind h ns ms low.1)
    ∙ joined_behind h n (union_with ns ms) low.0

-- a list with a number before it, or without
abbrev pub front : Bool → ℕ → List ℕ → List ℕ
front b n ns = cond b (n ∷ ns) ns

-- a number below all is in front of a union where it is in front of one of the two
pub union_front : (a b : Bool) (h : ℕ) (ns ms : List ℕ) → AreAbove h ns → AreAbove h ms →
    union_with (front a h ns) (front b h ms) ≡ front (a || b) h (union_with ns ms)
union_front false false h ns ms low all = refl
union_front false true h ns ms low all = union_behind h ns ms low
union_front true false h ns ms low all = joined_first h (union_with ns ms) (union_above h ns ms low all)
union_front true true h ns ms low all = ap (put_in_place h) (union_behind h ns ms low)
    ∙ joined_same h (union_with ns ms)

-- the list begins with the number
abbrev pub begins : ℕ → List ℕ → Bool
begins n [] = false
begins n (m ∷ ms) = m == n

pub weaker : (h n : ℕ) (ns : List ℕ) → h ≤ n → AreAbove n ns → AreAbove h ns
weaker h n [] l all = tt
weaker h n (m ∷ ms) l all = (let less = all.0 in omega arith, weaker h n ms l all.1)

list_is : (h : ℕ) (ns : List ℕ) → IsRising ns → IsNotBelow h ns
    → (ns ≡ front (begins h ns) h (past h ns)) × AreAbove h (past h ns)
list_is h [] up low = (refl, tt)
list_is h (n ∷ ns) up low = elim (cases_Bool (n == h)) [
  | inl e ↦
      let same : n ≡ h = grind (arith, nat_tests)
      in rw e (ap (λ x. x ∷ ns) same, weaker h n ns low up.0)
  | inr e ↦ rw e (refl, (grind (arith, nat_tests), weaker h n ns low up.0))
]

-- a number that no list begins below is in front of the union where a list begins with it
lists_are : (h : ℕ) (lists : List (List ℕ)) → AllByRecursion IsRising lists
    → AllByRecursion (IsNotBelow h) lists →
    (union lists ≡ front (list_any (begins h) lists) h (union (map (past h) lists)))
    × AreAbove h (union (map (past h) lists))
lists_are h [] up low = (refl, tt)
lists_are h (ns ∷ lists) up low =
    let here = list_is h ns up.0 low.0 in
    let rest = lists_are h lists up.1 low.1 in
    let rests = union (map (past h) lists) in
    let is : union_with ns (union lists)
    ≡ union_with (front (begins h ns) h (past h ns)) (front (list_any (begins h) lists) h rests) =
    ap (λ ms. union_with ms (union lists)) here.0
    ∙ ap (union_with (front (begins h ns) h (past h ns))) rest.0 in (
      is ∙ union_front (begins h ns) (list_any (begins h) lists) h (past h ns) rests here.1 rest.1,
      union_above h (past h ns) rests here.1 rest.1,
    )

pub least_some : (b : ℕ) (lists : List (List ℕ)) → least_first (Some b) lists ≡ None → ⊥
least_some b [] e = cc
least_some b ([] ∷ lists) e = least_some b lists e
least_some b ((n ∷ ns) ∷ lists) e = least_some (min b n) lists e

-- where no list begins, the union is empty
pub least_none : (lists : List (List ℕ)) → least_first None lists ≡ None → union lists ≡ []
least_none [] e = refl
least_none ([] ∷ lists) e = least_none lists e
least_none ((n ∷ ns) ∷ lists) e = absurd (least_some n lists e)

-- a least number: no list begins below it, and it is what we had or a list begins with it
pub record IsLeast (h : ℕ) (had : Option ℕ) (lists : List (List ℕ)) : Type 0 where
  pub low : AllByRecursion (IsNotBelow h) lists
  pub below : (b : ℕ) → had ≡ Some b → h ≤ b
  pub there : (had ≡ Some h) ⊎ (list_any (begins h) lists ≡ true)

either : (a b : Bool) → b ≡ true → (a || b) ≡ true
either false b e = e
either true b e = refl

pub least_is : (had : Option ℕ) (lists : List (List ℕ)) (h : ℕ) → least_first had lists ≡ Some h
    → IsLeast h had lists
least_is had [] h e = record {
  low = tt;
  below = λ b f. let same : Some h ≡ Some b = sym e ∙ f in grind (arith, same);
  there = inl e;
}
least_is had ([] ∷ lists) h e =
    let rest = least_is had lists h e in
    record { low = (tt, rest.low); below = rest.below; there = rest.there }
least_is None ((n ∷ ns) ∷ lists) h e =
    let rest = least_is (Some n) lists h e in
    record {
      low = (rest.below n refl, rest.low);
      below = λ b f. absurd (let wrong : None ≡ Some b = f in cc);
      there = elim rest.there [
        | inl f ↦ inr
            (let same : n ≡ h = cc in let test : (n == h) ≡ true = grind (arith, nat_tests) in rw test)
        | inr f ↦ inr (either (n == h) (list_any (begins h) lists) f)
      ];
    }
least_is (Some b) ((n ∷ ns) ∷ lists) h e =
    let rest = least_is (Some (min b n)) lists h e in
    let less = rest.below (min b n) refl in
    record {
      low = (omega arith, rest.low);
      below = λ a f. let same : b ≡ a = cc in omega arith;
      there = elim rest.there [
        | inl f ↦ let same : min b n ≡ h = cc in elim (cases_Bool (n == h)) [
          | inl t ↦ inr (rw t)
          | inr t ↦ inl (ap Some (let other : n ≡ h → ⊥ = λ s. grind (arith, nat_tests) in omega arith))
        ]
        | inr f ↦ inr (either (n == h) (list_any (begins h) lists) f)
      ];
    }

-- the least of the first numbers is in front, with the union of what is behind it
pub least_front : (lists : List (List ℕ)) (h : ℕ) → AllByRecursion IsRising lists
    → least_first None lists ≡ Some h →
    union lists ≡ h ∷ union (map (past h) lists)
least_front lists h up e =
    let least = least_is None lists h e in
    let is = (lists_are h lists up least.low).0 in
    elim least.there [
      | inl f ↦ absurd (let wrong : None ≡ Some h = f in cc)
      | inr f ↦ is ∙ rw f
    ]

-- what is behind a number, by the first number of the list
pub past_there : (n m : ℕ) (ns ms : List ℕ) → ns ≡ m ∷ ms → m ≡ n → ms ≡ past n ns
past_there n m ns ms e at =
    let test : (m == n) ≡ true = grind (arith, nat_tests) in
    rw (e, test)

pub past_other : (n m : ℕ) (ns ms : List ℕ) → ns ≡ m ∷ ms → (m ≡ n → ⊥) → ns ≡ past n ns
past_other n m ns ms e apart =
    let test : (m == n) ≡ false = grind (arith, nat_tests) in
    rw (e, test)

pub past_none : (n : ℕ) (ns : List ℕ) → length ns ≡ 0 → ns ≡ past n ns
past_none n [] e = refl
past_none n (m ∷ ns) e = absurd (omega arith)

-- what is behind a number rises
pub past_rising : (h : ℕ) (lists : List (List ℕ)) → AllByRecursion IsRising lists
    → AllByRecursion IsRising (map (past h) lists)
past_rising h [] up = tt
past_rising h ([] ∷ lists) up = (tt, past_rising h lists up.1)
past_rising h ((n ∷ ns) ∷ lists) up = elim (cases_Bool (n == h)) [
  | inl e ↦ rw e (up.0.1, past_rising h lists up.1)
  | inr e ↦ rw e (up.0, past_rising h lists up.1)
]
