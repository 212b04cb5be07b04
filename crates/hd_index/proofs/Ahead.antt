-- The first list of a union, ahead of the others.
use Rattle.std.proofs.Common.{◌≡◌, ℕ, suc, zero, ◌+◌, ◌-◌, ◌<◌, List, [], ◌∷◌, ◌++◌, None, Some, length, map}
use Rattle.std.proofs.Common.{take, drop}
use Rattle.std.proofs.Common.{get_or, set, refl, ap, subst, ◌∙◌, arith, sub-one}
use Rattle.std.proofs.lemmas.List.{map-append, take_more_set}
use Rattle.std.specs.List.{AllByRecursion}
use Rattle.hd_index.specs.Rising.{IsRising}
use Rattle.hd_index.specs.Union.{AreUnionLists, IsBehindFirst, IsNotBelow, least_first, union, union_with}
use Rattle.hd_index.proofs.UnionLemmas.{AreAbove, joined_first, least_is, least_some, union_above, weaker}

above_list : (h n : ℕ) (ns : List ℕ) → h < n → IsRising ns → IsNotBelow n ns → AreAbove h ns
above_list h n [] less up low = tt
above_list h n (m ∷ ms) less up low =
    (omega (arith, less, low), weaker h m ms (omega (arith, less, low)) up.0)

above_each : (h n : ℕ) (lists : List (List ℕ)) → h < n → AllByRecursion IsRising lists
    → AllByRecursion (IsNotBelow n) lists → AreAbove h (union lists)
above_each h n [] less up low = tt
above_each h n (ns ∷ lists) less up low =
    union_above h ns (union lists) (above_list h n ns less up.0 low.0) (above_each h n lists less up.1 low.1)

-- what is known of a union whose first list begins with a number below the others
pub record IsAhead (h count n : ℕ) (old new : List (List ℕ)) : Type 0 where
  pub lists : AreUnionLists count n new
  pub steps : union old ≡ h ∷ union new

pub ahead : {X : Type 0} (now : X → List ℕ) (count n h : ℕ) (v d : X) (xs : List X)
    → AreUnionLists count n (map now (take count xs)) → 0 < length xs → now (get_or xs 0 d) ≡ h ∷ now v
    → h < n → IsAhead h count n (map now (take count xs)) (map now (take count (set xs 0 v)))
ahead now count n h v d [] are some first less = absurd (omega (arith, some))
ahead now zero n h v d (x ∷ xs) are some first less = absurd (omega (arith, are.behind, less))
ahead now (suc count) n h v d (x ∷ xs) are some first less =
    let up : IsRising (h ∷ now v) = subst IsRising first are.rising.0 in
    let later = map now (take count xs) in
    record {
      lists = record { few = are.few; rising = (up.1, are.rising.1); behind = are.behind };
      steps =
          ap (λ ns. union_with ns (union later)) first
          ∙ joined_first h (union_with (now v) (union later))
          (union_above h (now v) (union later) up.0 (above_each h n later less are.rising.1 are.behind));
    }

-- no list begins below the least first number, and where none has one, below any
pub least_low : (h : ℕ) (lists : List (List ℕ)) → least_first None lists ≡ Some h
    → AllByRecursion (IsNotBelow h) lists
least_low h lists e = (least_is None lists h e).low

pub none_low : (n : ℕ) (lists : List (List ℕ)) → least_first None lists ≡ None
    → AllByRecursion (IsNotBelow n) lists
none_low n [] e = tt
none_low n ([] ∷ lists) e = (tt, none_low n lists e)
none_low n ((m ∷ ms) ∷ lists) e = absurd (least_some m lists e)

none_behind : (lists : List (List ℕ)) → AllByRecursion (IsNotBelow 0) lists
none_behind [] = tt
none_behind ([] ∷ lists) = (tt, none_behind lists)
none_behind ((m ∷ ms) ∷ lists) = (omega arith, none_behind lists)

without_bound : (lists : List (List ℕ)) → IsBehindFirst 0 lists
without_bound [] = refl
without_bound (ns ∷ lists) = none_behind lists

each_more : (lists : List (List ℕ)) (ns : List ℕ) → AllByRecursion IsRising lists → IsRising ns
    → AllByRecursion IsRising (lists ++ ns ∷ [])
each_more [] ns up rising = (rising, tt)
each_more (ms ∷ lists) ns up rising = (up.0, each_more lists ns up.1 rising)

-- a list more, of which no bound is known
pub one_more : {X : Type 0} (now : X → List ℕ) (count n : ℕ) (v : X) (xs : List X)
    → AreUnionLists count n (map now (take count xs)) → count < 12 → count < length xs → IsRising (now v)
    → AreUnionLists (count + 1) 0 (map now (take (count + 1) (set xs count v)))
one_more now count n v xs are few room rising =
    let is : map now (take (count + 1) (set xs count v)) ≡ map now (take count xs) ++ now v ∷ [] =
    ap (map now) (take_more_set xs count v room) ∙ map-append now (take count xs) (v ∷ []) in
    record {
      few = omega (arith, few);
      rising = rw is (each_more (map now (take count xs)) (now v) are.rising rising);
      behind = without_bound (map now (take (count + 1) (set xs count v)));
    }

-- where a list begins, there are lists
pub some_lists : {X : Type 0} (now : X → List ℕ) (count h : ℕ) (xs : List X)
    → least_first None (map now (take count xs)) ≡ Some h → 0 < count
some_lists now zero h xs e = absurd (let wrong : None ≡ Some h = e in cc)
some_lists now (suc count) h xs e = omega arith

-- what is known of the lists behind the first
pub behind_first : {X : Type 0} (now : X → List ℕ) (count n : ℕ) (xs ys : List X) → 0 < count
    → length xs ≡ count → AllByRecursion (IsNotBelow n) (map now (take (count - 1) (drop 1 (xs ++ ys))))
    → IsBehindFirst n (map now (take count (xs ++ ys)))
behind_first now zero n xs ys some long low = absurd (omega (arith, some))
behind_first now (suc count) n [] ys some long low = absurd (omega (arith, long))
behind_first now (suc count) n (x ∷ xs) ys some long low =
    subst (λ (m : ℕ). AllByRecursion (IsNotBelow n) (map now (take m (xs ++ ys)))) (sub-one (suc count)) low
