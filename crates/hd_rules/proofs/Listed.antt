-- The lists of a patron's loans and holds have each once, in their order.
use Rattle.std.proofs.Common.{arith, ◌≡◌, refl, sym, ◌∙◌, ap, subst, ℕ, ◌+◌, ◌<◌, ◌≤◌, ◌⊎◌, inl, inr, zero}
use Rattle.std.proofs.Common.{suc, Bool, true, false, cond, Option, Some, None, List, [], ◌∷◌, ◌++◌, ◌↔◌}
use Rattle.std.proofs.Common.{length, length-append}
use Rattle.std.specs.Prelude.{nat_lt, filter}
use Rattle.std.specs.List.{range_with_len}
use Rattle.std.proofs.lemmas.List.Elements.{filter-append}
use Rattle.std.proofs.lemmas.Bool.{ltb-true, ltb-false}
use Rattle.hd_rules.specs.Words.{Hold, TitleHold}
use Rattle.hd_rules.specs.Facts.{Facts}
use Rattle.hd_rules.specs.Desk.{Desk}
use Rattle.hd_rules.specs.Choose.{count_below, is_lent_to}
use Rattle.hd_rules.specs.Run.{IsAmong}
use Rattle.hd_rules.specs.Views.{insert_hold, with_hold_of, holds_below, loans_of, holds_of}
use Rattle.hd_rules.specs.Views.{AreInOrder, IsListOf, ComesBefore, IsLoansOf, IsHoldsOf}
use Rattle.hd_rules.proofs.Tests.{some_is}
use Rattle.hd_rules.proofs.Place.{last_or_below, first_or_later}
use Rattle.hd_rules.proofs.Filters.{in_filter, filter_has}
use Rattle.hd_rules.proofs.Orders.{filter_order, one_order}

-- the numbers of a range
among_range : (a n x : ℕ) → IsAmong x (range_with_len a n) → (a ≤ x) × (x < a + n)
among_range a zero x h = absurd h
among_range a (suc n) x (inl e) = let same : x ≡ a = e in (omega arith, omega arith)
among_range a (suc n) x (inr h) =
    let low : a + 1 ≤ x = (among_range (a + 1) n x h).0 in
    let high : x < (a + 1) + n = (among_range (a + 1) n x h).1 in
    (omega arith, omega arith)

range_has : (a n x : ℕ) → a ≤ x → x < a + n → IsAmong x (range_with_len a n)
range_has a zero x low high = absurd (let never : ⊥ = omega arith in never)
range_has a (suc n) x low high =
    cases (first_or_later a x low) (λ later. range_has (a + 1) n x later (omega arith))
  where
    cases : (a ≡ x) ⊎ (a + 1 ≤ x) → (a + 1 ≤ x → IsAmong x (range_with_len (a + 1) n)) →
        IsAmong x (range_with_len a (suc n))
    cases (inl e) more = inl (sym e)
    cases (inr later) more = inr (more later)

range_rises : (a n : ℕ) → AreInOrder (λ b c. b < c) (range_with_len a n)
range_rises a zero = tt
range_rises a (suc n) =
    (λ y h. let low : a + 1 ≤ y = (among_range (a + 1) n y h).0 in omega arith, range_rises (a + 1) n)

pub range_more : (a n : ℕ) → range_with_len a (suc n) ≡ range_with_len a n ++ (a + n) ∷ []
range_more a zero = ap (λ (m : ℕ). m ∷ []) (let same : a ≡ a + 0 = omega arith in same)
range_more a (suc n) = ap (λ (ms : List ℕ). a ∷ ms) (range_more (a + 1) n
    ∙ ap (λ (m : ℕ). range_with_len (a + 1) n ++ m ∷ [])
    (let same : (a + 1) + n ≡ a + suc n = omega arith in same))

range_from_zero : (n : ℕ) → range_with_len 0 (suc n) ≡ range_with_len 0 n ++ n ∷ []
range_from_zero n =
    range_more 0 n ∙ ap (λ (m : ℕ). range_with_len 0 n ++ m ∷ []) (let same : 0 + n ≡ n = omega arith in same)

pub loans_are : (k : Facts) (d : Desk) (p : ℕ) → IsLoansOf k d p (loans_of k d p)
loans_are k d p = record {
  order = filter_order (λ b c. b < c) is_loan (range_with_len 0 k.copies) (range_rises 0 k.copies);
  members = λ c. (
    λ among. let is : IsAmong c (range_with_len 0 k.copies) × (is_loan c ≡ true) =
        in_filter is_loan c (range_with_len 0 k.copies) among in
        (below c (among_range 0 k.copies c is.0).1, is.1),
    λ is. filter_has is_loan c (range_with_len 0 k.copies) (in_range c is.0) is.1,
  );
}
  where
    is_loan : ℕ → Bool
    is_loan c = is_lent_to p (d.copy c)

    below : (c : ℕ) → c < 0 + k.copies → c < k.copies
    below c lt = omega arith

    in_range : (c : ℕ) → c < k.copies → IsAmong c (range_with_len 0 k.copies)
    in_range c lt = range_has 0 k.copies c (omega arith) (omega arith)

pub passing_counted : (test : ℕ → Bool) (n : ℕ)
    → length (filter test (range_with_len 0 n)) ≡ count_below test n
passing_counted test zero = refl
passing_counted test (suc n) =
    let split : length (filter test (range_with_len 0 (suc n)))
    ≡ length (filter test (range_with_len 0 n)) + length (cond (test n) (n ∷ []) []) =
    ap (λ (ms : List ℕ). length (filter test ms)) (range_from_zero n)
    ∙ ap length (filter-append test (range_with_len 0 n) (n ∷ []))
    ∙ length-append (filter test (range_with_len 0 n)) (cond (test n) (n ∷ []) []) in
    let before : length (filter test (range_with_len 0 n)) ≡ count_below test n = passing_counted test n in
    let here : length (cond (test n) (n ∷ []) []) ≡ cond (test n) 1 0 = one (test n) in
    omega arith
  where
    one : (b : Bool) → length (cond b (n ∷ []) []) ≡ cond b 1 0
    one true = refl
    one false = refl

-- who is among the holds when one is put there
inserted : (h x : TitleHold) (gs : List TitleHold) → IsAmong x (insert_hold h gs) → (x ≡ h) ⊎ IsAmong x gs
inserted h x [] is = is
inserted h x (g ∷ gs) is = by_test (nat_lt h.hold.stamp g.hold.stamp) is (inserted h x gs)
  where
    later : (x ≡ h) ⊎ IsAmong x gs → (x ≡ h) ⊎ IsAmong x (g ∷ gs)
    later (inl e) = inl e
    later (inr among) = inr (inr among)

    by_test : (b : Bool) → IsAmong x (cond b (h ∷ g ∷ gs) (g ∷ insert_hold h gs)) →
        (IsAmong x (insert_hold h gs) → (x ≡ h) ⊎ IsAmong x gs) → (x ≡ h) ⊎ IsAmong x (g ∷ gs)
    by_test true is more = is
    by_test false (inl e) more = inr (inl e)
    by_test false (inr among) more = later (more among)

insert_among : (h x : TitleHold) (gs : List TitleHold) → (x ≡ h) ⊎ IsAmong x gs → IsAmong x (insert_hold h gs)
insert_among h x [] is = is
insert_among h x (g ∷ gs) is = by_test (nat_lt h.hold.stamp g.hold.stamp) is (insert_among h x gs)
  where
    by_test : (b : Bool) → (x ≡ h) ⊎ IsAmong x (g ∷ gs) →
        ((x ≡ h) ⊎ IsAmong x gs → IsAmong x (insert_hold h gs))
        → IsAmong x (cond b (h ∷ g ∷ gs) (g ∷ insert_hold h gs))
    by_test true is more = is
    by_test false (inl e) more = inr (more (inl e))
    by_test false (inr (inl e)) more = inl e
    by_test false (inr (inr among)) more = inr (more (inr among))

insert_order : (h : TitleHold) (gs : List TitleHold) → AreInOrder ComesBefore gs →
    ((g : TitleHold) → IsAmong g gs → g.title < h.title) → AreInOrder ComesBefore (insert_hold h gs)
insert_order h [] order lower = (λ y none. absurd none, tt)
insert_order h (g ∷ gs) order lower = by_test (nat_lt h.hold.stamp g.hold.stamp) refl
    (insert_order h gs order.1 (λ x among. lower x (inr among)))
  where
    in_front : h.hold.stamp < g.hold.stamp → (y : TitleHold) → IsAmong y (g ∷ gs) → ComesBefore h y
    in_front lt y (inl e) = inl (subst (λ (z : TitleHold). h.hold.stamp < z.hold.stamp) (sym e) lt)
    in_front lt y (inr among) = by_order (order.0 y among)
      where
        by_order : ComesBefore g y → ComesBefore h y
        by_order (inl less) = inl (omega arith)
        by_order (inr same) = inl (let e : g.hold.stamp ≡ y.hold.stamp = same.0 in omega arith)

    not_behind : g.hold.stamp ≤ h.hold.stamp → ComesBefore g h
    not_behind le = cases (nat_lt g.hold.stamp h.hold.stamp) refl
      where
        cases : (b : Bool) → nat_lt g.hold.stamp h.hold.stamp ≡ b → ComesBefore g h
        cases true is = inl (ltb-true g.hold.stamp h.hold.stamp is)
        cases false is =
            let other : h.hold.stamp ≤ g.hold.stamp = ltb-false g.hold.stamp h.hold.stamp is in
            inr (omega arith, lower g (inl refl))

    behind : g.hold.stamp ≤ h.hold.stamp → (y : TitleHold) → (y ≡ h) ⊎ IsAmong y gs → ComesBefore g y
    behind le y (inl e) = subst (ComesBefore g) (sym e) (not_behind le)
    behind le y (inr among) = order.0 y among

    by_test : (b : Bool) → nat_lt h.hold.stamp g.hold.stamp ≡ b → AreInOrder ComesBefore (insert_hold h gs) →
        AreInOrder ComesBefore (cond b (h ∷ g ∷ gs) (g ∷ insert_hold h gs))
    by_test true is rest = (in_front (ltb-true h.hold.stamp g.hold.stamp is), order)
    by_test false is rest =
        (λ y among. behind (ltb-false h.hold.stamp g.hold.stamp is) y (inserted h y gs among), rest)

-- the list of the holds of the titles below n
module _ (d : Desk) (p : ℕ) where
  IsHeldBelow : ℕ → TitleHold → Type 0
  IsHeldBelow n h = (h.title < n) × (d.hold h.title p ≡ Some h.hold)

  higher : (n : ℕ) (h : TitleHold) → IsHeldBelow n h → IsHeldBelow (suc n) h
  unfolding IsHeldBelow
  higher n h is = let below : h.title < n = is.0 in (omega arith, is.1)

  none_there : (t : ℕ) → d.hold t p ≡ None → (h : TitleHold) → IsHeldBelow (suc t) h → IsHeldBelow t h
  unfolding IsHeldBelow
  none_there t none h is = cases (last_or_below h.title t is.0)
    where
      cases : (h.title ≡ t) ⊎ (h.title < t) → IsHeldBelow t h
      cases (inl e) =
          let two : (let o : Option Hold = None in o ≡ Some h.hold) =
          sym none ∙ ap (λ (u : ℕ). d.hold u p) (sym e) ∙ is.1 in
          cc
      cases (inr below) = (below, is.1)

  one_there : (t : ℕ) (g : Hold) → d.hold t p ≡ Some g → (h : TitleHold) → IsHeldBelow (suc t) h →
      (h ≡ record { title = t; hold = g }) ⊎ IsHeldBelow t h
  unfolding IsHeldBelow
  one_there t g some h is = cases (last_or_below h.title t is.0)
    where
      cases : (h.title ≡ t) ⊎ (h.title < t) → (h ≡ record { title = t; hold = g }) ⊎ IsHeldBelow t h
      cases (inl e) =
          let held : h.hold ≡ g =
          some_is h.hold g (sym is.1 ∙ ap (λ (u : ℕ). d.hold u p) e ∙ some) in
          inl (λ i. record { title = e i; hold = held i })
      cases (inr below) = inr (below, is.1)

  there : (t : ℕ) (g : Hold) → d.hold t p ≡ Some g → IsHeldBelow (suc t) (record { title = t; hold = g })
  unfolding IsHeldBelow
  there t g some = (omega arith, some)

  listed_below : (n : ℕ) → IsListOf (IsHeldBelow n) ComesBefore (holds_below d p n)
  unfolding IsHeldBelow
  listed_below zero = record {
    order = tt;
    members = λ h. (λ none. absurd none, λ is. absurd (let never : ⊥ = omega (arith, is.0) in never));
  }
  listed_below (suc t) = by_hold (d.hold t p) refl (listed_below t)
    where
      either : (g : Hold) (h : TitleHold) → d.hold t p ≡ Some g →
          IsListOf (IsHeldBelow t) ComesBefore (holds_below d p t) →
          (h ≡ record { title = t; hold = g }) ⊎ IsAmong h (holds_below d p t) → IsHeldBelow (suc t) h
      either g h some list (inl e) = subst (IsHeldBelow (suc t)) (sym e) (there t g some)
      either g h some list (inr among) = higher t h ((list.members h).0 among)

      back : (g : Hold) (h : TitleHold) → IsListOf (IsHeldBelow t) ComesBefore (holds_below d p t) →
          (h ≡ record { title = t; hold = g }) ⊎ IsHeldBelow t h →
          (h ≡ record { title = t; hold = g }) ⊎ IsAmong h (holds_below d p t)
      back g h list (inl e) = inl e
      back g h list (inr is) = inr ((list.members h).1 is)

      by_hold : (o : Option Hold) → d.hold t p ≡ o
          → IsListOf (IsHeldBelow t) ComesBefore (holds_below d p t) →
          IsListOf (IsHeldBelow (suc t)) ComesBefore (with_hold_of t o (holds_below d p t))
      by_hold None none list = record {
        order = list.order;
        members = λ h. (
          λ among. higher t h ((list.members h).0 among),
          λ is. (list.members h).1 (none_there t none h is),
        );
      }
      by_hold (Some g) some list =
          let new : TitleHold = record { title = t; hold = g } in
          record {
            order = insert_order new (holds_below d p t) list.order (λ h among. ((list.members h).0 among).0);
            members = λ h. (
              λ among. either g h some list (inserted new h (holds_below d p t) among),
              λ is. insert_among new h (holds_below d p t) (back g h list (one_there t g some h is)),
            );
          }

  pub holds_are : (k : Facts) → IsHoldsOf k d p (holds_of k d p)
  unfolding IsHeldBelow
  holds_are k = listed_below k.titles

-- a list of just these in this order is no other
module _ {A : Type 0} (Is : A → Type 0) (Before : A → A → Type 0) (never : (x : A) → Before x x → ⊥)
    (not_both : (x y : A) → Before x y → Before y x → ⊥) where
  pub only_list : (xs ys : List A) → IsListOf Is Before ys → IsListOf Is Before xs ↔ (xs ≡ ys)
  only_list xs ys list = (
    λ other. one_order Before never not_both xs ys other.order list.order
        (λ z among. (list.members z).1 ((other.members z).0 among))
        (λ z among. (other.members z).1 ((list.members z).0 among)),
    λ same. subst (IsListOf Is Before) (sym same) list,
  )

pub not_before_itself : (h : TitleHold) → ComesBefore h h → ⊥
not_before_itself h (inl lt) = omega arith
not_before_itself h (inr same) = omega (arith, same.1)

pub not_both_before : (g h : TitleHold) → ComesBefore g h → ComesBefore h g → ⊥
not_both_before g h (inl lt) (inl gt) = omega arith
not_both_before g h (inl lt) (inr same) = omega (arith, same.0)
not_both_before g h (inr same) (inl lt) = omega (arith, same.0)
not_both_before g h (inr same) (inr other) = omega (arith, same.1, other.1)
