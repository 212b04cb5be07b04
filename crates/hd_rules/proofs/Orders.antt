-- Lists in order: what passes a test stays so, and there is but one of the same members.
use Rattle.std.proofs.Common.{◌≡◌, refl, sym, ◌∙◌, ap₂, subst, inl, inr, Bool, true, false, cond}
use Rattle.std.proofs.Common.{List, [], ◌∷◌, filter}
use Rattle.hd_rules.specs.Run.{IsAmong}
use Rattle.hd_rules.specs.Views.{AreInOrder}
use Rattle.hd_rules.proofs.Filters.{in_filter}

module _ {A : Type 0} (Before : A → A → Type 0) where
  -- what passes a test stays in order
  pub filter_order : (test : A → Bool) (xs : List A) → AreInOrder Before xs
      → AreInOrder Before (filter test xs)
  filter_order test [] order = tt
  filter_order test (x ∷ xs) order = by_test (test x) (filter_order test xs order.1)
    where
      by_test : (b : Bool) → AreInOrder Before (filter test xs) →
          AreInOrder Before (cond b (x ∷ filter test xs) (filter test xs))
      by_test true rest = (λ y among. order.0 y (in_filter test y xs among).0, rest)
      by_test false rest = rest

  module _ (never : (x : A) → Before x x → ⊥) (not_both : (x y : A) → Before x y → Before y x → ⊥) where
    same_first : (x y : A) (xs ys : List A) → AreInOrder Before (x ∷ xs) → AreInOrder Before (y ∷ ys) →
        IsAmong x (y ∷ ys) → IsAmong y (x ∷ xs) → x ≡ y
    same_first x y xs ys one two (inl e) there = e
    same_first x y xs ys one two (inr h) (inl e) = sym e
    same_first x y xs ys one two (inr h) (inr g) = absurd (not_both x y (one.0 y g) (two.0 x h))

    -- a member behind the first stands behind the first of the other list too
    behind : (x y z : A) (xs ys : List A) → AreInOrder Before (x ∷ xs) → x ≡ y → IsAmong z xs →
        IsAmong z (y ∷ ys) → IsAmong z ys
    behind x y z xs ys one same h (inl e) =
        absurd (never x (subst (Before x) (e ∙ sym same) (one.0 z h)))
    behind x y z xs ys one same h (inr g) = g

    -- two lists in order with the same members are one
    pub one_order : (xs ys : List A) → AreInOrder Before xs → AreInOrder Before ys →
        ((z : A) → IsAmong z xs → IsAmong z ys) → ((z : A) → IsAmong z ys → IsAmong z xs) → xs ≡ ys
    one_order [] [] one two to back = refl
    one_order [] (y ∷ ys) one two to back = absurd (back y (inl refl))
    one_order (x ∷ xs) [] one two to back = absurd (to x (inl refl))
    one_order (x ∷ xs) (y ∷ ys) one two to back =
        let same : x ≡ y = same_first x y xs ys one two (to x (inl refl)) (back y (inl refl)) in
        ap₂ (λ (a : A) (as_ : List A). a ∷ as_) same
        (one_order xs ys one.1 two.1 (λ z h. behind x y z xs ys one same h (to z (inr h)))
        (λ z h. behind y x z ys xs two (sym same) h (back z (inr h))))
