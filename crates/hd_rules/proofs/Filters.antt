-- What passes a test of a list, and what doesn't.
use Rattle.std.proofs.Common.{◌≡◌, refl, sym, ◌∙◌, ap, ◌⊎◌, inl, inr, Bool, true, false, not, cond}
use Rattle.std.proofs.Common.{List, [], ◌∷◌, ◌↔◌, filter}
use Rattle.hd_rules.specs.Run.{IsAmong}

module _ {A : Type 0} (test : A → Bool) (x : A) where
  -- what passes is in the list, and passes
  pub in_filter : (ys : List A) → IsAmong x (filter test ys) → IsAmong x ys × (test x ≡ true)
  in_filter [] h = absurd h
  in_filter (y ∷ ys) h = by_test (test y) refl h (in_filter ys)
    where
      by_test : (b : Bool) → test y ≡ b → IsAmong x (cond b (y ∷ filter test ys) (filter test ys)) →
          (IsAmong x (filter test ys) → IsAmong x ys × (test x ≡ true)) → IsAmong x (y ∷ ys) × (test x ≡ true)
      by_test true is (inl e) more = (inl e, ap test e ∙ is)
      by_test true is (inr later) more = (inr (more later).0, (more later).1)
      by_test false is later more = (inr (more later).0, (more later).1)

  -- and the other way round
  pub filter_has : (ys : List A) → IsAmong x ys → test x ≡ true → IsAmong x (filter test ys)
  filter_has [] h passes = absurd h
  filter_has (y ∷ ys) h passes = by_test (test y) refl h (λ later. filter_has ys later passes)
    where
      by_test : (b : Bool) → test y ≡ b → IsAmong x (y ∷ ys) → (IsAmong x ys → IsAmong x (filter test ys)) →
          IsAmong x (cond b (y ∷ filter test ys) (filter test ys))
      by_test true is (inl e) more = inl e
      by_test true is (inr later) more = inr (more later)
      by_test false is (inl e) more = absurd (let t : test y ≡ true = ap test (sym e) ∙ passes in
          let never : ⊥ = cc in never)
      by_test false is (inr later) more = more later

module _ {A : Type 0} (test : A → Bool) (x : A) (xs : List A) where
  -- each of the list passes the test, or its contrary
  pub in_either : IsAmong x xs ↔ (IsAmong x (filter test xs) ⊎ IsAmong x (filter (λ y. not (test y)) xs))
  in_either = (λ h. by_test h (test x) refl, back)
    where
      by_test : IsAmong x xs → (b : Bool) → test x ≡ b →
          IsAmong x (filter test xs) ⊎ IsAmong x (filter (λ y. not (test y)) xs)
      by_test h true is = inl (filter_has test x xs h is)
      by_test h false is = inr (filter_has (λ y. not (test y)) x xs h (ap not is))

      back : IsAmong x (filter test xs) ⊎ IsAmong x (filter (λ y. not (test y)) xs) → IsAmong x xs
      back (inl h) = (in_filter test x xs h).0
      back (inr h) = (in_filter (λ y. not (test y)) x xs h).0

  -- and none passes both
  pub in_both : IsAmong x (filter test xs) → IsAmong x (filter (λ y. not (test y)) xs) → ⊥
  in_both h g =
      let is : test x ≡ true = (in_filter test x xs h).1 in
      let other : not (test x) ≡ true = (in_filter (λ y. not (test y)) x xs g).1 in
      let two : not true ≡ true = ap not (sym is) ∙ other in
      cc
