-- Keys put into a list, each once.
use Rattle.std.proofs.Common.{◌≡◌, refl, sym, ◌∙◌, subst, Bool, true, false, ◌||◌, cond, ◌⊎◌, ◌↔◌, inl, inr}
use Rattle.std.proofs.Common.{List, [], ◌∷◌, ◌++◌}
use Rattle.std.specs.List.{list_any}
use Rattle.hd_rules.specs.Run.{IsAmong}
use Rattle.hd_lemmas.proofs.Lists.{among_left, among_right, among_either}
use Rattle.hd_clash.specs.declared.key.Key.{Key}
use Rattle.hd_clash.specs.Keys.{same_key}
use Rattle.hd_clash.specs.ChangedKeys.{AreDistinct, HaveSameKeys, with_key, with_keys}
use Rattle.hd_clash.proofs.About.{any_passes}
use Rattle.hd_clash.proofs.Keyed.{key_is, key_self}

-- the test finds a key exactly where it is among them
found : (x : Key) (ys : List Key) → list_any (same_key x) ys ≡ true → IsAmong x ys
found x [] is = cc
found x (y ∷ ys) is = by_test (same_key x y) refl is (found x ys)
  where
    by_test : (b : Bool) → same_key x y ≡ b → (b || list_any (same_key x) ys) ≡ true
        → (list_any (same_key x) ys ≡ true → IsAmong x ys) → IsAmong x (y ∷ ys)
    by_test true same is more = inl (key_is x y same)
    by_test false same is more = inr (more is)

missed : (x : Key) (ys : List Key) → list_any (same_key x) ys ≡ false → IsAmong x ys → ⊥
missed x ys none among =
    let is : list_any (same_key x) ys ≡ true = any_passes (same_key x) x ys among (key_self x) in
    let no : true ≡ false = sym is ∙ none in cc

-- one more key
among_more : (keys : List Key) (x z : Key) (b : Bool) → list_any (same_key x) keys ≡ b
    → IsAmong z (cond b keys (keys ++ x ∷ [])) ↔ (IsAmong z keys ⊎ (z ≡ x))
among_more keys x z true is = (inl, back)
  where
    back : IsAmong z keys ⊎ (z ≡ x) → IsAmong z keys
    back (inl h) = h
    back (inr e) = subst (λ (y : Key). IsAmong y keys) (sym e) (found x keys is)
among_more keys x z false is = (there, back)
  where
    last : IsAmong z (x ∷ []) → z ≡ x
    last (inl e) = e
    last (inr h) = absurd h

    split : IsAmong z keys ⊎ IsAmong z (x ∷ []) → IsAmong z keys ⊎ (z ≡ x)
    split (inl h) = inl h
    split (inr h) = inr (last h)

    there : IsAmong z (keys ++ x ∷ []) → IsAmong z keys ⊎ (z ≡ x)
    there h = split (among_either z keys (x ∷ []) h)

    back : IsAmong z keys ⊎ (z ≡ x) → IsAmong z (keys ++ x ∷ [])
    back (inl h) = among_left z keys (x ∷ []) h
    back (inr e) = among_right z keys (x ∷ []) (inl e)

-- each of the others
among_all : (keys xs : List Key) (z : Key) → IsAmong z (with_keys keys xs) ↔ (IsAmong z keys ⊎ IsAmong z xs)
among_all keys [] z = (inl, back)
  where
    back : IsAmong z keys ⊎ IsAmong z [] → IsAmong z keys
    back (inl h) = h
    back (inr h) = absurd h
among_all keys (x ∷ xs) z =
    both (among_more keys x z (list_any (same_key x) keys) refl) (among_all (with_key keys x) xs z)
  where
    both : IsAmong z (with_key keys x) ↔ (IsAmong z keys ⊎ (z ≡ x))
        → IsAmong z (with_keys (with_key keys x) xs) ↔ (IsAmong z (with_key keys x) ⊎ IsAmong z xs)
        → IsAmong z (with_keys (with_key keys x) xs) ↔ (IsAmong z keys ⊎ IsAmong z (x ∷ xs))
    both one rest = (λ h. there (rest.0 h), λ h. rest.1 (back h))
      where
        split : IsAmong z keys ⊎ (z ≡ x) → IsAmong z keys ⊎ IsAmong z (x ∷ xs)
        split (inl h) = inl h
        split (inr e) = inr (inl e)

        there : IsAmong z (with_key keys x) ⊎ IsAmong z xs → IsAmong z keys ⊎ IsAmong z (x ∷ xs)
        there (inl h) = split (one.0 h)
        there (inr h) = inr (inr h)

        back : IsAmong z keys ⊎ IsAmong z (x ∷ xs) → IsAmong z (with_key keys x) ⊎ IsAmong z xs
        back (inl h) = inl (one.1 (inl h))
        back (inr (inl e)) = inl (one.1 (inr e))
        back (inr (inr h)) = inr h

pub same_keys : (xs : List Key) → HaveSameKeys (with_keys [] xs) xs
same_keys xs z = (λ h. there ((among_all [] xs z).0 h), λ h. (among_all [] xs z).1 (inr h))
  where
    there : IsAmong z [] ⊎ IsAmong z xs → IsAmong z xs
    there (inl h) = absurd h
    there (inr h) = h

-- and each stands once
distinct_more : (keys : List Key) (x : Key) → AreDistinct keys → (IsAmong x keys → ⊥)
    → AreDistinct (keys ++ x ∷ [])
distinct_more [] x apart never = (λ h. h, tt)
distinct_more (y ∷ ys) x apart never =
    (λ h. neither (among_either y ys (x ∷ []) h), distinct_more ys x apart.1 (λ h. never (inr h)))
  where
    neither : IsAmong y ys ⊎ IsAmong y (x ∷ []) → ⊥
    neither (inl h) = apart.0 h
    neither (inr (inl e)) = never (inl (sym e))
    neither (inr (inr h)) = h

distinct_with : (keys : List Key) (x : Key) (b : Bool) → list_any (same_key x) keys ≡ b → AreDistinct keys
    → AreDistinct (cond b keys (keys ++ x ∷ []))
distinct_with keys x true is apart = apart
distinct_with keys x false is apart = distinct_more keys x apart (missed x keys is)

pub distinct_all : (keys xs : List Key) → AreDistinct keys → AreDistinct (with_keys keys xs)
distinct_all keys [] apart = apart
distinct_all keys (x ∷ xs) apart =
    distinct_all (with_key keys x) xs (distinct_with keys x (list_any (same_key x) keys) refl apart)

-- lists of the same keys pass a test alike
record Passing (test : Key → Bool) (xs : List Key) : Type 0 where
  pub one : Key
  pub among : IsAmong one xs
  pub passes : test one ≡ true

passing : (test : Key → Bool) (xs : List Key) → list_any test xs ≡ true → Passing test xs
passing test [] is = cc
passing test (x ∷ xs) is = by_test (test x) refl is (passing test xs)
  where
    later : Passing test xs → Passing test (x ∷ xs)
    later p = record { one = p.one; among = inr p.among; passes = p.passes }

    by_test : (b : Bool) → test x ≡ b → (b || list_any test xs) ≡ true
        → (list_any test xs ≡ true → Passing test xs) → Passing test (x ∷ xs)
    by_test true passes is more = record { one = x; among = inl refl; passes = passes }
    by_test false passes is more = later (more is)

pub alike : (test : Key → Bool) (xs ys : List Key) → HaveSameKeys xs ys → list_any test xs ≡ list_any test ys
alike test xs ys same = by_tests (list_any test xs) refl (list_any test ys) refl
  where
    there : list_any test xs ≡ true → list_any test ys ≡ true
    there is = let p : Passing test xs = passing test xs is in
        any_passes test p.one ys ((same p.one).0 p.among) p.passes

    back : list_any test ys ≡ true → list_any test xs ≡ true
    back is = let p : Passing test ys = passing test ys is in
        any_passes test p.one xs ((same p.one).1 p.among) p.passes

    by_tests : (a : Bool) → list_any test xs ≡ a → (b : Bool) → list_any test ys ≡ b → a ≡ b
    by_tests true is b other = sym (there is) ∙ other
    by_tests false is true other = sym is ∙ back other
    by_tests false is false other = refl

-- the keys of two lists, one after the other
pub one_after : (keys xs ys : List Key) → with_keys keys (xs ++ ys) ≡ with_keys (with_keys keys xs) ys
one_after keys [] ys = refl
one_after keys (x ∷ xs) ys = one_after (with_key keys x) xs ys
