-- What is among the elements of a list, and what equal lists have in common.
use Rattle.std.proofs.Common.{◌≡◌, ◌⊎◌, List, [], ◌∷◌, ◌++◌, refl, sym, ap, inl, inr}
pub use Rattle.hd_rules.proofs.Splits.{among_left, among_right, among_either}
-- one number more of a range
pub use Rattle.hd_rules.proofs.Listed.{range_more}

-- equal lists have one head, and one tail
pub head_same : {A : Type 0} {x y : A} {xs ys : List A} → x ∷ xs ≡ y ∷ ys → x ≡ y
head_same e = cc

pub tail_same : {A : Type 0} {x y : A} {xs ys : List A} → x ∷ xs ≡ y ∷ ys → xs ≡ ys
tail_same e = cc

-- the empty list has no place
pub nil_split : {A : Type 0} (before : List A) (x : A) (after : List A) → [] ≡ before ++ x ∷ after → ⊥
nil_split [] x after e = cc
nil_split (b ∷ bs) x after e = cc

-- an element of a list with one more is one of the list, or the one more
pub last_or : {A : Type 0} (all : List A) (last : A) (before : List A) (x : A) (after : List A)
    → all ++ last ∷ [] ≡ before ++ x ∷ after →
    ((rest : List A) × (all ≡ before ++ x ∷ rest)) ⊎ ((all ≡ before) × (last ≡ x))
last_or [] last [] x after e = inr (refl, head_same e)
last_or [] last (b ∷ bs) x after e = absurd (nil_split bs x after (tail_same e))
last_or (a ∷ rest) last [] x after e = inl (rest, ap (λ y. y ∷ rest) (head_same e))
last_or (a ∷ rest) last (b ∷ bs) x after e =
    let first : a ≡ b = head_same e in
    elim (last_or rest last bs x after (tail_same e)) [
      | inl more ↦ inl (more.0, rw first (ap (λ ys. b ∷ ys) more.1))
      | inr is ↦ inr (rw first (ap (λ ys. b ∷ ys) is.0), is.1)
    ]

-- of two places in a list one is earlier, or they are one
pub split_cases : {A : Type 0} (b c : List A) (x y : A) (d e : List A) → b ++ x ∷ d ≡ c ++ y ∷ e →
    ((rest : List A) × (c ≡ b ++ x ∷ rest)) ⊎ (((rest : List A) × (b ≡ c ++ y ∷ rest)) ⊎ ((b ≡ c) × (x ≡ y)))
split_cases [] [] x y d e h = inr (inr (refl, head_same h))
split_cases [] (z ∷ c) x y d e h = inl (c, ap (λ w. w ∷ c) (sym (head_same h)))
split_cases (z ∷ b) [] x y d e h = inr (inl (b, ap (λ w. w ∷ b) (head_same h)))
split_cases (z ∷ b) (w ∷ c) x y d e h =
    let same : z ≡ w = head_same h in
    elim (split_cases b c x y d e (tail_same h)) [
      | inl more ↦ inl (more.0, rw same (ap (λ l. w ∷ l) more.1))
      | inr (inl more) ↦ inr (inl (more.0, rw same (ap (λ l. w ∷ l) more.1)))
      | inr (inr is) ↦ inr (inr (rw same (ap (λ l. w ∷ l) is.0), is.1))
    ]
