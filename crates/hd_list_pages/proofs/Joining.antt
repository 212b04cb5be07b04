-- What is written one by one, with commas between.
use Rattle.std.proofs.Common.{◌≡◌, refl, sym, ◌∙◌, ap, ℕ, List, [], ◌∷◌, ◌++◌, append_assoc, append-nil}
use Rattle.std.proofs.Common.{arith, Bool, cond, drop, get_or, length, map, take, ◌+◌, ◌-◌, ◌≤◌}
use Rattle.std.proofs.lemmas.List.{take_all}
use Rattle.std.specs.List.{flat_map, join_by}
use Rattle.std.proofs.lemmas.Grind.{flat_map-append}
use Rattle.hd_list_pages.specs.Naming.{AreEach, is_none}

-- each is written by one of these texts, with commas between them
abbrev pub WritesAll : {A B : Type 0} → (A → B → Type 0) → (B → List ℕ) → List A → List ℕ → List ℕ → Type 0
WritesAll {A} {B} Is text xs old new =
    (ys : List B) × AreEach Is xs ys × (new ≡ old ++ join_by text (44 ∷ []) ys)

-- or each behind a comma
abbrev pub WritesMore : {A B : Type 0} → (A → B → Type 0) → (B → List ℕ) → List A → List ℕ → List ℕ → Type 0
WritesMore {A} {B} Is text xs old new =
    (ys : List B) × AreEach Is xs ys × (new ≡ old ++ flat_map (λ (y : B). 44 ∷ text y) ys)

-- one is written
abbrev pub WritesOne : {A B : Type 0} → (A → B → Type 0) → (B → List ℕ) → A → List ℕ → List ℕ → Type 0
WritesOne {A} {B} Is text x old new = (y : B) × Is x y × (new ≡ old ++ text y)

each_more : {A B : Type 0} (Is : A → B → Type 0) (xs : List A) (ys : List B) (x : A) (y : B)
    → AreEach Is xs ys → Is x y → AreEach Is (xs ++ x ∷ []) (ys ++ y ∷ [])
each_more Is [] [] x y each is = (is, tt)
each_more Is (a ∷ xs) (b ∷ ys) x y each is = (each.0, each_more Is xs ys x y each.1 is)
each_more Is [] (b ∷ ys) x y each is = absurd each
each_more Is (a ∷ xs) [] x y each is = absurd each

-- one more behind a comma
flat_more : {B : Type 0} (text : B → List ℕ) (ys : List B) (y : B)
    → flat_map (λ (z : B). 44 ∷ text z) (ys ++ y ∷ []) ≡ flat_map (λ (z : B). 44 ∷ text z) ys ++ 44 ∷ text y
flat_more {B} text ys y =
    flat_map-append (λ (z : B). 44 ∷ text z) ys (y ∷ [])
    ∙ ap (λ (zs : List ℕ). flat_map (λ (z : B). 44 ∷ text z) ys ++ 44 ∷ zs) (append-nil (text y))

-- nothing is written of none
pub none_more : {A B : Type 0} (Is : A → B → Type 0) (text : B → List ℕ) (old : List ℕ)
    → WritesMore Is text [] old old
none_more Is text old = ([], tt, sym (append-nil old))

pub one_more : {A B : Type 0} (Is : A → B → Type 0) (text : B → List ℕ) (xs : List A) (x : A)
    (old mid sep new : List ℕ)
    → WritesMore Is text xs old mid → sep ≡ mid ++ 44 ∷ [] → WritesOne Is text x sep new
    → WritesMore Is text (xs ++ x ∷ []) old new
one_more {A} {B} Is text xs x old mid sep new all comma one =
    let flat : List ℕ = flat_map (λ (y : B). 44 ∷ text y) all.0 in (
      all.0 ++ one.0 ∷ [],
      each_more Is xs all.0 x one.0 all.1 one.1,
      one.2
          ∙ ap (λ (zs : List ℕ). zs ++ text one.0) comma
          ∙ append_assoc mid (44 ∷ []) (text one.0)
          ∙ ap (λ (zs : List ℕ). zs ++ 44 ∷ text one.0) all.2
          ∙ append_assoc old flat (44 ∷ text one.0)
          ∙ ap (λ (zs : List ℕ). old ++ zs) (sym (flat_more text all.0 one.0)),
    )

-- the first, and more behind it
pub first_and_more : {A B : Type 0} (Is : A → B → Type 0) (text : B → List ℕ) (x : A) (xs : List A)
    (old mid new : List ℕ)
    → WritesOne Is text x old mid → WritesMore Is text xs mid new → WritesAll Is text (x ∷ xs) old new
first_and_more {A} {B} Is text x xs old mid new one more = (
  one.0 ∷ more.0,
  (one.1, more.1),
  more.2
      ∙ ap (λ (zs : List ℕ). zs ++ flat_map (λ (y : B). 44 ∷ text y) more.0) one.2
      ∙ append_assoc old (text one.0) (flat_map (λ (y : B). 44 ∷ text y) more.0),
)

-- one behind others, or alone
pub last_written : {A B : Type 0} (Is : A → B → Type 0) (text : B → List ℕ) (xs : List A) (x : A)
    (is_first : Bool) (old mid new : List ℕ)
    → WritesAll Is text xs old mid → is_first ≡ is_none xs
    → WritesOne Is text x (cond is_first mid (mid ++ 44 ∷ [])) new → WritesAll Is text (xs ++ x ∷ []) old new
last_written {A} {B} Is text xs x is_first old mid new all is one = by_lists xs all.0 is all.1 all.2
  where
    by_lists : (zs : List A) (ys : List B) → is_first ≡ is_none zs → AreEach Is zs ys
        → mid ≡ old ++ join_by text (44 ∷ []) ys → WritesAll Is text (zs ++ x ∷ []) old new
    by_lists [] [] first each there = (
      one.0 ∷ [],
      (one.1, tt),
      one.2
          ∙ ap (λ (b : Bool). cond b mid (mid ++ 44 ∷ []) ++ text one.0) first
          ∙ ap (λ (zs : List ℕ). zs ++ text one.0) (there ∙ append-nil old)
          ∙ ap (λ (zs : List ℕ). old ++ zs) (sym (append-nil (text one.0))),
    )
    by_lists (z ∷ zs) (y ∷ ys) first each there = (
      y ∷ (ys ++ one.0 ∷ []),
      (each.0, each_more Is zs ys x one.0 each.1 one.1),
      one.2
          ∙ ap (λ (b : Bool). cond b mid (mid ++ 44 ∷ []) ++ text one.0) first
          ∙ append_assoc mid (44 ∷ []) (text one.0)
          ∙ ap (λ (ws : List ℕ). ws ++ 44 ∷ text one.0) there
          ∙ append_assoc old (join_by text (44 ∷ []) (y ∷ ys)) (44 ∷ text one.0)
          ∙ ap (λ (ws : List ℕ). old ++ ws)
          (append_assoc (text y) (flat_map (λ (w : B). 44 ∷ text w) ys) (44 ∷ text one.0)
          ∙ ap (λ (ws : List ℕ). text y ++ ws) (sym (flat_more text ys one.0))),
    )
    by_lists [] (y ∷ ys) first each there = absurd each
    by_lists (z ∷ zs) [] first each there = absurd each

-- between a byte and another
pub wrapped : (first last : ℕ) (old mid after new inner : List ℕ) → mid ≡ old ++ first ∷ []
    → after ≡ mid ++ inner → new ≡ after ++ last ∷ [] → new ≡ old ++ first ∷ (inner ++ last ∷ [])
wrapped first last old mid after new inner begun within ended =
    ended
    ∙ ap (λ (zs : List ℕ). zs ++ last ∷ [])
    (within ∙ ap (λ (zs : List ℕ). zs ++ inner) begun ∙ append_assoc old (first ∷ []) inner)
    ∙ append_assoc old (first ∷ inner) (last ∷ [])

-- there are none of a list where there are none of what it is made to
pub none_of : {A B : Type 0} (f : A → B) (xs : List A) → is_none xs ≡ is_none (map f xs)
none_of f [] = refl
none_of f (x ∷ xs) = refl

-- a list is its first and the others
pub first_of : {A : Type 0} (xs : List A) (x : A) → 1 ≤ length xs → x ≡ get_or xs 0 x
    → xs ≡ x ∷ take (length xs - 1) (drop 1 xs)
first_of [] x some is = absurd (let never : ⊥ = omega (arith, some) in never)
first_of {A} (y ∷ ys) x some is =
    let longer : length (y ∷ ys) ≡ length ys + 1 = omega arith in
    let rest : take (length (y ∷ ys) - 1) ys ≡ ys =
    take_all (length (y ∷ ys) - 1) ys (omega (arith, longer)) in
    (λ j. sym is j ∷ sym rest j)
