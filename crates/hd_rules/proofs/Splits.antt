-- A legal run, split at one of its commands.
use Rattle.std.proofs.Common.{arith, ◌≡◌, refl, sym, ◌∙◌, ap, subst, ℕ, ◌+◌, ◌<◌, ◌≤◌, ◌⊎◌, inl, inr, Bool}
use Rattle.std.proofs.Common.{true, false, not, ◌==◌, eq-eqb}
use Rattle.std.proofs.Common.{List, [], ◌∷◌, ◌++◌}
use Rattle.std.specs.Prelude.{nat_lt, filter}
use Rattle.std.proofs.lemmas.Bool.{lt-ltb, le-ltb}
use Rattle.std.proofs.lemmas.List.Elements.{filter-append}
use Rattle.hd_rules.specs.Words.{Survivor}
use Rattle.hd_rules.specs.Run.{IsAmong, Rising}
use Rattle.hd_rules.specs.Depends.{before, less}
use Rattle.hd_rules.proofs.Tests.{other_number}

pub keeps : {A : Type 0} (test : A → Bool) (x : A) (xs : List A) → test x ≡ true
    → filter test (x ∷ xs) ≡ x ∷ filter test xs
keeps test x xs is = rw is refl

pub drops : {A : Type 0} (test : A → Bool) (x : A) (xs : List A) → test x ≡ false
    → filter test (x ∷ xs) ≡ filter test xs
drops test x xs is = rw is refl

-- one after another, in two parts
pub among_left : {A : Type 0} (x : A) (xs ys : List A) → IsAmong x xs → IsAmong x (xs ++ ys)
among_left x [] ys h = absurd h
among_left x (y ∷ xs) ys (inl e) = inl e
among_left x (y ∷ xs) ys (inr h) = inr (among_left x xs ys h)

pub among_right : {A : Type 0} (x : A) (xs ys : List A) → IsAmong x ys → IsAmong x (xs ++ ys)
among_right x [] ys h = h
among_right x (y ∷ xs) ys h = inr (among_right x xs ys h)

pub among_either : {A : Type 0} (x : A) (xs ys : List A) → IsAmong x (xs ++ ys) → IsAmong x xs ⊎ IsAmong x ys
among_either x [] ys h = inr h
among_either x (y ∷ xs) ys (inl e) = inl (inl e)
among_either x (y ∷ xs) ys (inr h) = more (among_either x xs ys h)
  where
    more : IsAmong x xs ⊎ IsAmong x ys → IsAmong x (y ∷ xs) ⊎ IsAmong x ys
    more (inl left) = inl (inr left)
    more (inr right) = inr right

pub record SplitAt (x : Survivor) (xs : List Survivor) : Type 0 where
  pub older : List Survivor
  pub newer : List Survivor
  pub is : xs ≡ older ++ x ∷ newer

pub among_split : (x : Survivor) (xs : List Survivor) → IsAmong x xs → SplitAt x xs
among_split x [] h = absurd h
among_split x (y ∷ xs) (inl e) = record { older = []; newer = xs; is = ap (λ (z : Survivor). z ∷ xs) (sym e) }
among_split x (y ∷ xs) (inr h) =
    let rest : SplitAt x xs = among_split x xs h in
    record { older = y ∷ rest.older; newer = rest.newer; is = ap (λ (zs : List Survivor). y ∷ zs) rest.is }

-- numbers rise
pub rising_at : (n : ℕ) (older : List Survivor) (c : Survivor) (newer : List Survivor)
    → Rising n (older ++ c ∷ newer) → n ≤ c.number
rising_at n [] c newer rising = rising.0
rising_at n (s ∷ ss) c newer rising =
    let up : s.number + 1 ≤ c.number = rising_at (s.number + 1) ss c newer rising.1 in
    let low : n ≤ s.number = rising.0 in omega arith

pub rising_after : (n : ℕ) (older : List Survivor) (c : Survivor) (newer : List Survivor)
    → Rising n (older ++ c ∷ newer) → Rising (c.number + 1) newer
rising_after n [] c newer rising = rising.1
rising_after n (s ∷ ss) c newer rising = rising_after (s.number + 1) ss c newer rising.1

pub rising_first : (n : ℕ) (xs ys : List Survivor) → Rising n (xs ++ ys) → Rising n xs
rising_first n [] ys rising = tt
rising_first n (x ∷ xs) ys rising = (rising.0, rising_first (x.number + 1) xs ys rising.1)

pub above : (n : ℕ) (d : Survivor) (ss : List Survivor) → Rising n ss → IsAmong d ss → n ≤ d.number
above n d [] rising h = absurd h
above n d (s ∷ ss) rising (inl e) = subst (λ (x : Survivor). n ≤ x.number) (sym e) rising.0
above n d (s ∷ ss) rising (inr h) =
    let up : s.number + 1 ≤ d.number = above (s.number + 1) d ss rising.1 h in
    let low : n ≤ s.number = rising.0 in omega arith

pub below : (n : ℕ) (older : List Survivor) (c : Survivor) (newer : List Survivor) (d : Survivor)
    → Rising n (older ++ c ∷ newer) → IsAmong d older → d.number < c.number
below n [] c newer d rising h = absurd h
below n (s ∷ ss) c newer d rising (inl e) =
    let up : s.number + 1 ≤ c.number = rising_at (s.number + 1) ss c newer rising.1 in
    let same : d.number ≡ s.number = ap (λ (x : Survivor). x.number) e in omega arith
below n (s ∷ ss) c newer d rising (inr h) = below (s.number + 1) ss c newer d rising.1 h

-- a survivor with a larger number is among the newer ones
pub among_newer : (n : ℕ) (older : List Survivor) (c : Survivor) (newer : List Survivor) (d : Survivor)
    → Rising n (older ++ c ∷ newer) → IsAmong d (older ++ c ∷ newer) → c.number < d.number → IsAmong d newer
among_newer n older c newer d rising h lt = cases (among_either d older (c ∷ newer) h)
  where
    cases : IsAmong d older ⊎ IsAmong d (c ∷ newer) → IsAmong d newer
    cases (inl left) = let gt : d.number < c.number = below n older c newer d rising left in
        absurd (let no : ⊥ = omega arith in no)
    cases (inr (inl e)) = let same : d.number ≡ c.number = ap (λ (x : Survivor). x.number) e in
        absurd (let no : ⊥ = omega arith in no)
    cases (inr (inr right)) = right

-- those before the command where it is split
before_none : (n m : ℕ) (ss : List Survivor) → Rising m ss → n ≤ m → before n ss ≡ []
before_none n m [] rising le = refl
before_none n m (s ∷ ss) rising le =
    let low : m ≤ s.number = rising.0 in
    let rest : before n ss ≡ [] = before_none n (s.number + 1) ss rising.1 (omega arith) in
    drops (λ (x : Survivor). nat_lt x.number n) s ss (le-ltb s.number n (omega arith)) ∙ rest

pub before_split : (n : ℕ) (older : List Survivor) (c : Survivor) (newer : List Survivor)
    → Rising n (older ++ c ∷ newer) → before c.number (older ++ c ∷ newer) ≡ older
before_split n [] c newer rising =
    drops (λ (x : Survivor). nat_lt x.number c.number) c newer (le-ltb c.number c.number (omega arith))
    ∙ before_none c.number (c.number + 1) newer rising.1 (omega arith)
before_split n (s ∷ ss) c newer rising =
    let up : s.number + 1 ≤ c.number = rising_at (s.number + 1) ss c newer rising.1 in
    keeps (λ (x : Survivor). nat_lt x.number c.number) s (ss ++ c ∷ newer)
    (lt-ltb s.number c.number (omega arith))
    ∙ ap (λ (xs : List Survivor). s ∷ xs) (before_split (s.number + 1) ss c newer rising.1)

-- all less the command
pub less_above : (n m : ℕ) (ss : List Survivor) → Rising m ss → n < m → less n ss ≡ ss
less_above n m [] rising lt = refl
less_above n m (s ∷ ss) rising lt =
    let low : m ≤ s.number = rising.0 in
    let other : (s.number == n) ≡ false = other_number s.number n (λ e. omega arith) in
    keeps (λ (x : Survivor). not (x.number == n)) s ss (ap not other)
    ∙ ap (λ (xs : List Survivor). s ∷ xs) (less_above n (s.number + 1) ss rising.1 (omega arith))

pub less_split : (n : ℕ) (older : List Survivor) (c : Survivor) (newer : List Survivor)
    → Rising n (older ++ c ∷ newer) → less c.number (older ++ c ∷ newer) ≡ older ++ newer
less_split n [] c newer rising =
    drops (λ (x : Survivor). not (x.number == c.number)) c newer (ap not (eq-eqb c.number c.number refl))
    ∙ less_above c.number (c.number + 1) newer rising.1 (omega arith)
less_split n (s ∷ ss) c newer rising =
    let up : s.number + 1 ≤ c.number = rising_at (s.number + 1) ss c newer rising.1 in
    let other : (s.number == c.number) ≡ false = other_number s.number c.number (λ e. omega arith) in
    keeps (λ (x : Survivor). not (x.number == c.number)) s (ss ++ c ∷ newer) (ap not other)
    ∙ ap (λ (xs : List Survivor). s ∷ xs) (less_split (s.number + 1) ss c newer rising.1)

pub less-append : (n : ℕ) (xs ys : List Survivor) → less n (xs ++ ys) ≡ less n xs ++ less n ys
less-append n xs ys = filter-append (λ (x : Survivor). not (x.number == n)) xs ys

-- taking one out leaves the numbers rising
pub rising_later : (n m : ℕ) (ss : List Survivor) → n ≤ m → Rising m ss → Rising n ss
rising_later n m [] le rising = tt
rising_later n m (s ∷ ss) le rising = (let low : m ≤ s.number = rising.0 in omega arith, rising.1)

pub rising_without : (n : ℕ) (older : List Survivor) (c : Survivor) (newer : List Survivor)
    → Rising n (older ++ c ∷ newer) → Rising n (older ++ newer)
rising_without n [] c newer rising =
    let low : n ≤ c.number = rising.0 in rising_later n (c.number + 1) newer (omega arith) rising.1
rising_without n (s ∷ ss) c newer rising = (rising.0, rising_without (s.number + 1) ss c newer rising.1)

-- taking one out and looking at those before a number may be done in either order
pub less_before : (m n : ℕ) (ss : List Survivor) → less m (before n ss) ≡ before n (less m ss)
less_before m n [] = refl
less_before m n (s ∷ ss) = cases (nat_lt s.number n) (not (s.number == m)) refl refl (less_before m n ss)
  where
    is_lower : Survivor → Bool
    is_lower x = nat_lt x.number n

    is_other : Survivor → Bool
    is_other x = not (x.number == m)

    cases : (a b : Bool) → nat_lt s.number n ≡ a → not (s.number == m) ≡ b
        → less m (before n ss) ≡ before n (less m ss)
        → less m (before n (s ∷ ss)) ≡ before n (less m (s ∷ ss))
    cases true true lower other rest =
        ap (filter is_other) (keeps is_lower s ss lower) ∙ keeps is_other s (before n ss) other
        ∙ ap (λ (xs : List Survivor). s ∷ xs) rest
        ∙ sym (ap (filter is_lower) (keeps is_other s ss other) ∙ keeps is_lower s (less m ss) lower)
    cases true false lower same rest =
        ap (filter is_other) (keeps is_lower s ss lower) ∙ drops is_other s (before n ss) same ∙ rest
        ∙ sym (ap (filter is_lower) (drops is_other s ss same))
    cases false true higher other rest =
        ap (filter is_other) (drops is_lower s ss higher) ∙ rest
        ∙ sym (ap (filter is_lower) (keeps is_other s ss other) ∙ drops is_lower s (less m ss) higher)
    cases false false higher same rest =
        ap (filter is_other) (drops is_lower s ss higher) ∙ rest
        ∙ sym (ap (filter is_lower) (drops is_other s ss same))
