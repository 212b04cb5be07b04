-- Records that pass a test.
use Rattle.std.proofs.Common.{arith, ◌≡◌, refl, ◌∙◌, ap, ℕ, ◌+◌, ◌≤◌, Bool, true, false, cond}
use Rattle.std.proofs.Common.{List, [], ◌∷◌, map, filter, inl, inr}
use Rattle.hd_rules.specs.Facts.{Facts}
use Rattle.hd_rules.specs.Record.{Record}
use Rattle.hd_rules.specs.Run.{IsAmong, Rising}
use Rattle.hd_clash.specs.About.{EachIsAbout}
use Rattle.hd_clash.specs.Records.{EachRecordIsKnown}
use Rattle.hd_records.specs.Survivors.{survivors_of}

pub among_filter : (P : Record → Bool) (r : Record) (rs : List Record) → IsAmong r (filter P rs)
    → IsAmong r rs
among_filter P r [] among = among
among_filter P r (x ∷ xs) among =
    by_test (P x) (λ (later : IsAmong r (filter P xs)). among_filter P r xs later) among
  where
    by_test : (b : Bool) → (IsAmong r (filter P xs) → IsAmong r xs)
        → IsAmong r (cond b (x ∷ filter P xs) (filter P xs))
        → IsAmong r (x ∷ xs)
    by_test true rest (inl same) = inl same
    by_test true rest (inr later) = inr (rest later)
    by_test false rest later = inr (rest later)

rising_less : (m n : ℕ) (rs : List Record) → m ≤ n → Rising n (survivors_of rs) → Rising m (survivors_of rs)
rising_less m n [] le rising = tt
rising_less m n (x ∷ xs) le rising = (omega (arith, le, rising.0), rising.1)

pub rising_filter : (P : Record → Bool) (m : ℕ) (rs : List Record) → Rising m (survivors_of rs)
    → Rising m (survivors_of (filter P rs))
rising_filter P m [] rising = tt
rising_filter P m (x ∷ xs) rising = by_test (P x) (rising_filter P (x.number + 1) xs rising.1)
  where
    by_test : (b : Bool) → Rising (x.number + 1) (survivors_of (filter P xs))
        → Rising m (survivors_of (cond b (x ∷ filter P xs) (filter P xs)))
    by_test true rest = (rising.0, rest)
    by_test false rest = rising_less m (x.number + 1) (filter P xs) (omega (arith, rising.0)) rest

pub known_filter : (k : Facts) (P : Record → Bool) (rs : List Record) → EachRecordIsKnown k rs
    → EachRecordIsKnown k (filter P rs)
known_filter k P [] known = tt
known_filter k P (x ∷ xs) known = by_test (P x) (known_filter k P xs known.1)
  where
    by_test : (b : Bool) → EachRecordIsKnown k (filter P xs)
        → EachRecordIsKnown k (cond b (x ∷ filter P xs) (filter P xs))
    by_test true rest = (known.0, rest)
    by_test false rest = rest

pub about_filter : (k : Facts) (P : Record → Bool) (rs : List Record) → EachIsAbout k rs
    → EachIsAbout k (filter P rs)
about_filter k P [] about = tt
about_filter k P (x ∷ xs) about = by_test (P x) (about_filter k P xs about.1)
  where
    by_test : (b : Bool) → EachIsAbout k (filter P xs)
        → EachIsAbout k (cond b (x ∷ filter P xs) (filter P xs))
    by_test true rest = (about.0, rest)
    by_test false rest = rest

-- among records whose numbers rise from one on, each number is that one or above
pub number_from : (m : ℕ) (rs : List Record) (r : Record) → Rising m (survivors_of rs) → IsAmong r rs
    → m ≤ r.number
number_from m [] r rising among = absurd among
number_from m (x ∷ xs) r rising (inl same) =
    (let is : r.number ≡ x.number = ap (λ (y : Record). y.number) same in omega (arith, is, rising.0))
number_from m (x ∷ xs) r rising (inr later) =
    (let up : x.number + 1 ≤ r.number = number_from (x.number + 1) xs r rising.1 later in
    omega (arith, up, rising.0))

-- those that pass a test are behind it
pub passes : (P : Record → Bool) (r : Record) (rs : List Record) → IsAmong r (filter P rs) → P r ≡ true
passes P r [] among = absurd among
passes P r (x ∷ xs) among =
    by_test (P x) refl (λ (later : IsAmong r (filter P xs)). passes P r xs later) among
  where
    by_test : (b : Bool) → P x ≡ b → (IsAmong r (filter P xs) → P r ≡ true)
        → IsAmong r (cond b (x ∷ filter P xs) (filter P xs))
        → P r ≡ true
    by_test true is rest (inl same) = ap P same ∙ is
    by_test true is rest (inr later) = rest later
    by_test false is rest later = rest later

-- the same function on each of them
pub map_alike : (f g : Record → Record) (rs : List Record) → ((r : Record) → IsAmong r rs → f r ≡ g r)
    → map f rs ≡ map g rs
map_alike f g [] same = refl
map_alike f g (x ∷ xs) same =
    (λ j. same x (inl refl) j ∷ map_alike f g xs (λ (r : Record) (among : IsAmong r xs). same r (inr among))
    j)

pub map_none : (f : Record → Record) (rs : List Record) → ((r : Record) → IsAmong r rs → f r ≡ r) → map f rs
    ≡ rs
map_none f [] same = refl
map_none f (x ∷ xs) same =
    (λ j. same x (inl refl) j ∷ map_none f xs (λ (r : Record) (among : IsAmong r xs). same r (inr among)) j)
