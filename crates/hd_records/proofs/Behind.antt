-- Slots behind empty ones.
use Rattle.std.proofs.Common.{arith, ◌≡◌, refl, ◌∙◌, ap, subst, ℕ, zero, suc, ◌+◌, ◌-◌, ◌<◌, ◌≤◌, List, []}
use Rattle.std.proofs.Common.{◌∷◌, ◌++◌, length, get_or, set, Option, None}
use Rattle.hd_rules.specs.Record.{Record}
use Rattle.hd_records.specs.Behind.{behind}
use Rattle.hd_records.specs.Slots.{AreNumbered, records_there}

pub length_behind : (n : ℕ) (xs : List (Option Record)) → length (behind n xs) ≡ n + length xs
length_behind zero xs = omega arith
length_behind (suc n) xs =
    (let rest : length (behind n xs) ≡ n + length xs = length_behind n xs in omega (arith, rest))

pub more_behind : (n : ℕ) (xs ys : List (Option Record)) → behind n (xs ++ ys) ≡ behind n xs ++ ys
more_behind zero xs ys = refl
more_behind (suc n) xs ys = ap (λ (zs : List (Option Record)). None ∷ zs) (more_behind n xs ys)

pub there_behind : (n : ℕ) (xs : List (Option Record)) → records_there (behind n xs) ≡ records_there xs
there_behind zero xs = refl
there_behind (suc n) xs = there_behind n xs

pub get_before : (n p : ℕ) (xs : List (Option Record)) → p < n → get_or (behind n xs) p None ≡ None
get_before zero p xs less = absurd (omega (arith, less))
get_before (suc n) zero xs less = refl
get_before (suc n) (suc p) xs less = get_before n p xs (omega (arith, less))

pub get_behind : (n q : ℕ) (xs : List (Option Record)) → get_or (behind n xs) (n + q) None ≡ get_or xs q None
get_behind zero q xs = ap (λ (m : ℕ). get_or xs m None) (let e : 0 + q ≡ q = omega arith in e)
get_behind (suc n) q xs =
    ap (λ (m : ℕ). get_or (None ∷ behind n xs) m None) (let e : suc n + q ≡ suc (n + q) = omega arith in e)
    ∙ get_behind n q xs

pub set_before : (n p : ℕ) (xs : List (Option Record)) → p < n → set (behind n xs) p None ≡ behind n xs
set_before zero p xs less = absurd (omega (arith, less))
set_before (suc n) zero xs less = refl
set_before (suc n) (suc p) xs less =
    ap (λ (zs : List (Option Record)). None ∷ zs) (set_before n p xs (omega (arith, less)))

pub set_behind : (n q : ℕ) (o : Option Record) (xs : List (Option Record)) → set (behind n xs) (n + q) o
    ≡ behind n (set xs q o)
set_behind zero q o xs = ap (λ (m : ℕ). set xs m o) (let e : 0 + q ≡ q = omega arith in e)
set_behind (suc n) q o xs =
    ap (λ (m : ℕ). set (None ∷ behind n xs) m o) (let e : suc n + q ≡ suc (n + q) = omega arith in e)
    ∙ ap (λ (zs : List (Option Record)). None ∷ zs) (set_behind n q o xs)

pub numbered_behind : (b n : ℕ) (xs : List (Option Record)) → AreNumbered (b + n) xs
    → AreNumbered b (behind n xs)
numbered_behind b zero xs numbered =
    subst (λ (m : ℕ). AreNumbered m xs) (let e : b + 0 ≡ b = omega arith in e) numbered
numbered_behind b (suc n) xs numbered =
    numbered_behind (suc b) n xs
    (subst (λ (m : ℕ). AreNumbered m xs) (let e : b + suc n ≡ suc b + n = omega arith in e) numbered)

pub set_at : (n p : ℕ) (o : Option Record) (xs : List (Option Record)) → n ≤ p → set (behind n xs) p o
    ≡ behind n (set xs (p - n) o)
set_at n p o xs le =
    ap (λ (m : ℕ). set (behind n xs) m o) (let e : p ≡ n + (p - n) = omega (arith, le) in e)
    ∙ set_behind n (p - n) o xs

pub length_pushed : (xs : List (Option Record)) (o : Option Record) → length (xs ++ o ∷ []) ≡ length xs + 1
length_pushed [] o = refl
length_pushed (x ∷ xs) o =
    (let rest : length (xs ++ o ∷ []) ≡ length xs + 1 = length_pushed xs o in omega (arith, rest))

pub length_emptied : (xs : List (Option Record)) (p : ℕ) (o : Option Record) → length (set xs p o) ≡ length xs
length_emptied [] p o = refl
length_emptied (x ∷ xs) zero o = refl
length_emptied (x ∷ xs) (suc p) o = ap suc (length_emptied xs p o)

-- slots behind others: a slot put, one set, one looked at, and the records that they have
pub ruleset one_more = (more_behind, length_behind, length_pushed)

pub ruleset one_set = (set_before, set_at, length_behind, length_emptied)

pub ruleset one_looked_at = (get_before, get_behind)

pub ruleset records_behind = (numbered_behind, length_behind, there_behind)
