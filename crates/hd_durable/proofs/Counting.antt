-- The turns that were answered, counted; and those since a number of them.
use Rattle.std.proofs.Common.{arith, ◌≡◌, refl, ap, subst, ℕ, zero, suc, ◌+◌, ◌-◌, ◌<◌, ◌≤◌, List, []}
use Rattle.std.proofs.Common.{◌∷◌, ◌++◌, length, take, drop}
use Rattle.std.proofs.Common.{Option, None, Some, slice_get, ◌∙◌, length-append, take-append-drop}
use Rattle.hd_rules.specs.Journal.{Turn}

-- as many as there are, at most
pub took : (n : ℕ) (xs : List Turn) → n ≤ length xs → n ≡ length (take n xs)
took zero [] few = refl
took zero (x ∷ xs) few = refl
took (suc n) [] few = absurd (omega (arith, few))
took (suc n) (x ∷ xs) few = ap suc (took n xs (omega (arith, few)))

got_past : (n k : ℕ) (xs : List Turn) → n ≤ k → slice_get (take n xs) k ≡ None
got_past zero k [] past = refl
got_past zero k (x ∷ xs) past = refl
got_past (suc n) k [] past = refl
got_past (suc n) zero (x ∷ xs) past = absurd (omega (arith, past))
got_past (suc n) (suc k) (x ∷ xs) past = got_past n k xs (omega (arith, past))

got_within : (n k : ℕ) (xs : List Turn) → k < n → slice_get (take n xs) k ≡ slice_get xs k
got_within zero k xs within = absurd (omega (arith, within))
got_within (suc n) k [] within = refl
got_within (suc n) zero (x ∷ xs) within = refl
got_within (suc n) (suc k) (x ∷ xs) within = got_within n k xs (omega (arith, within))

-- of those since
pub since_more : (n : ℕ) (turns more : List Turn) → n ≤ length turns
    → drop n (turns ++ more) ≡ drop n turns ++ more
since_more zero turns more few = refl
since_more (suc n) [] more few = absurd (omega (arith, few))
since_more (suc n) (turn ∷ turns) more few = since_more n turns more (omega (arith, few))

pub before_more : (n : ℕ) (turns more : List Turn) → n ≤ length turns → take n (turns ++ more) ≡ take n turns
before_more zero [] more few = refl
before_more zero (turn ∷ turns) more few = refl
before_more (suc n) [] more few = absurd (omega (arith, few))
before_more (suc n) (turn ∷ turns) more few =
    ap (λ (ts : List Turn). turn ∷ ts) (before_more n turns more (omega (arith, few)))

pub since_length : (n : ℕ) (turns : List Turn) → n ≤ length turns → length turns - n ≡ length (drop n turns)
since_length zero turns few = omega arith
since_length (suc n) [] few = absurd (omega (arith, few))
since_length (suc n) (turn ∷ turns) few =
    let rest = since_length n turns (omega (arith, few)) in
    omega (arith, rest, few)

since_got : (n k : ℕ) (turns : List Turn) → slice_get turns (n + k) ≡ slice_get (drop n turns) k
since_got zero k turns = let e : 0 + k ≡ k = omega arith in ap (slice_get turns) e
since_got (suc n) k [] = refl
since_got (suc n) k (turn ∷ turns) =
    let e : suc n + k ≡ suc (n + k) = omega arith in
    ap (slice_get (turn ∷ turns)) e ∙ since_got n k turns

none_past : (k : ℕ) (turns : List Turn) → length turns ≤ k → slice_get turns k ≡ None
none_past k [] past = refl
none_past zero (turn ∷ turns) past = absurd (omega (arith, past))
none_past (suc k) (turn ∷ turns) past = none_past k turns (omega (arith, past))

-- none yet
pub since_all : (turns : List Turn) → drop (length turns) turns ≡ []
since_all [] = refl
since_all (turn ∷ turns) = since_all turns
