-- The first line of a text, and the first value of a line.
use Rattle.std.proofs.Common.{◌≡◌, ℕ, zero, suc, add-one, ◌+◌, ◌<◌, ◌≤◌, Bool, false, None, Some, List, []}
use Rattle.std.proofs.Common.{◌∷◌, length, take, drop, refl}
use Rattle.std.proofs.Common.{ap, ◌∙◌, arith}
use Rattle.std.specs.Prelude.{◌==◌}
use Rattle.std.specs.List.{position, position_or_len, before_first, after_first, slice_split, All}
use Rattle.std.specs.Str.Lines.{lines, lines_of_parts, strip_carriage_return}
use Rattle.std.proofs.lemmas.List.Splits.{slice_split_first, slice_split_none, length-slice_split}
use Rattle.std.proofs.lemmas.List.Sums.{fails_before_first}
use Rattle.std.proofs.lemmas.Bool.Decides.{nat_tests}
use Rattle.hd_catalogue.specs.Text.{values_of}
use Rattle.hd_catalogue.specs.Files.{lines_of}

lines_of_parts-cons : (x : List ℕ) (parts : List (List ℕ)) → 0 < length parts
    → lines_of_parts (x ∷ parts) ≡ strip_carriage_return x ∷ lines_of_parts parts
lines_of_parts-cons x [] l = absurd (omega arith)
lines_of_parts-cons x (y ∷ more) l = refl

lines_at : (bs : List ℕ) → position_or_len (λ b. b == 10) bs < length bs → lines bs
    ≡ strip_carriage_return (before_first (λ b. b == 10) bs) ∷ lines (after_first (λ b. b == 10) bs)
lines_at bs l =
    ap lines_of_parts (slice_split_first (λ b. b == 10) bs 0 l)
    ∙ lines_of_parts-cons (before_first (λ b. b == 10) bs)
    (slice_split (λ b. b == 10) (after_first (λ b. b == 10) bs))
    (omega (arith, length-slice_split (λ b. b == 10) (after_first (λ b. b == 10) bs)))

position_some : (p : ℕ → Bool) (bs : List ℕ) (n : ℕ) → Some n ≡ position p bs
    → (position_or_len p bs ≡ n) × (n < length bs)
position_some p bs n h = (grind (arith, nat_tests), grind (arith, nat_tests))

position_none : (p : ℕ → Bool) (bs : List ℕ) → None ≡ position p bs → length bs ≤ position_or_len p bs
position_none p bs h = grind (arith, nat_tests)

drop-past : (n : ℕ) (xs : List ℕ) → drop 1 (drop n xs) ≡ drop (suc n) xs
drop-past zero xs = refl
drop-past (suc n) [] = refl
drop-past (suc n) (x ∷ xs) = drop-past n xs

-- a line and its end come off the front
pub lines-front : (bs : List ℕ) (n : ℕ) → Some n ≡ position (λ b. b == 10) bs
    → lines bs ≡ strip_carriage_return (take n bs) ∷ lines (drop 1 (drop n bs))
lines-front bs n h =
    let s : (position_or_len (λ b. b == 10) bs ≡ n) × (n < length bs) = position_some (λ b. b == 10) bs n h
    in
    let past : drop 1 (drop n bs) ≡ drop (n + 1) bs = rw add-one (drop-past n bs)
    in
    rw (past, ← s.0) (lines_at bs (omega (arith, s.0, s.1)))

-- a text without an end is one line
pub lines-whole : (bs : List ℕ) → 0 < length bs → None ≡ position (λ b. b == 10) bs → lines bs ≡ bs ∷ []
lines-whole bs some h =
    let none : All (λ b. (b == 10) ≡ false) bs =
    λ k e m. fails_before_first (λ b. b == 10) bs k e (omega (arith, position_none (λ b. b == 10) bs h))
    in
    ap lines_of_parts (slice_split_none (λ b. b == 10) bs none) ∙ grind (arith, nat_tests)

-- a text that is one empty line, where it is empty
pub lines_of-some : (bs : List ℕ) → 0 < length bs → lines_of bs ≡ lines bs
lines_of-some [] h = absurd (omega arith)
lines_of-some (b ∷ bs) h = refl

pub lines_of-whole : (bs : List ℕ) → None ≡ position (λ b. b == 10) bs → lines_of bs ≡ bs ∷ []
lines_of-whole [] h = refl
lines_of-whole (b ∷ bs) h = lines-whole (b ∷ bs) (omega arith) h

pub position-nonempty : (p : ℕ → Bool) (bs : List ℕ) (n : ℕ) → Some n ≡ position p bs → 0 < length bs
position-nonempty p bs n h = omega (arith, (position_some p bs n h).1)

-- a value and its bar come off the front
pub values-front : (bs : List ℕ) (n : ℕ) → Some n ≡ position (λ b. b == 124) bs
    → values_of bs ≡ take n bs ∷ values_of (drop 1 (drop n bs))
values-front bs n h =
    let s : (position_or_len (λ b. b == 124) bs ≡ n) × (n < length bs) =
    position_some (λ b. b == 124) bs n h in
    let past : drop 1 (drop n bs) ≡ drop (n + 1) bs = rw add-one (drop-past n bs) in
    rw (past, ← s.0) (slice_split_first (λ b. b == 124) bs 0 (omega (arith, s.0, s.1)))

-- a line without a bar is one value
pub values-whole : (bs : List ℕ) → None ≡ position (λ b. b == 124) bs → values_of bs ≡ bs ∷ []
values-whole bs h =
    let none : All (λ b. (b == 124) ≡ false) bs =
    λ k e m. fails_before_first (λ b. b == 124) bs k e (omega (arith, position_none (λ b. b == 124) bs h)) in
    slice_split_none (λ b. b == 124) bs none
