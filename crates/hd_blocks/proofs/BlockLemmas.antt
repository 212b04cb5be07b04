-- Lemmas on lists in blocks.
use Rattle.std.proofs.Common.{◌≡◌, ℕ, zero, suc, ◌+◌, ◌*◌, ◌<◌, ◌≤◌, List, [], ◌∷◌, ◌++◌, None, length}
use Rattle.std.proofs.Common.{get_or, set}
use Rattle.std.proofs.Common.{Bool, false, IsTrue, ◌↔◌}
use Rattle.std.proofs.lemmas.Grind.{common_steps}
use Rattle.std.proofs.Common.{◌^◌, refl, ap, length-set, sym, ◌∙◌, arith, append_assoc, length-append}
use Rattle.std.proofs.Common.{slice_get, zero-add}
use Rattle.std.proofs.Math.Nat.{mul-suc, mul-le-mul_left}
use Rattle.std.proofs.lemmas.List.{append-nil}
use Rattle.std.proofs.lemmas.Option.{slice_get_past}
use Rattle.hd_blocks.specs.Blocks.{all_items, AreFilled, AreBlocks}

-- where a list isn't as long as one can be, a block more can be counted
pub not_last : (is_last : Bool) (room size : ℕ) → (IsTrue is_last ↔ 2 ^ 64 ≤ room + size) → is_last ≡ false
    → room + size < 2 ^ 64
not_last is_last room size is fails = grind (arith, common_steps, is, fails)

-- no more items than there is room for
pub joined_within : {X : Type 0} (size : ℕ) (blocks : List (List X)) → AreFilled size blocks
    → length (all_items blocks) ≤ size * length blocks
joined_within size [] filled = omega arith
joined_within size (block ∷ []) filled = omega (arith, length-append block [], mul-suc size 0)
joined_within size (block ∷ next ∷ blocks) filled =
    omega (
      arith,
      length-append block (next ++ all_items blocks),
      mul-suc size (suc (length blocks)),
      joined_within size (next ∷ blocks) filled.1,
    )

-- where all are full, an empty block may stand behind them
pub filled-begun : {X : Type 0} (size : ℕ) (blocks : List (List X)) → AreFilled size blocks
    → size * length blocks ≤ length (all_items blocks) → AreFilled size (blocks ++ [] ∷ [])
filled-begun size [] filled full = omega arith
filled-begun size (block ∷ []) filled full =
    (omega (arith, length-append block [], mul-suc size 0), omega arith)
filled-begun size (block ∷ next ∷ blocks) filled full = (
  filled.0,
  filled-begun size (next ∷ blocks) filled.1
      (omega (arith, length-append block (next ++ all_items blocks), mul-suc size (suc (length blocks)))),
)

-- and the list is the same
pub joined-begun : {X : Type 0} (blocks : List (List X)) → all_items (blocks ++ [] ∷ []) ≡ all_items blocks
joined-begun [] = refl
joined-begun (block ∷ blocks) = ap (λ xs. block ++ xs) (joined-begun blocks)

-- a block more, behind full ones
pub blocks_begun : {X : Type 0} (size count : ℕ) (blocks : List (List X))
    → AreBlocks size count blocks → size * length blocks ≤ count → size * length blocks + size < 2 ^ 64
    → AreBlocks size count (blocks ++ [] ∷ [])
blocks_begun size count blocks are full fits =
    let more : length (blocks ++ [] ∷ []) ≡ suc (length blocks) =
    omega (arith, length-append blocks ([] ∷ [])) in
    let longer : size * length (blocks ++ [] ∷ []) ≡ size * suc (length blocks) = ap (λ n. size * n) more in
    record {
      filled = filled-begun size blocks are.filled (omega (arith, are.counted));
      counted = are.counted ∙ sym (ap length (joined-begun blocks));
      room = omega (arith, mul-suc size (length blocks));
    }

-- the place behind the last item is one of this block, and there is room
pub record IsBehind {X : Type 0} (size number : ℕ) (blocks : List (List X)) : Type 0 where
  pub filled : AreFilled size blocks
  pub from : size * number ≤ length (all_items blocks)
  pub below : length (all_items blocks) < size * suc number
  pub room : length (all_items blocks) < size * length blocks

-- the same of the blocks behind a first one
behind_rest : {X : Type 0} (size number : ℕ) (block next : List X) (blocks : List (List X))
    → IsBehind size (suc number) (block ∷ next ∷ blocks) → IsBehind size number (next ∷ blocks)
behind_rest size number block next blocks h =
    let joins = length-append block (next ++ all_items blocks) in
    let first : length block ≡ size = h.filled.0 in
    record {
      filled = h.filled.1;
      from = omega (arith, joins, mul-suc size number);
      below = omega (arith, joins, mul-suc size (suc number));
      room = omega (arith, joins, mul-suc size (suc (length blocks)));
    }

-- no place behind a single block is one of another
not_beyond : {X : Type 0} (size number : ℕ) (block : List X) → IsBehind size (suc number) (block ∷ []) → ⊥
not_beyond size number block h = omega (arith, length-append block [], mul-suc size number, mul-suc size 0)

-- nor one of a first block that is full
not_first : {X : Type 0} (size : ℕ) (block next : List X) (blocks : List (List X))
    → IsBehind size 0 (block ∷ next ∷ blocks) → ⊥
not_first size block next blocks h =
    let first : length block ≡ size = h.filled.0 in
    omega (arith, length-append block (next ++ all_items blocks), mul-suc size 0)

-- no room without blocks
not_none : {X : Type 0} (size number : ℕ) → IsBehind {X = X} size number [] → ⊥
not_none size number h = omega arith

-- it is one of the blocks
pub behind_within : {X : Type 0} (size number : ℕ) (blocks : List (List X)) → IsBehind size number blocks
    → number < length blocks
behind_within {X} size number [] h = absurd (not_none {X = X} size number h)
behind_within size zero (block ∷ []) h = omega arith
behind_within size (suc number) (block ∷ []) h = absurd (not_beyond size number block h)
behind_within size zero (block ∷ next ∷ blocks) h = absurd (not_first size block next blocks h)
behind_within size (suc number) (block ∷ next ∷ blocks) h =
    let rest = behind_within size number (next ∷ blocks) (behind_rest size number block next blocks h) in
    omega arith

-- and that block has room
pub behind_room : {X : Type 0} (size number : ℕ) (blocks : List (List X)) (d : List X)
    → IsBehind size number blocks → length (get_or blocks number d) < size
behind_room {X} size number [] d h = absurd (not_none {X = X} size number h)
behind_room size zero (block ∷ []) d h = let room = h.room in
    omega (arith, length-append block [], mul-suc size 0)
behind_room size (suc number) (block ∷ []) d h = absurd (not_beyond size number block h)
behind_room size zero (block ∷ next ∷ blocks) d h = absurd (not_first size block next blocks h)
behind_room size (suc number) (block ∷ next ∷ blocks) d h =
    behind_room size number (next ∷ blocks) d (behind_rest size number block next blocks h)

-- an item more in that block is one behind the list
pub joined-pushed : {X : Type 0} (size number : ℕ) (blocks : List (List X)) (d : List X) (item : X)
    → IsBehind size number blocks
    → all_items (set blocks number (get_or blocks number d ++ item ∷ [])) ≡ all_items blocks ++ item ∷ []
joined-pushed {X} size number [] d item h = absurd (not_none {X = X} size number h)
joined-pushed size zero (block ∷ []) d item h =
    append-nil (block ++ item ∷ []) ∙ ap (λ xs. xs ++ item ∷ []) (sym (append-nil block))
joined-pushed size (suc number) (block ∷ []) d item h = absurd (not_beyond size number block h)
joined-pushed size zero (block ∷ next ∷ blocks) d item h = absurd (not_first size block next blocks h)
joined-pushed size (suc number) (block ∷ next ∷ blocks) d item h =
    ap (λ xs. block ++ xs)
    (joined-pushed size number (next ∷ blocks) d item (behind_rest size number block next blocks h))
    ∙ sym (append_assoc block (next ++ all_items blocks) (item ∷ []))

-- behind a full block
filled-set : {X : Type 0} (size number : ℕ) (block next now : List X) (blocks : List (List X))
    → length block ≡ size → AreFilled size (set (next ∷ blocks) number now)
    → AreFilled size (block ∷ set (next ∷ blocks) number now)
filled-set size zero block next now blocks full filled = (full, filled)
filled-set size (suc number) block next now blocks full filled = (full, filled)

-- and the blocks stay filled
pub filled-pushed : {X : Type 0} (size number : ℕ) (blocks : List (List X)) (d : List X) (item : X)
    → IsBehind size number blocks → AreFilled size (set blocks number (get_or blocks number d ++ item ∷ []))
filled-pushed {X} size number [] d item h = absurd (not_none {X = X} size number h)
filled-pushed size zero (block ∷ []) d item h =
    let room = behind_room size zero (block ∷ []) d h in omega (arith, length-append block (item ∷ []))
filled-pushed size (suc number) (block ∷ []) d item h = absurd (not_beyond size number block h)
filled-pushed size zero (block ∷ next ∷ blocks) d item h = absurd (not_first size block next blocks h)
filled-pushed size (suc number) (block ∷ next ∷ blocks) d item h =
    filled-set size number block next (get_or (next ∷ blocks) number d ++ item ∷ []) blocks h.filled.0
    (filled-pushed size number (next ∷ blocks) d item (behind_rest size number block next blocks h))

-- so the blocks are those of one item more
pub blocks_pushed : {X : Type 0} (size count number : ℕ) (blocks : List (List X)) (d : List X) (item : X)
    → AreBlocks size count blocks → IsBehind size number blocks
    → AreBlocks size (count + 1) (set blocks number (get_or blocks number d ++ item ∷ []))
blocks_pushed size count number blocks d item are behind = record {
  filled = filled-pushed size number blocks d item behind;
  counted = omega (
    arith,
    are.counted,
    ap length (joined-pushed size number blocks d item behind),
    length-append (all_items blocks) (item ∷ []),
  );
  room = rw length-set are.room;
}

-- a place of the first of two lists
slice_get-left : {X : Type 0} (xs ys : List X) (at : ℕ) → at < length xs
    → slice_get (xs ++ ys) at ≡ slice_get xs at
slice_get-left [] ys at within = absurd (omega arith)
slice_get-left (x ∷ xs) ys zero within = refl
slice_get-left (x ∷ xs) ys (suc at) within = slice_get-left xs ys at (omega arith)

-- a place of the second
slice_get-right : {X : Type 0} (xs ys : List X) (at further : ℕ) → further ≡ length xs + at
    → slice_get (xs ++ ys) further ≡ slice_get ys at
slice_get-right [] ys at further is = ap (slice_get ys) (is ∙ zero-add at)
slice_get-right (x ∷ xs) ys at zero is = absurd (omega arith)
slice_get-right (x ∷ xs) ys at (suc further) is = slice_get-right xs ys at further (omega arith)

-- a place of a block
pub slice_get-joined : {X : Type 0} (size number at place : ℕ) (blocks : List (List X)) (d : List X)
    → AreFilled size blocks → at < size → number < length blocks → place ≡ size * number + at
    → slice_get (all_items blocks) place ≡ slice_get (get_or blocks number d) at
slice_get-joined size number at place [] d filled low within is = absurd (omega arith)
slice_get-joined size zero at place (block ∷ []) d filled low within is =
    let same : place ≡ at = omega arith in
    ap (λ xs. slice_get xs place) (append-nil block) ∙ ap (slice_get block) same
slice_get-joined size (suc number) at place (block ∷ []) d filled low within is = absurd (omega arith)
slice_get-joined size zero at place (block ∷ next ∷ blocks) d filled low within is =
    let same : place ≡ at = omega arith in
    let first : length block ≡ size = filled.0 in
    slice_get-left block (next ++ all_items blocks) place (omega arith) ∙ ap (slice_get block) same
slice_get-joined size (suc number) at place (block ∷ next ∷ blocks) d filled low within is =
    let first : length block ≡ size = filled.0 in
    slice_get-right block (next ++ all_items blocks) (size * number + at) place
    (omega (arith, mul-suc size number))
    ∙ slice_get-joined size number at (size * number + at) (next ∷ blocks) d filled.1 low (omega arith) refl

-- a place of a block that isn't there
pub slice_get-beyond : {X : Type 0} (size number at place : ℕ) (blocks : List (List X))
    → AreFilled size blocks → length blocks ≤ number → place ≡ size * number + at
    → slice_get (all_items blocks) place ≡ None
slice_get-beyond size number at place blocks filled past is =
    slice_get_past (all_items blocks) place
    (omega (arith, joined_within size blocks filled, mul-le-mul_left size past))
