-- Turns by their numbers.
use Rattle.std.proofs.Common.{arith, ◌≡◌, refl, sym, ◌∙◌, ap, ℕ, ◌+◌, ◌-◌, ◌<◌, ◌≤◌, zero, suc, List, []}
use Rattle.std.proofs.Common.{◌∷◌, ◌++◌, length, take, drop, slice_get, Some, None}
use Rattle.std.proofs.Common.{cond, true, false, length-drop}
use Rattle.std.specs.Prelude.{nat_lt}
use Rattle.std.proofs.lemmas.Bool.{lt-ltb, le-ltb}
use Rattle.std.proofs.lemmas.List.{take_all}
use Rattle.std.proofs.lemmas.Option.{same_Some}
use Rattle.hd_rules.specs.Journal.{Turn}
use Rattle.hd_journal.specs.Books.{turn_numbered}
use Rattle.hd_list_rows.specs.PageValue.{PageValue}
use Rattle.hd_list_rows.specs.Pages.{page_within}
use Rattle.hd_list_rows.specs.declared.row.Row.{Row}
use Rattle.hd_list_rows.specs.Rows.{turn_row, turn_rows}

pub length_turns : (n : ℕ) (turns : List Turn) → length (turn_rows n turns) ≡ length turns
length_turns n [] = refl
length_turns n (turn ∷ turns) = ap suc (length_turns (n + 1) turns)

no_turn : {A : Type 0} (i : ℕ) (x : A) → (let xs : List A = [] in slice_get xs i ≡ Some x) → ⊥
no_turn i x is = cc

-- one element more
take_more : {A : Type 0} (count : ℕ) (xs : List A) (x : A) → slice_get xs count ≡ Some x
    → take (suc count) xs ≡ take count xs ++ x ∷ []
take_more count [] x is = absurd (no_turn count x is)
take_more {A} zero (y ∷ xs) x is = ap (λ (z : A). z ∷ []) (same_Some y x is)
take_more {A} (suc count) (y ∷ xs) x is = ap (λ (zs : List A). y ∷ zs) (take_more count xs x is)

-- behind so many
take_more_behind : {A : Type 0} (after count : ℕ) (xs : List A) (x : A)
    → slice_get xs (after + count) ≡ Some x
    → take (suc count) (drop after xs) ≡ take count (drop after xs) ++ x ∷ []
take_more_behind zero count xs x is =
    take_more count xs x (ap (slice_get xs) (let same : count ≡ 0 + count = omega arith in same) ∙ is)
take_more_behind (suc after) count [] x is = absurd (no_turn (suc after + count) x is)
take_more_behind (suc after) count (y ∷ xs) x is =
    take_more_behind after count xs x
    (ap (slice_get (y ∷ xs)) (let same : suc (after + count) ≡ suc after + count = omega arith in same) ∙ is)

-- the row of a turn stands where the turn does
row_at : (n i : ℕ) (turns : List Turn) (turn : Turn) → slice_get turns i ≡ Some turn
    → slice_get (turn_rows n turns) i ≡ Some (turn_row (n + i) turn)
row_at n i [] turn is = absurd (no_turn i turn is)
row_at n zero (first ∷ turns) turn is =
    ap (λ (t : Turn). Some (turn_row n t)) (same_Some first turn is)
    ∙ ap (λ (m : ℕ). Some (turn_row m turn)) (let same : n ≡ n + 0 = omega arith in same)
row_at n (suc i) (first ∷ turns) turn is =
    row_at (n + 1) i turns turn is
    ∙ ap (λ (m : ℕ). Some (turn_row m turn)) (let same : (n + 1) + i ≡ n + suc i = omega arith in same)

-- one row more of those behind so many
pub turns_more : (n after count : ℕ) (turns : List Turn) (turn : Turn)
    → slice_get turns (after + count) ≡ Some turn
    → take (suc count) (drop after (turn_rows n turns))
    ≡ take count (drop after (turn_rows n turns)) ++ turn_row (n + (after + count)) turn ∷ []
turns_more n after count turns turn is =
    take_more_behind after count (turn_rows n turns) (turn_row (n + (after + count)) turn)
    (row_at n (after + count) turns turn is)

-- one turn more is shown
pub one_turn : (turns : List Turn) (after place : ℕ) (turn : Turn) → after ≤ place
    → Some turn ≡ turn_numbered turns (place + 1)
    → take (place + 1 - after) (drop after (turn_rows 1 turns))
    ≡ take (place - after) (drop after (turn_rows 1 turns)) ++ turn_row (place + 1) turn ∷ []
one_turn turns after place turn le is =
    let rows : List Row = drop after (turn_rows 1 turns) in
    ap (λ (n : ℕ). take n rows)
    (let more : place + 1 - after ≡ suc (place - after) = omega (arith, le) in more)
    ∙ turns_more 1 after (place - after) turns turn
    (sym (is ∙ ap (turn_numbered turns)
    (let same : place + 1 ≡ suc (after + (place - after)) = omega (arith, le) in same)))
    ∙ ap (λ (n : ℕ). take (place - after) rows ++ turn_row n turn ∷ [])
    (let same : 1 + (after + (place - after)) ≡ place + 1 = omega (arith, le) in same)

-- the page ends before the last turn
pub page_before : (turns : List Turn) (after most place end : ℕ) (page : PageValue)
    → page ≡ record { rows = take (place - after) (drop after (turn_rows 1 turns)); next = Some end }
    → place ≡ end → end ≡ after + most → end < length turns
    → page ≡ page_within after most (turn_rows 1 turns)
page_before turns after most place end page is there far before =
    let rows : List Row = turn_rows 1 turns in
    let count : place - after ≡ most = omega (arith, there, far) in
    let longer : nat_lt (after + most) (length rows) ≡ true =
    lt-ltb (after + most) (length rows) (omega (arith, far, before, length_turns 1 turns)) in
    is ∙ (λ j. record { rows = take (count j) (drop after rows); next = Some (far j) })
    ∙ (λ j. record {
      rows = take most (drop after rows);
      next = cond (sym longer j) (Some (after + most)) None;
    })

-- the page has all turns behind so many
pub page_to_end : (turns : List Turn) (after most place : ℕ) (page : PageValue)
    → page ≡ record { rows = take (place - after) (drop after (turn_rows 1 turns)); next = None }
    → length turns ≤ place → length turns ≤ after + most
    → page ≡ page_within after most (turn_rows 1 turns)
page_to_end turns after most place page is all far =
    let rows : List Row = turn_rows 1 turns in
    let left : length (drop after rows) ≡ length rows - after = length-drop after rows in
    let one : take (place - after) (drop after rows) ≡ drop after rows =
    take_all (place - after) (drop after rows) (omega (arith, left, all, length_turns 1 turns)) in
    let other : take most (drop after rows) ≡ drop after rows =
    take_all most (drop after rows) (omega (arith, left, far, length_turns 1 turns)) in
    let shorter : nat_lt (after + most) (length rows) ≡ false =
    le-ltb (after + most) (length rows) (omega (arith, far, length_turns 1 turns)) in
    is ∙ (λ j. record {
      rows = (one ∙ sym other) j;
      next = cond (sym shorter j) (Some (after + most)) None;
    })
