-- What putting and taking copies keeps of a shelf, and its least free place.
use Rattle.std.proofs.Common.{◌≡◌, ◌≢◌, ℕ, ◌+◌, ◌-◌, ◌*◌, ◌/◌, ◌<◌, ◌≤◌, true, false, ◌&&◌, List, [], length}
use Rattle.std.proofs.Common.{set}
use Rattle.std.proofs.Common.{Option, None, Some, refl, sym, ap, ◌∙◌, inl, inr, arith, length-set}
use Rattle.std.specs.Prelude.{IsSome, is_none, nat_lt, slice_index, position}
use Rattle.std.proofs.lemmas.Bool.{cases_lt, lt-ltb, le-ltb, and_left, and_right, and_from, and_cases}
use Rattle.std.proofs.lemmas.Bool.{both_ways}
use Rattle.std.proofs.lemmas.Bool.Decides.{nat_tests}
use Rattle.std.proofs.lemmas.Option.{none-some}
use Rattle.std.specs.Ordering.{nat_cmp}
use Rattle.std.specs.FinMap.{FinMap, get, insert, remove, empty, get-empty}
use Rattle.hd_rules.specs.declared.limits.TheConstants.{MOST_COPIES}
use Rattle.hd_shelf.specs.declared.boards.TheConstants.{SPAN}
use Rattle.hd_shelf.specs.Taken.{AreCounts, AreOnBoards, is_free_after}
use Rattle.hd_shelf.specs.Shelf.{IsShelf, IsCountedByBoard, LeastFree, StandsNowhere}
use Rattle.hd_shelf.proofs.CopiesByPlace.{put_here, put_elsewhere, taken_here, taken_elsewhere}
use Rattle.hd_shelf.proofs.CountLemmas.{AreCounts-lt, AreCounts-some, AreCounts-none, AreCounts-begins}
use Rattle.hd_shelf.proofs.CountLemmas.{AreCounts-longer}
use Rattle.hd_shelf.proofs.CountLemmas.{AreCounts-raise, AreCounts-lower}
use Rattle.hd_shelf.proofs.BoardLemmas.{first_is_open, closed_before_first, none_passes}
use Rattle.hd_shelf.proofs.Pigeonhole.{taken_below}
use Rattle.hd_lemmas.proofs.Maps.{get-insert_number, get-remove_number}

-- no copy stands on an empty shelf
nothing_in_empty : (place copy : ℕ) → get {R = nat_cmp} empty place ≡ Some copy → ⊥
nothing_in_empty place copy e = let none = get-empty {X = ℕ} nat_cmp place in cc

-- an empty shelf is a shelf
pub IsShelf-empty : IsShelf empty
IsShelf-empty = record {
  none_at_zero = get-empty nat_cmp 0;
  known = λ place copy e. absurd (nothing_in_empty place copy e);
  apart = λ p q copy e f. absurd (nothing_in_empty p copy e);
}

known-insert : (m : FinMap nat_cmp ℕ) (k c : ℕ) → IsShelf m → c < MOST_COPIES → (place copy : ℕ)
    → get (insert m k c) place ≡ Some copy → copy < MOST_COPIES
known-insert m k c s small place copy e =
    grind (arith, nat_tests, get-insert_number m k c place, s.known place copy)

apart-insert : (m : FinMap nat_cmp ℕ) (k c : ℕ) → IsShelf m → StandsNowhere m c → (p q copy : ℕ)
    → get (insert m k c) p ≡ Some copy → get (insert m k c) q ≡ Some copy → p ≡ q
apart-insert m k c s nowhere p q copy e f =
    grind (
      arith,
      nat_tests,
      get-insert_number m k c p,
      get-insert_number m k c q,
      s.apart p q copy,
      nowhere p,
      nowhere q,
    )

-- it stays one with a copy that stood nowhere
pub IsShelf-insert : (m : FinMap nat_cmp ℕ) (k c : ℕ) → IsShelf m → 1 ≤ k → c < MOST_COPIES
    → StandsNowhere m c → IsShelf (insert m k c)
IsShelf-insert m k c s one small nowhere = record {
  none_at_zero = grind (arith, nat_tests, get-insert_number m k c 0, s.none_at_zero);
  known = known-insert m k c s small;
  apart = apart-insert m k c s nowhere;
}

known-remove : (m : FinMap nat_cmp ℕ) (k : ℕ) → IsShelf m → (place copy : ℕ)
    → get (remove m k) place ≡ Some copy → copy < MOST_COPIES
known-remove m k s place copy e = grind (arith, nat_tests, get-remove_number m k place, s.known place copy)

apart-remove : (m : FinMap nat_cmp ℕ) (k : ℕ) → IsShelf m → (p q copy : ℕ) → get (remove m k) p ≡ Some copy →
    get (remove m k) q ≡ Some copy → p ≡ q
apart-remove m k s p q copy e f =
    grind (arith, nat_tests, get-remove_number m k p, get-remove_number m k q, s.apart p q copy)

-- and without the copy of a place
pub IsShelf-remove : (m : FinMap nat_cmp ℕ) (k : ℕ) → IsShelf m → IsShelf (remove m k)
IsShelf-remove m k s = record {
  none_at_zero = grind (arith, nat_tests, get-remove_number m k 0, s.none_at_zero);
  known = known-remove m k s;
  apart = apart-remove m k s;
}

-- a place that has room and no copy is free
free_if_none : (m : FinMap nat_cmp ℕ) (room others : ℕ) → others < room → get m (others + 1) ≡ None
    → is_free_after m room others ≡ true
free_if_none m room others within none =
    and_from (nat_lt others room) (is_none (get m (others + 1))) (lt-ltb others room within) (ap is_none none)

-- one with a copy isn't
taken_if_some : (m : FinMap nat_cmp ℕ) (room others c : ℕ) → get m (others + 1) ≡ Some c
    → is_free_after m room others ≡ false
taken_if_some m room others c some =
    and_right (nat_lt others room) (is_none (get m (others + 1))) (ap is_none some)

-- nor is one without room
none_past_room : (m : FinMap nat_cmp ℕ) (room others : ℕ) → room ≤ others
    → is_free_after m room others ≡ false
none_past_room m room others past =
    and_left (nat_lt others room) (is_none (get m (others + 1))) (le-ltb others room past)

some_if_not_none : (o : Option ℕ) → is_none o ≡ false → IsSome o
some_if_not_none None e = absurd (cc e)
some_if_not_none (Some c) e = refl

-- one that has room and isn't free has a copy
some_if_taken : (m : FinMap nat_cmp ℕ) (room others : ℕ) → others < room → is_free_after m room others ≡ false
    → IsSome (get m (others + 1))
some_if_taken m room others within off =
    elim (and_cases (nat_lt others room) (is_none (get m (others + 1))) off) [
      | inl past ↦ absurd (both_ways (nat_lt others room) past (lt-ltb others room within))
      | inr taken ↦ some_if_not_none (get m (others + 1)) taken
    ]

-- there is a board for each place that has room
pub board_of : (m : FinMap nat_cmp ℕ) (room others : ℕ) (boards : List ℕ) → AreOnBoards m room boards
    → others < room → others / SPAN < length boards
board_of m room others boards are within = omega (arith, are.enough)

-- a copy at a free place lowers the count of its board
AreOnBoards-put : (m : FinMap nat_cmp ℕ) (others c room : ℕ) (boards : List ℕ) → AreOnBoards m room boards
    → others < room → get m (others + 1) ≡ None → AreOnBoards (insert m (others + 1) c) room
    (set boards (others / SPAN) (slice_index boards (others / SPAN) - 1))
AreOnBoards-put m others c room boards are within none = record {
  counts = AreCounts-lower (is_free_after m room)
      (is_free_after (insert m (others + 1) c) room) boards others are.counts
      (board_of m room others boards are within) (free_if_none m room others within none)
      (taken_if_some (insert m (others + 1) c) room others c (put_here m (others + 1) c))
      (λ q apart. ap (λ o. nat_lt q room && is_none o)
      (sym (put_elsewhere m (others + 1) c (q + 1) (λ e. apart (omega arith)))));
  enough =
      omega (arith, are.enough, length-set boards (others / SPAN) (slice_index boards (others / SPAN) - 1));
}

-- without the copy of a place there is one free place more
AreOnBoards-take : (m : FinMap nat_cmp ℕ) (others c room : ℕ) (boards : List ℕ) → AreOnBoards m room boards
    → others < room → get m (others + 1) ≡ Some c → AreOnBoards (remove m (others + 1)) room
    (set boards (others / SPAN) (slice_index boards (others / SPAN) + 1))
AreOnBoards-take m others c room boards are within some = record {
  counts = AreCounts-raise (is_free_after m room)
      (is_free_after (remove m (others + 1)) room) boards others are.counts
      (board_of m room others boards are within) (taken_if_some m room others c some)
      (free_if_none (remove m (others + 1)) room others within (taken_here m (others + 1)))
      (λ q apart. ap (λ o. nat_lt q room && is_none o)
      (sym (taken_elsewhere m (others + 1) (q + 1) (λ e. apart (omega arith)))));
  enough =
      omega (arith, are.enough, length-set boards (others / SPAN) (slice_index boards (others / SPAN) + 1));
}

-- boards behind the others have no place with room
pub counts-longer : (m : FinMap nat_cmp ℕ) (room : ℕ) (boards more : List ℕ) → AreOnBoards m room boards →
    ((board : ℕ) → slice_index more board ≡ slice_index boards board) → AreCounts (is_free_after m room) more
counts-longer m room boards more are same =
    AreCounts-longer (is_free_after m room) boards more are.counts same
    (λ k past. none_past_room m room k (omega (arith, are.enough)))

same_room : (k room : ℕ) → k ≢ room → nat_lt k room ≡ nat_lt k (room + 1)
same_room k room apart = grind (arith, nat_tests)

-- one place more that has room is one free place more
pub counts-more : (m : FinMap nat_cmp ℕ) (room : ℕ) (boards : List ℕ)
    → AreCounts (is_free_after m room) boards → room / SPAN < length boards → get m (room + 1) ≡ None
    → AreCounts (is_free_after m (room + 1)) (set boards (room / SPAN) (slice_index boards (room / SPAN) + 1))
counts-more m room boards are within none =
    AreCounts-raise (is_free_after m room) (is_free_after m (room + 1)) boards room are within
    (none_past_room m room room (omega arith))
    (free_if_none m (room + 1) room (omega arith) none)
    (λ k apart. ap (λ b. b && is_none (get m (k + 1))) (same_room k room apart))

-- and its board isn't all free before
pub board_has_room : (m : FinMap nat_cmp ℕ) (room : ℕ) (boards : List ℕ)
    → AreCounts (is_free_after m room) boards → room / SPAN < length boards
    → slice_index boards (room / SPAN) < SPAN
board_has_room m room boards are within =
    AreCounts-lt (is_free_after m room) boards room are within (none_past_room m room room (omega arith))

-- where no copy stands and no place has room, none is free
pub IsKept-empty : IsCountedByBoard empty 0 []
IsKept-empty = record {
  shelf = IsShelf-empty;
  above = λ place above. get-empty nat_cmp place;
  free = record {
    counts = record { each = λ span within. absurd (omega arith) };
    enough = omega arith;
  };
}

-- what stands at a place, by the number of the others before it
at_next : (m : FinMap nat_cmp ℕ) (k : ℕ) → 1 ≤ k → get m (k - 1 + 1) ≡ get m k
at_next m k one = let next : k - 1 + 1 ≡ k = omega arith in ap (get m) next

-- a copy that stood nowhere at a free place
pub IsKept-put : (m : FinMap nat_cmp ℕ) (k c room : ℕ) (boards : List ℕ) → IsCountedByBoard m room boards
    → 1 ≤ k → k ≤ room → get m k ≡ None → c < MOST_COPIES → StandsNowhere m c → IsCountedByBoard
    (insert m k c) room (set boards ((k - 1) / SPAN) (slice_index boards ((k - 1) / SPAN) - 1))
IsKept-put m k c room boards kept one within none small nowhere =
    let next : k - 1 + 1 ≡ k = omega arith
    in let counted = AreOnBoards-put m (k - 1) c room boards kept.free (omega arith) (at_next m k one ∙ none)
    in record {
      shelf = IsShelf-insert m k c kept.shelf one small nowhere;
      above = λ p above. put_elsewhere m k c p (λ e. omega arith) ∙ kept.above p above;
      free = rw next at counted;
    }

-- there is a free place on the board of one
pub board_is_open : (m : FinMap nat_cmp ℕ) (k room : ℕ) (boards : List ℕ) → IsCountedByBoard m room boards
    → 1 ≤ k → k ≤ room → get m k ≡ None → 0 < slice_index boards ((k - 1) / SPAN)
board_is_open m k room boards kept one within none =
    AreCounts-some (is_free_after m room) boards (k - 1) kept.free.counts
    (board_of m room (k - 1) boards kept.free (omega arith))
    (free_if_none m room (k - 1) (omega arith) (at_next m k one ∙ none))

-- a place has room where a copy stands, and it is not 0
pub in_room : (m : FinMap nat_cmp ℕ) (k c room : ℕ) → IsShelf m
    → ((place : ℕ) → room < place → get m place ≡ None) → get m k ≡ Some c → (1 ≤ k) × (k ≤ room)
in_room m k c room shelf above some =
    let positive : k ≢ 0 = λ at. (let none = shelf.none_at_zero in let here = ap (get m) at in cc)
    in (
      omega arith,
      elim (cases_lt room k) [
        | inl past ↦ let none = above k past in absurd (none-some c (sym none ∙ some))
        | inr within ↦ within
      ],
    )

-- without the copy of a place
pub IsKept-take : (m : FinMap nat_cmp ℕ) (k c room : ℕ) (boards : List ℕ)
    → IsCountedByBoard m room boards → get m k ≡ Some c → IsCountedByBoard (remove m k) room
    (set boards ((k - 1) / SPAN) (slice_index boards ((k - 1) / SPAN) + 1))
IsKept-take m k c room boards kept some =
    let within = in_room m k c room kept.shelf kept.above some
    in let next : k - 1 + 1 ≡ k = omega (arith, within.0)
    in let counted =
    AreOnBoards-take m (k - 1) c room boards kept.free (omega (arith, within.0, within.1))
    (at_next m k within.0 ∙ some)
    in record {
      shelf = IsShelf-remove m k kept.shelf;
      above = λ p above. taken_elsewhere m k p (λ e. omega (arith, within.1)) ∙ kept.above p above;
      free = rw next at counted;
    }

-- its board isn't all free before
pub board_is_not_all_free : (m : FinMap nat_cmp ℕ) (k c room : ℕ) (boards : List ℕ)
    → IsCountedByBoard m room boards → get m k ≡ Some c → slice_index boards ((k - 1) / SPAN) < SPAN
board_is_not_all_free m k c room boards kept some =
    let within = in_room m k c room kept.shelf kept.above some
    in AreCounts-lt (is_free_after m room) boards (k - 1) kept.free.counts
    (board_of m room (k - 1) boards kept.free (omega (arith, within.0, within.1)))
    (taken_if_some m room (k - 1) c (at_next m k within.0 ∙ some))

-- more boards, and as many places that have room
pub IsKept-longer : (m : FinMap nat_cmp ℕ) (room : ℕ) (boards more : List ℕ) → IsCountedByBoard m room boards
    → ((board : ℕ) → slice_index more board ≡ slice_index boards board) → length boards ≤ length more
    → IsCountedByBoard m room more
IsKept-longer m room boards more kept same longer = record {
  shelf = kept.shelf;
  above = kept.above;
  free = record {
    counts = counts-longer m room boards more kept.free same;
    enough = omega (arith, kept.free.enough);
  };
}

-- a board without a free place has a copy at each of its places that has room
taken_on_board : (m : FinMap nat_cmp ℕ) (room p : ℕ) (boards : List ℕ) → AreOnBoards m room boards → 1 ≤ p
    → p ≤ room → slice_index boards ((p - 1) / SPAN) ≡ 0 → IsSome (get m p)
taken_on_board m room p boards are one within none =
    let off =
    AreCounts-none (is_free_after m room) boards (p - 1) are.counts
    (board_of m room (p - 1) boards are (omega arith)) none
    in rw (← at_next m p one) (some_if_taken m room (p - 1) (omega arith) off)

-- the first board that has a free place begins before the last place that has room
pub board_begins : (m : FinMap nat_cmp ℕ) (room board : ℕ) (boards : List ℕ) → IsCountedByBoard m room boards
    → position (nat_lt 0) boards ≡ Some board → SPAN * board < room
board_begins m room board boards kept is =
    let first = first_is_open boards board is
    in AreCounts-begins (is_free_after m room) boards board room kept.free.counts first.0 first.1
    (none_past_room m room)

-- the least free place after those of the boards before it is the least of all
pub least_if_some : (m : FinMap nat_cmp ℕ) (room board others place : ℕ) (boards : List ℕ)
    → IsCountedByBoard m room boards → position (nat_lt 0) boards ≡ Some board → others ≡ board * SPAN
    → 1 ≤ place → get m place ≡ None → ((p : ℕ) → others < p → p < place → IsSome (get m p))
    → place ≤ room + 1 → LeastFree m place
least_if_some m room board others place boards kept is begins one none taken within = record {
  from_one = one;
  free = none;
  least = λ p from below. elim (cases_lt others p) [
    | inl later ↦ taken p later below
    | inr earlier ↦
        taken_on_board m room p boards kept.free from (omega arith)
        (closed_before_first boards board ((p - 1) / SPAN) is (omega arith))
  ];
}

-- the next after those that have room is the least where none of these is free
pub least_if_none : (m : FinMap nat_cmp ℕ) (room : ℕ) (boards : List ℕ) → IsCountedByBoard m room boards
    → position (nat_lt 0) boards ≡ None → LeastFree m (room + 1)
least_if_none m room boards kept none = record {
  from_one = omega arith;
  free = kept.above (room + 1) (omega arith);
  least = λ p from below.
      taken_on_board m room p boards kept.free from (omega arith)
      (none_passes boards ((p - 1) / SPAN) none (board_of m room (p - 1) boards kept.free (omega arith)));
}

-- each place below the least free one has a copy, so there are no more than copies
pub LeastFree-bound : (m : FinMap nat_cmp ℕ) (free : ℕ) → IsShelf m → LeastFree m free
    → free ≤ MOST_COPIES + 1
LeastFree-bound m free shelf least = taken_below m free shelf least.least

-- where no place is free, there is no more room than copies
pub room-bound : (m : FinMap nat_cmp ℕ) (room : ℕ) (boards : List ℕ) → IsCountedByBoard m room boards
    → position (nat_lt 0) boards ≡ None → room ≤ MOST_COPIES
room-bound m room boards kept none =
    omega (arith, LeastFree-bound m (room + 1) kept.shelf (least_if_none m room boards kept none))
