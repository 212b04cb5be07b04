-- The boards that have a free place, counted by bay, and the first of them.
use Rattle.std.proofs.Common.{◌≡◌, ◌≢◌, ℕ, ◌+◌, ◌-◌, ◌*◌, ◌/◌, ◌<◌, ◌≤◌, true, false, cond, List, length}
use Rattle.std.proofs.Common.{get_or, set, drop}
use Rattle.std.proofs.Common.{None, Some, sym, ap, ◌∙◌, inl, inr, arith, get_or-set_same, get_or-set_other}
use Rattle.std.proofs.Common.{length-set}
use Rattle.std.proofs.Common.{length-drop}
use Rattle.std.specs.Prelude.{slice_index, nat_lt, position}
use Rattle.std.specs.List.{position_or_len}
use Rattle.std.proofs.lemmas.Bool.{cases_lt, lt-ltb, le-ltb, ltb-true, ltb-false}
use Rattle.std.proofs.lemmas.List.{get_or_past, get_or-drop}
use Rattle.std.proofs.lemmas.List.Sums.{position_or_len_is, fails_before_first}
use Rattle.std.proofs.lemmas.List.Quantifiers.{position-Some}
use Rattle.std.proofs.lemmas.Option.{none-some}
use Rattle.hd_shelf.specs.declared.boards.TheConstants.{SPAN}
use Rattle.hd_shelf.specs.Taken.{AreCounts, AreInBays, has_free}
use Rattle.hd_shelf.proofs.CountLemmas.{AreCounts-le, AreCounts-some, AreCounts-none, AreCounts-begins}
use Rattle.hd_shelf.proofs.CountLemmas.{AreCounts-agree, AreCounts-longer}
use Rattle.hd_shelf.proofs.CountLemmas.{AreCounts-raise, AreCounts-lower}

-- a write leaves the other boards as they are
written_elsewhere : (boards : List ℕ) (board value k : ℕ) → k ≢ board
    → has_free boards k ≡ has_free (set boards board value) k
written_elsewhere boards board value k apart =
    ap (nat_lt 0) (sym (get_or-set_other boards board k value 0 apart))

written_here : (boards : List ℕ) (board value : ℕ) → board < length boards
    → has_free (set boards board value) board ≡ nat_lt 0 value
written_here boards board value within = ap (nat_lt 0) (get_or-set_same boards board value 0 within)

-- there is a bay for each board
pub bay_of : (boards bays : List ℕ) (board : ℕ) → AreInBays boards bays → board < length boards
    → board / SPAN < length bays
bay_of boards bays board are within = omega (arith, are.enough)

-- a board that has one now and had none
pub AreInBays-open : (boards bays : List ℕ) (board value : ℕ) → AreInBays boards bays
    → board < length boards → slice_index boards board ≡ 0 → 0 < value
    → AreInBays (set boards board value) (set bays (board / SPAN) (slice_index bays (board / SPAN) + 1))
AreInBays-open boards bays board value are within before after = record {
  counts = AreCounts-raise (has_free boards) (has_free (set boards board value)) bays board are.counts
      (bay_of boards bays board are within)
      (le-ltb 0 (slice_index boards board) (omega arith))
      (written_here boards board value within ∙ lt-ltb 0 value after)
      (written_elsewhere boards board value);
  enough = omega (
    arith,
    are.enough,
    length-set boards board value,
    length-set bays (board / SPAN) (slice_index bays (board / SPAN) + 1),
  );
}

-- and one that has none now
pub AreInBays-close : (boards bays : List ℕ) (board value : ℕ) → AreInBays boards bays
    → board < length boards → 0 < slice_index boards board → value ≡ 0
    → AreInBays (set boards board value) (set bays (board / SPAN) (slice_index bays (board / SPAN) - 1))
AreInBays-close boards bays board value are within before after = record {
  counts = AreCounts-lower (has_free boards) (has_free (set boards board value)) bays board are.counts
      (bay_of boards bays board are within)
      (lt-ltb 0 (slice_index boards board) before)
      (written_here boards board value within ∙ le-ltb 0 value (omega arith))
      (written_elsewhere boards board value);
  enough = omega (
    arith,
    are.enough,
    length-set boards board value,
    length-set bays (board / SPAN) (slice_index bays (board / SPAN) - 1),
  );
}

-- a bay has at most all of its boards, and one where a board of it has a free place
pub bay_fits : (boards bays : List ℕ) (board : ℕ) → AreInBays boards bays → board < length boards
    → slice_index bays (board / SPAN) ≤ SPAN
bay_fits boards bays board are within =
    AreCounts-le (has_free boards) bays (board / SPAN) are.counts (bay_of boards bays board are within)

pub bay_is_open : (boards bays : List ℕ) (board : ℕ) → AreInBays boards bays → board < length boards
    → 0 < slice_index boards board → 0 < slice_index bays (board / SPAN)
bay_is_open boards bays board are within free =
    AreCounts-some (has_free boards) bays board are.counts (bay_of boards bays board are within)
    (lt-ltb 0 (slice_index boards board) free)

-- no board past the last has a free place
none_past : (boards : List ℕ) (k : ℕ) → length boards ≤ k → has_free boards k ≡ false
none_past boards k past = ap (nat_lt 0) (get_or_past boards k 0 past)

-- boards and bays behind the others have no free place
pub AreInBays-grow : (boards bays more others : List ℕ) → AreInBays boards bays
    → ((board : ℕ) → slice_index more board ≡ slice_index boards board)
    → ((bay : ℕ) → slice_index others bay ≡ slice_index bays bay) → length more ≤ SPAN * length others
    → AreInBays more others
AreInBays-grow boards bays more others are same_boards same_bays enough =
    let longer : AreCounts (has_free boards) others =
    AreCounts-longer (has_free boards) bays others are.counts same_bays
    (λ k past. none_past boards k (omega (arith, are.enough)))
    in record {
      counts = AreCounts-agree (has_free boards) (has_free more) others longer
          (λ k. ap (nat_lt 0) (sym (same_boards k)));
      enough = enough;
    }

-- the first place that passes
position_is : (boards : List ℕ) (board : ℕ) → board < length boards → has_free boards board ≡ true →
    ((k : ℕ) → k < board → has_free boards k ≡ false) → position (nat_lt 0) boards ≡ Some board
position_is boards board within on off =
    let at : position_or_len (nat_lt 0) boards ≡ board =
    position_or_len_is (nat_lt 0) boards board 0 (omega arith) off (λ _. on)
    in rw (at, lt-ltb board (length boards) within)

position_none : (boards : List ℕ) → ((k : ℕ) → k < length boards → has_free boards k ≡ false)
    → position (nat_lt 0) boards ≡ None
position_none boards off =
    let at : position_or_len (nat_lt 0) boards ≡ length boards =
    position_or_len_is (nat_lt 0) boards (length boards) 0 (omega arith) off (λ past. absurd (omega arith))
    in rw (at, le-ltb (length boards) (length boards) (omega arith))

-- none passes where there is no such place
pub none_passes : (boards : List ℕ) (k : ℕ) → position (nat_lt 0) boards ≡ None → k < length boards
    → slice_index boards k ≡ 0
none_passes boards k none within = elim (cases_lt (position_or_len (nat_lt 0) boards) (length boards)) [
  | inl there ↦
      let found : position (nat_lt 0) boards ≡ Some (position_or_len (nat_lt 0) boards) =
      ap (λ b. cond b (Some (position_or_len (nat_lt 0) boards)) None)
      (lt-ltb (position_or_len (nat_lt 0) boards) (length boards) there)
      in absurd (none-some _ (sym none ∙ found))
  | inr past ↦
      let off : nat_lt 0 (slice_index boards k) ≡ false =
      fails_before_first (nat_lt 0) boards k 0 (omega arith)
      in omega (arith, ltb-false 0 (slice_index boards k) off)
]

-- at the first that passes and before it
pub first_is_open : (boards : List ℕ) (board : ℕ) → position (nat_lt 0) boards ≡ Some board →
    (board < length boards) × (0 < slice_index boards board)
first_is_open boards board is =
    let first = position-Some (nat_lt 0) boards board 0 is
    in (first.0, ltb-true 0 (slice_index boards board) first.1)

pub closed_before_first : (boards : List ℕ) (board k : ℕ) → position (nat_lt 0) boards ≡ Some board
    → k < board → slice_index boards k ≡ 0
closed_before_first boards board k is before =
    let first = position-Some (nat_lt 0) boards board 0 is
    in omega (arith, ltb-false 0 (slice_index boards k) (first.2 k before))

-- no board of the first bays has a free place where none of these has an open board
closed_bays : (boards bays : List ℕ) (bay k : ℕ) → AreInBays boards bays → bay ≤ length bays →
    ((b : ℕ) → b < bay → slice_index bays b ≡ 0) → k < SPAN * bay → has_free boards k ≡ false
closed_bays boards bays bay k are within closed before =
    AreCounts-none (has_free boards) bays k are.counts (omega arith) (closed (k / SPAN) (omega arith))

-- where no bay has an open board, there is none
pub none_open : (boards bays : List ℕ) → AreInBays boards bays → position (nat_lt 0) bays ≡ None
    → position (nat_lt 0) boards ≡ None
none_open boards bays are none =
    position_none boards (λ k within. closed_bays boards bays (length bays) k are (omega arith)
    (λ b there. none_passes bays b none there) (omega (arith, are.enough)))

-- the first bay that has an open board begins before the last board
pub bay_begins : (boards bays : List ℕ) (bay : ℕ) → AreInBays boards bays
    → position (nat_lt 0) bays ≡ Some bay → SPAN * bay < length boards
bay_begins boards bays bay are is =
    let first = first_is_open bays bay is
    in AreCounts-begins (has_free boards) bays bay (length boards) are.counts first.0 first.1
    (none_past boards)

before_bay : (boards bays : List ℕ) (bay k : ℕ) → AreInBays boards bays → position (nat_lt 0) bays ≡ Some bay
    → k < SPAN * bay → has_free boards k ≡ false
before_bay boards bays bay k are is before =
    let first = first_is_open bays bay is
    in closed_bays boards bays bay k are (omega (arith, first.0))
    (λ b there. closed_before_first bays bay b is there) before

-- of the boards behind so many, the one after so many more
behind : (boards : List ℕ) (before k : ℕ) → before ≤ k
    → slice_index (drop before boards) (k - before) ≡ slice_index boards k
behind boards before k past =
    let there : before + (k - before) ≡ k = omega arith
    in get_or-drop before boards (k - before) 0 ∙ ap (λ i. get_or boards i 0) there

-- the first open board from that bay's first on is the first of all
pub first_in_bay : (boards bays : List ℕ) (bay before board : ℕ)
    → AreInBays boards bays → position (nat_lt 0) bays ≡ Some bay
    → before ≡ bay * SPAN → position (nat_lt 0) (drop before boards) ≡ Some board
    → position (nat_lt 0) boards ≡ Some (before + board)
first_in_bay boards bays bay before board are is begins found =
    let first = first_is_open (drop before boards) board found
    in let here : slice_index (drop before boards) board ≡ slice_index boards (before + board) =
    get_or-drop before boards board 0
    in position_is boards (before + board) (omega (arith, first.0, length-drop before boards))
    (lt-ltb 0 (slice_index boards (before + board)) (omega (arith, here, first.1)))
    (λ k there. elim (cases_lt k before) [
      | inl earlier ↦ before_bay boards bays bay k are is (omega arith)
      | inr later ↦
          let closed = closed_before_first (drop before boards) board (k - before) found (omega arith)
          in le-ltb 0 (slice_index boards k) (omega (arith, closed, behind boards before k later))
    ])

pub none_in_bay : (boards bays : List ℕ) (bay before : ℕ) → AreInBays boards bays
    → position (nat_lt 0) bays ≡ Some bay → before ≡ bay * SPAN
    → position (nat_lt 0) (drop before boards) ≡ None → position (nat_lt 0) boards ≡ None
none_in_bay boards bays bay before are is begins none =
    position_none boards (λ k within. elim (cases_lt k before) [
      | inl earlier ↦ before_bay boards bays bay k are is (omega arith)
      | inr later ↦
          let closed =
          none_passes (drop before boards) (k - before) none (omega (arith, length-drop before boards))
          in le-ltb 0 (slice_index boards k) (omega (arith, closed, behind boards before k later))
    ])
