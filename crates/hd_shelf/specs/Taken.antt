-- Which places of a hold shelf are free, counted by boards and by bays.
use Rattle.std.specs.Prelude.{◌≡◌, ℕ, ◌+◌, ◌*◌, ◌<◌, ◌≤◌, Bool, ◌&&◌, List, length}
use Rattle.std.specs.Prelude.{slice_index, count_by, nat_lt, is_none}
use Rattle.std.specs.List.{range_with_len}
use Rattle.std.specs.Ordering.{nat_cmp}
use Rattle.std.specs.FinMap as map
use Rattle.hd_shelf.specs.declared.boards.TheConstants.{SPAN}

-- whether the place after so many others has room and no copy
abbrev pub is_free_after : map.FinMap nat_cmp ℕ → ℕ → ℕ → Bool
is_free_after copies room others = nat_lt others room && is_none (map.get copies (others + 1))

-- whether a board has a free place, where these are free by board
abbrev pub has_free : List ℕ → ℕ → Bool
has_free boards board = nat_lt 0 (slice_index boards board)

-- how many of so many numbers, from the first on, pass a test
unfoldable pub count_from : (ℕ → Bool) → ℕ → ℕ → ℕ
count_from test first many = count_by test (range_with_len first many)

-- each count is that of the numbers of its span that pass
pub record AreCounts (test : ℕ → Bool) (counts : List ℕ) : Type 0 where
  pub each : (span : ℕ) → span < length counts → slice_index counts span ≡ count_from test (SPAN * span) SPAN

-- the boards that have a free place are counted by bay
pub record AreInBays (boards bays : List ℕ) : Type 0 where
  pub counts : AreCounts (has_free boards) bays
  pub enough : length boards ≤ SPAN * length bays

-- the free places are counted by board
pub record AreOnBoards (copies : map.FinMap nat_cmp ℕ) (room : ℕ) (boards : List ℕ) : Type 0 where
  pub counts : AreCounts (is_free_after copies room) boards
  pub enough : room ≤ SPAN * length boards
