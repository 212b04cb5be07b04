-- The places of a hold shelf, from 1, and the copies that stand there.
use Rattle.std.specs.Prelude.{◌≡◌, ◌≢◌, ℕ, ◌<◌, ◌≤◌, List, None, Some, IsSome}
use Rattle.std.specs.Ordering.{nat_cmp}
use Rattle.std.specs.FinMap as map
use Rattle.hd_rules.specs.declared.limits.TheConstants.{MOST_COPIES}
use Rattle.hd_shelf.specs.Taken.{AreOnBoards}

-- the least place, from 1, at which no copy stands
pub record LeastFree (copies : map.FinMap nat_cmp ℕ) (place : ℕ) : Type 0 where
  pub from_one : 1 ≤ place
  pub free : map.get copies place ≡ None
  pub least : (p : ℕ) → 1 ≤ p → p < place → IsSome (map.get copies p)

-- the copy stands at no place
abbrev pub StandsNowhere : map.FinMap nat_cmp ℕ → ℕ → Type 0
StandsNowhere copies copy = (place : ℕ) → map.get copies place ≢ Some copy

-- a place from 1 that has room
pub record IsReady (room place : ℕ) : Type 0 where
  pub from_one : 1 ≤ place
  pub has_room : place ≤ room

-- 0 is no place, a copy stands at one place at most, and copies are below their limit
pub record IsShelf (copies : map.FinMap nat_cmp ℕ) : Type 0 where
  pub none_at_zero : map.get copies 0 ≡ None
  pub apart : (p q copy : ℕ) → map.get copies p ≡ Some copy → map.get copies q ≡ Some copy → p ≡ q
  pub known : (place copy : ℕ) → map.get copies place ≡ Some copy → copy < MOST_COPIES

-- a shelf whose free places are counted by board
pub record IsCountedByBoard (copies : map.FinMap nat_cmp ℕ) (room : ℕ) (boards : List ℕ) : Type 0 where
  pub shelf : IsShelf copies
  pub above : (place : ℕ) → room < place → map.get copies place ≡ None
  pub free : AreOnBoards copies room boards
