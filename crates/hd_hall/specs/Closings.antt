-- What receipts say of a journal when the hall is closed.
use Rattle.std.specs.Prelude.{◌≡◌, ℕ, ◌-◌, ◌<◌, List, [], ◌∷◌, length, Some, slice_get}
use Rattle.std.specs.List.{All, Contains}
use Rattle.std.specs.List.Sorted.{IsPermutation}
use Rattle.hd_rules.specs.Journal.{Turn}
use Rattle.hd_journal.specs.Openings.{Opening, IsLegalSince}
use Rattle.hd_hall.specs.Receipts.{StandsAt, with_numbers}
use Rattle.hd_hall.specs.Seats.{SeatView, all_receipts, shares}

-- The turns are those that a legal journal has gone on by since the hall was opened, and they are the
-- receipts of the seats, each once, as many as the seats' shares say.
pub record AreTurnsOf (o : Opening) (turns : List Turn) (seats : List SeatView) : Type 0 where
  pub legal : IsLegalSince o turns
  pub once : IsPermutation (with_numbers 0 turns) (all_receipts seats)
  pub counted : length turns ≡ shares seats

-- In so many parts of a ledger, which are all that it has, as many turns are counted as these. So no seat has a
-- part.
abbrev pub AreAllParts : ℕ → ℕ → ℕ → List Turn → Type 0
AreAllParts all parts amount turns = (parts ≡ all) × (amount ≡ length turns)

-- There is a turn of that number, and no seat has a receipt for it.
abbrev pub IsLacking : List Turn → List SeatView → ℕ → Type 0
IsLacking turns seats number =
    (turn : Turn) × (0 < number) × (slice_get turns (number - 1) ≡ Some turn)
    × (Contains (all_receipts seats) (record { number = number; turn = turn }) → ⊥)

-- The same of a legal journal, with as many turns as the seats' shares say.
pub record LacksReceipt (o : Opening) (turns : List Turn) (seats : List SeatView) (number : ℕ)
    : Type 0 where
  pub legal : IsLegalSince o turns
  pub counted : length turns ≡ shares seats
  pub lacks : IsLacking turns seats number

-- the seats' numbers rise, from above n, and the turns of all their receipts stand in the list
abbrev pub AreThere : List Turn → ℕ → List SeatView → Type 0
AreThere turns n [] = Unit {0}
AreThere turns n (s ∷ ss) = (n < s.number) × All (StandsAt turns) s.receipts × AreThere turns s.number ss
