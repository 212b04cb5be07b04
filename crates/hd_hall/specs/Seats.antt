-- Seats.
use Rattle.std.specs.Prelude.{◌≡◌, ℕ, ◌+◌, ◌*◌, ◌/◌, ◌<◌, ◌≤◌, List, [], ◌∷◌, ◌++◌, length, Some, slice_get}
use Rattle.std.specs.List.{flat_map}
use Rattle.hd_journal.specs.Openings.{Opening}
use Rattle.hd_hall.specs.Receipts.{Receipted}
use Rattle.hd_hall.specs.Submitting.{AreNext}

-- A seat: its number, its receipts in order, its parts of the ledger (1, unless it lends them) and its share
-- of what the ledger counts.
pub record SeatView : Type 0 where
  pub number : ℕ
  pub receipts : List Receipted
  pub parts : ℕ
  pub share : ℕ

-- the receipts are of this seat
abbrev pub AreOfSeat : ℕ → List Receipted → Type 0
AreOfSeat seat [] = Unit {0}
AreOfSeat seat (r ∷ rs) = (r.turn.seat ≡ seat) × AreOfSeat seat rs

-- the numbers rise, from above n
abbrev pub RiseAbove : ℕ → List Receipted → Type 0
RiseAbove n [] = Unit {0}
RiseAbove n (r ∷ rs) = (n < r.number) × RiseAbove r.number rs

-- A seat's receipts are its own and in order, each told as the next of those before it. With its part it has
-- one share for each, without it none.
pub record IsSeat (o : Opening) (s : SeatView) : Type 0 where
  pub own : AreOfSeat s.number s.receipts
  pub in_order : RiseAbove 0 s.receipts
  pub counted : s.parts ≡ 1 → s.share ≡ length s.receipts
  pub lent : s.parts ≡ 0 → s.share ≡ 0
  pub told : AreNext o s.receipts

-- the same of a seat that has its part
pub record IsWhole (s : SeatView) : Type 0 where
  pub own : AreOfSeat s.number s.receipts
  pub in_order : RiseAbove 0 s.receipts
  pub counted : s.share ≡ length s.receipts

-- There is room for as many receipts as the next multiple of sixteen, so it grows at every sixteenth alone.
abbrev pub HasRoom : ℕ → ℕ → Type 0
HasRoom count room = (count + 15) / 16 * 16 ≤ room

-- the seat while it lends its part
abbrev pub without_part : SeatView → SeatView
without_part s = record { number = s.number; receipts = s.receipts; parts = 0; share = 0 }

-- the seat with its part
abbrev pub with_part : SeatView → SeatView
with_part s = record { number = s.number; receipts = s.receipts; parts = 1; share = length s.receipts }

-- the seat with one receipt more
abbrev pub with_receipt : SeatView → Receipted → SeatView
with_receipt s r = record {
  number = s.number;
  receipts = s.receipts ++ r ∷ [];
  parts = s.parts;
  share = s.share + 1;
}

-- The seat has its part of the ledger, and what is asked is asked from the seat of this number: its own.
abbrev pub IsAskedFrom : SeatView → ℕ → Type 0
IsAskedFrom s number = (s.parts ≡ 1) × (number ≡ s.number)

abbrev pub EachSeat : List SeatView → (SeatView → Type 0) → Type 0
EachSeat seats P = (k : ℕ) (s : SeatView) → slice_get seats k ≡ Some s → P s

-- the sum of the seats' shares
abbrev pub shares : List SeatView → ℕ
shares [] = 0
shares (s ∷ ss) = s.share + shares ss

-- the receipts of all seats
abbrev pub all_receipts : List SeatView → List Receipted
all_receipts seats = flat_map (λ s. s.receipts) seats
