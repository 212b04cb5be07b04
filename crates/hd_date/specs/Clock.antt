-- Clocks: seconds since 1 January 1970, and the stamp of a moment.
use Rattle.std.specs.Prelude.{◌≡◌, ℕ, ◌+◌, ◌*◌, Option, None, Some, ℤ, pos, ◌+ℤ◌, ◌*ℤ◌, ◌≤ℤ◌, ◌<ℤ◌}
use Rattle.hd_day.specs.Days.{end_of_days}
use Rattle.hd_date.specs.Stamps.{IsMoment, Stamp, minutes}

-- the number of 1 January 1970, the day on which clocks begin
abbrev pub first_day : ℕ
first_day = 719_528

-- the seconds from the first moment of the year 0 to a second of a minute of a day
abbrev pub seconds : ℕ → ℕ → ℕ → ℕ
seconds day minute second = 60 * minutes day minute + second

-- A clock tells how many seconds have gone since 1 January 1970, 00:00, of universal time, and local time is
-- so many minutes later: the local moment, in seconds from the first moment of the year 0.
abbrev pub local_second : ℤ → ℤ → ℤ
local_second told offset = told +ℤ pos (seconds first_day 0 0) +ℤ offset *ℤ pos 60

-- that moment lies in the years 0000 to 9999
abbrev pub IsTold : ℤ → ℤ → Type 0
IsTold told offset =
    (pos 0 ≤ℤ local_second told offset) × (local_second told offset <ℤ pos (seconds end_of_days 0 0))

-- The stamp is that moment's.
pub record IsStampAt (told offset : ℤ) (stamp : Stamp) : Type 0 where
  pub in_range : IsMoment stamp
  pub moment : pos (seconds stamp.day stamp.minute stamp.second) ≡ local_second told offset

-- the first moment of the year 0
abbrev pub first_stamp : Stamp
first_stamp = record { day = 0; minute = 0; second = 0 }

-- The present where a clock tells this, or tells nothing: its moment's stamp, and the first moment of the
-- year 0 where it has none in the years 0000 to 9999.
abbrev pub IsPresent : Option ℕ → ℤ → Stamp → Type 0
IsPresent None offset stamp = stamp ≡ first_stamp
IsPresent (Some told) offset stamp =
    (IsTold (pos told) offset → IsStampAt (pos told) offset stamp)
    × (¬ IsTold (pos told) offset → stamp ≡ first_stamp)
