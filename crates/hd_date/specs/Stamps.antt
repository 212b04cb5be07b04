-- Stamps: a day with a time of day, and the texts of 18 bytes that are read as one.
use Rattle.std.specs.Prelude.{◌≡◌, ℕ, ◌+◌, ◌-◌, ◌*◌, ◌/◌, ◌%◌, ◌<◌, ◌≤◌, List, ◌++◌, Option, None, Some, All}
use Rattle.std.specs.Prelude.{codes, fold, length, slice_range, ℤ, pos, ◌+ℤ◌, ◌≤ℤ◌, ◌<ℤ◌, if◌then◌else◌}
use Rattle.std.specs.Str.{bytes_eq}
use Rattle.jiff_core.specs.Calendar.{IsCivilDate}
use Rattle.hd_day.specs.Days.{end_of_days}
use Rattle.hd_date.specs.Days.{IsCalendarDay, IsPrinted, two_digits}
use Rattle.hd_date.specs.declared.numbers.Numbers.{Numbers}
use Rattle.hd_date.specs.declared.zone.Zone.{Zone}
use Rattle.hd_date.specs.declared.zone.Zone.TheVariants.{Local, Universal}

-- A moment of local time: a day by its number, the minute of that day, and the second.
pub record Stamp : Type 0 where
  pub day : ℕ
  pub minute : ℕ
  pub second : ℕ

-- a stamp's numbers are in range
abbrev pub IsMoment : Stamp → Type 0
IsMoment stamp = (stamp.day < end_of_days) × (stamp.minute < 1440) × (stamp.second < 60)

-- a decimal digit
abbrev pub IsDigit : ℕ → Type 0
IsDigit byte = (48 ≤ byte) × (byte < 58)

-- the number that decimal digits write
abbrev pub decimal : List ℕ → ℕ
decimal digits = fold (λ n byte. 10 * n + (byte - 48)) 0 digits

-- the numbers that stand in a text of 18 bytes
abbrev pub numbers_in : List ℕ → Numbers
numbers_in text = record {
  year = decimal (slice_range text 0 4);
  month = decimal (slice_range text 4 6);
  day = decimal (slice_range text 6 8);
  hour = decimal (slice_range text 12 14);
  minute = decimal (slice_range text 14 16);
  second = decimal (slice_range text 16 18);
}

-- The numbers of the text are written in digits: so are all its bytes but the four of the zone.
pub record HasDigits (text : List ℕ) : Type 0 where
  pub year : All IsDigit (slice_range text 0 4)
  pub month : All IsDigit (slice_range text 4 6)
  pub day : All IsDigit (slice_range text 6 8)
  pub hour : All IsDigit (slice_range text 12 14)
  pub minute : All IsDigit (slice_range text 14 16)
  pub second : All IsDigit (slice_range text 16 18)

-- four blanks are local time, and three with a Z are universal time
abbrev pub zone_of : List ℕ → Option Zone
zone_of text =
    if bytes_eq (slice_range text 8 12) (codes "    ") then Some Local
    else if bytes_eq (slice_range text 8 12) (codes "   Z") then Some Universal
    else None

-- the text states local time
abbrev pub IsLocal : List ℕ → Type 0
IsLocal text = zone_of text ≡ Some Local

-- how many minutes local time is later than the zone's
abbrev pub shift : Zone → ℤ → ℤ
shift Local offset = pos 0
shift Universal offset = offset

-- the numbers are a day of the calendar
abbrev pub IsDate : Numbers → Type 0
IsDate numbers = IsCivilDate (pos numbers.year) numbers.month numbers.day

-- the numbers are a time of day
abbrev pub IsTime : Numbers → Type 0
IsTime numbers = (numbers.hour < 24) × (numbers.minute < 60) × (numbers.second < 60)

-- the minute of the day that the numbers say
abbrev pub minute_of_day : Numbers → ℕ
minute_of_day numbers = 60 * numbers.hour + numbers.minute

-- the minutes from the first minute of the year 0 to a minute of a day
abbrev pub minutes : ℕ → ℕ → ℕ
minutes day minute = 1440 * day + minute

-- a number of minutes lies in the years 0000 to 9999
abbrev pub IsInYears : ℤ → Type 0
IsInYears moment = (pos 0 ≤ℤ moment) × (moment <ℤ pos (minutes end_of_days 0))

-- the local moment of a minute of a day that is stated in a zone
abbrev pub local_moment : ℕ → ℕ → Zone → ℤ → ℤ
local_moment day minute zone offset = pos (minutes day minute) +ℤ shift zone offset

-- The text is well formed: its length, digits and zone are.
pub record IsFormed (text : List ℕ) (zone : Zone) : Type 0 where
  pub size : length text ≡ 18
  pub digits : HasDigits text
  pub stated : zone_of text ≡ Some zone

-- The text states a real day of the calendar, by its number, and a time of day, in a zone.
pub record States (text : List ℕ) (zone : Zone) (number : ℕ) : Type 0 where
  pub formed : IsFormed text zone
  pub shows : IsCalendarDay (numbers_in text).year (numbers_in text).month (numbers_in text).day number
  pub time : IsTime (numbers_in text)

-- The text shows this local moment.
pub record IsStamp (text : List ℕ) (offset : ℤ) (stamp : Stamp) : Type 0 where
  pub zone : Zone
  pub number : ℕ
  pub states : States text zone number
  pub moment : pos (minutes stamp.day stamp.minute)
      ≡ local_moment number (minute_of_day (numbers_in text)) zone offset
  pub day : stamp.day < end_of_days
  pub minute : stamp.minute < 1440
  pub second : stamp.second ≡ (numbers_in text).second

-- The text is well formed, and its day isn't on the calendar or its time is none of a day.
pub record IsUnreal (text : List ℕ) : Type 0 where
  pub zone : Zone
  pub formed : IsFormed text zone
  pub unreal : ¬ (IsDate (numbers_in text) × IsTime (numbers_in text))

-- The text states a real day and time, and its local moment lies outside the years 0000 to 9999.
pub record IsOutOfRange (text : List ℕ) (offset : ℤ) : Type 0 where
  pub zone : Zone
  pub number : ℕ
  pub states : States text zone number
  pub outside : ¬ IsInYears (local_moment number (minute_of_day (numbers_in text)) zone offset)

-- the digits of a moment's time
abbrev pub time_digits : Stamp → List ℕ
time_digits stamp =
    two_digits (stamp.minute / 60) ++ two_digits (stamp.minute % 60) ++ two_digits stamp.second

-- the text is what is printed of a stamp
abbrev pub Prints : Stamp → List ℕ → Type 0
Prints stamp text = IsPrinted stamp.day (time_digits stamp) text

-- the text is in local form: it has the length of a stamp's text and states local time
abbrev pub IsInLocalForm : List ℕ → Type 0
IsInLocalForm text = (length text ≡ 18) × IsLocal text

-- the text is what is printed of each stamp that it shows
abbrev pub IsOwnPrint : List ℕ → Type 0
IsOwnPrint text = (offset : ℤ) (stamp : Stamp) → IsStamp text offset stamp → Prints stamp text
