-- Days, by the number of days from 1 January of the year 0. The calendar is
-- that of `jiff`: the Gregorian one, in which the year 0 is a leap year.
use Rattle.std.specs.Prelude.{◌≡◌, ℕ, ◌+◌, ◌/◌, ◌%◌, List, [], ◌∷◌, ◌++◌, replicate, pos, ◌+ℤ◌}
use Rattle.jiff_core.specs.Calendar.{IsCivilDate, days_from_civil}

-- The day of this number is this day of the calendar: a
-- real one, that many days after 1 January of the year 0.
pub record IsCalendarDay (year month day number : ℕ) : Type 0 where
  pub real : IsCivilDate (pos year) month day
  pub counted : days_from_civil (pos year) month day ≡ days_from_civil (pos 0) 1 1 +ℤ pos number

-- the two decimal digits of a number below 100
abbrev pub two_digits : ℕ → List ℕ
two_digits n = (48 + n / 10) ∷ (48 + n % 10) ∷ []

-- the four decimal digits of a number below 10,000
abbrev pub four_digits : ℕ → List ℕ
four_digits n = (48 + n / 1000) ∷ (48 + n / 100 % 10) ∷ (48 + n / 10 % 10) ∷ (48 + n % 10) ∷ []

-- the text of a day of the calendar with a time of six digits, in local time: four blanks stand for its zone
abbrev pub date_text : ℕ → ℕ → ℕ → List ℕ → List ℕ
date_text year month day time =
    four_digits year ++ two_digits month ++ two_digits day ++ replicate 4 32 ++ time

-- The text is that of the day of a number with a time of six digits.
pub record IsPrinted (number : ℕ) (time text : List ℕ) : Type 0 where
  pub year : ℕ
  pub month : ℕ
  pub day : ℕ
  pub shows : IsCalendarDay year month day number
  pub spelled : text ≡ date_text year month day time
