-- Days as an opening file writes them: YYYYMMDD.
use Rattle.std.specs.Prelude.{◌≡◌, ℕ, ◌<◌, Bool, ◌&&◌, ◌==◌, nat_lt, nat_le, if◌then◌else◌}
use Rattle.std.specs.Prelude.{Option, None, Some}
use Rattle.std.specs.Prelude.{List, ◌∷◌, ◌++◌, codes, length, option_map, slice_index, slice_range, pos, ◌-ℤ◌}
use Rattle.std.specs.Prelude.{unsigned_abs}
use Rattle.std.specs.List.{list_all}
use Rattle.jiff_core.specs.Calendar.{days_from_civil, days_in_month}
use Rattle.hd_day.specs.Days.{end_of_days}
use Rattle.hd_date.specs.Days.{IsCalendarDay, four_digits, two_digits}
use Rattle.hd_catalogue.specs.Text.{is_digit, number_written}

-- a date in eight digits
abbrev pub date_text : ℕ → ℕ → ℕ → List ℕ
date_text year month day = four_digits year ++ two_digits month ++ two_digits day

-- The text is that of the day of a number.
pub record IsDayText (number : ℕ) (text : List ℕ) : Type 0 where
  pub in_years : number < end_of_days
  pub year : ℕ
  pub month : ℕ
  pub day : ℕ
  pub shows : IsCalendarDay year month day number
  pub spelled : text ≡ date_text year month day

-- the calendar has this date
abbrev pub is_date : ℕ → ℕ → ℕ → Bool
is_date year month day =
    nat_le 1 month && nat_le month 12 && nat_le 1 day && nat_le day (days_in_month (pos year) month)

-- how many days lie between 1 January of the year 0 and a date
unfoldable pub day_number : ℕ → ℕ → ℕ → ℕ
day_number year month day =
    unsigned_abs (days_from_civil (pos year) month day -ℤ days_from_civil (pos 0) 1 1)

-- the day of a date, where the calendar has it
abbrev pub day_on : ℕ → ℕ → ℕ → Option ℕ
day_on year month day =
    if is_date year month day && nat_lt (day_number year month day) end_of_days
    then Some (day_number year month day)
    else None

-- the day that eight digits write
unfoldable pub day_written : List ℕ → Option ℕ
day_written text =
    if (length text == 8) && list_all is_digit text
    then day_on (number_written (slice_range text 0 4)) (number_written (slice_range text 4 6))
    (number_written (slice_range text 6 8))
    else None

-- the first moment of the day of such a text, in local time, as stamps are written
abbrev pub midnight_text : List ℕ → List ℕ
midnight_text text =
    slice_index text 0 ∷ slice_index text 1 ∷ slice_index text 2 ∷ slice_index text 3 ∷ slice_index text 4
    ∷ slice_index text 5 ∷ slice_index text 6 ∷ slice_index text 7 ∷ codes "    000000"

-- a day, or none where nothing stands
abbrev pub expiry_written : List ℕ → Option (Option ℕ)
expiry_written text = if length text == 0 then Some None else option_map Some (day_written text)
