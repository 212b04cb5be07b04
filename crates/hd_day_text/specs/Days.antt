-- The text of a day: year, month and day of the month, as in 2026-11-25 (ISO 8601).
use Rattle.std.specs.Prelude.{◌≡◌, ℕ, ◌<◌, List, ◌∷◌, ◌++◌, codes, slice_index}
use Rattle.hd_day.specs.Days.{end_of_days}
use Rattle.hd_date.specs.Days.{IsCalendarDay, four_digits, two_digits}

-- a date with dashes
abbrev pub day_with_dashes : ℕ → ℕ → ℕ → List ℕ
day_with_dashes year month day = four_digits year ++ 45 ∷ two_digits month ++ 45 ∷ two_digits day

-- The text is that of the day of a number.
pub record IsDayText (number : ℕ) (text : List ℕ) : Type 0 where
  pub in_years : number < end_of_days
  pub year : ℕ
  pub month : ℕ
  pub day : ℕ
  pub shows : IsCalendarDay year month day number
  pub spelled : text ≡ day_with_dashes year month day

-- The first moment of the day of such a text, in local time, as stamps are written.
abbrev pub midnight_text : List ℕ → List ℕ
midnight_text text =
    slice_index text 0 ∷ slice_index text 1 ∷ slice_index text 2 ∷ slice_index text 3 ∷ slice_index text 5
    ∷ slice_index text 6 ∷ slice_index text 8 ∷ slice_index text 9 ∷ codes "    000000"
