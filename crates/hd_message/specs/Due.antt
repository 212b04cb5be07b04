-- Days as they are printed where something is due on them or ends with them.
use Rattle.std.specs.Prelude.{ℕ, zero, suc, ◌+◌, List, codes, nat_lt, pos, if◌then◌else◌}
use Rattle.jiff_core.specs.Calendar.{days_in_month}
use Rattle.hd_date.specs.Days.{date_text}

-- A date of the Gregorian calendar.
pub record Date : Type 0 where
  pub year : ℕ
  pub month : ℕ
  pub day : ℕ

-- the date after a date: the next day of its month, or the first of the next month or of the next year
abbrev pub next_date : Date → Date
next_date date =
    if nat_lt date.day (days_in_month (pos date.year) date.month)
    then record { year = date.year; month = date.month; day = date.day + 1 }
    else if nat_lt date.month 12 then record { year = date.year; month = date.month + 1; day = 1 }
    else record { year = date.year + 1; month = 1; day = 1 }

-- the date that many days after 1 January of the year 0
unfoldable pub date_of : ℕ → Date
date_of zero = record { year = 0; month = 1; day = 1 }
date_of (suc n) = next_date (date_of n)

-- a day's text: its date at 23:59:00 in local time
abbrev pub due_text : ℕ → List ℕ
due_text day = date_text (date_of day).year (date_of day).month (date_of day).day (codes "235900")
