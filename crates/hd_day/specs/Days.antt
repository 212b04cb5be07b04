-- Days, by the number of days from 1 January of the year 0.
use Rattle.std.specs.Prelude.{ℕ}

-- how many days the years 0000 to 9999 have: the number of the day after 31 December 9999
abbrev pub end_of_days : ℕ
end_of_days = 3_652_425
