-- The date that many days after 1 January of the year 0 is the date of the day of that number.
use Rattle.std.proofs.Common.{◌≡◌, ℕ, zero, suc, ◌+◌, ◌-◌, ◌<◌, ◌≤◌, Bool, true, false, List, codes, nat_lt}
use Rattle.std.proofs.Common.{pos, neg_ℤ, ◌+ℤ◌, ◌≤ℤ◌, refl, ap, subst}
use Rattle.std.proofs.Common.{◌∙◌, ⊎_elim, arith, rules, if◌then◌else◌}
use borrow.Author.Tests.{ltb-true, ltb-false}
use Rattle.std.proofs.lemmas.Bool.{cases_lt}
use Rattle.jiff_core.specs.Calendar.{day_count, days_from_civil, days_in_month, days_of_months, days_of_years}
use Rattle.jiff_core.proofs.CalendarLemmas.{day_count_bounds, days_from_civil-day_count, days_in_month_bounds}
use Rattle.jiff_core.proofs.DateLemmas.{days_from_civil-day, days_from_civil-next_month}
use Rattle.jiff_core.proofs.DateLemmas.{days_from_civil-next_year}
use Rattle.jiff_core.proofs.SignedLemmas.{signed_arith}
use Rattle.hd_day.specs.Days.{end_of_days}
use Rattle.hd_date.specs.Days.{IsCalendarDay, IsPrinted, date_text}
use Rattle.hd_message.specs.Due.{Date, date_of, due_text}

-- what is known of dates
pub record Dates : Type 0 where
  pub last : IsCalendarDay 9999 12 31 (end_of_days - 1)
  pub one_date : (y m d y' m' d' n : ℕ) → IsCalendarDay y m d n → IsCalendarDay y' m' d' n
      → (y ≡ y') × (m ≡ m') × (d ≡ d')

-- 0000-01-01 is 719,528 days before 1970-01-01
day_zero : days_from_civil (pos 0) 1 1 ≡ neg_ℤ (pos 719_528)
unfolding days_from_civil day_count days_of_years days_of_months
day_zero = refl

-- the day of this number has this date
abbrev IsAt : Date → ℕ → Type 0
IsAt date n = IsCalendarDay date.year date.month date.day n

-- the date after a date, by the two tests: whether the month goes on, and whether the year does
abbrev after : ℕ → ℕ → ℕ → Bool → Bool → Date
after y m d more late =
    if more then record { year = y; month = m; day = d + 1 }
    else if late then record { year = y; month = m + 1; day = 1 }
    else record { year = y + 1; month = 1; day = 1 }

-- the year 9999 has no day after the last
before_the_end : Dates → (y n : ℕ) → suc n < end_of_days → pos y ≤ℤ pos 9999 →
    days_from_civil (pos y) 12 31 ≡ days_from_civil (pos 0) 1 1 +ℤ pos n → y < 9999
before_the_end dates y n h bound counted =
    ⊎_elim
    (λ (l : y < 9999). l)
    (λ (l : 9999 ≤ y).
    let year : y ≡ 9999 = omega (arith, signed_arith) in
    let last : days_from_civil (pos 9999) 12 31 ≡ days_from_civil (pos 0) 1 1 +ℤ pos n =
    subst (λ x. days_from_civil (pos x) 12 31 ≡ days_from_civil (pos 0) 1 1 +ℤ pos n) year counted in
    let end : days_from_civil (pos 9999) 12 31 ≡ days_from_civil (pos 0) 1 1 +ℤ pos 3_652_424 =
    dates.last.counted in
    absurd (omega (arith, signed_arith, end, last)))
    (cases_lt y 9999)

next_of : Dates → (y m d n : ℕ) (more late : Bool) → nat_lt d (days_in_month (pos y) m) ≡ more
    → nat_lt m 12 ≡ late → suc n < end_of_days → IsCalendarDay y m d n → IsAt (after y m d more late) (suc n)
next_of dates y m d n true late e f h day =
    let within : d < days_in_month (pos y) m = ltb-true _ _ e in
    let moved = days_from_civil-day (pos y) m d (d + 1) day.real.2.0 (omega arith) in
    record {
      real = (day.real.0, day.real.1, (omega arith, omega arith));
      counted = omega (arith, signed_arith, moved, day.counted);
    }
next_of dates y m d n false true e f h day =
    let past : days_in_month (pos y) m ≤ d = ltb-false _ _ e in
    let end : d ≡ days_in_month (pos y) m = omega (arith, day.real.2.1) in
    let month : m < 12 = ltb-true _ _ f in
    let moved = days_from_civil-next_month (pos y) m d day.real.1.0 end in
    record {
      real = (
        day.real.0,
        (omega arith, omega arith),
        (omega arith, omega (arith, days_in_month_bounds (pos y) (m + 1))),
      );
      counted = omega (arith, signed_arith, moved, day.counted);
    }
next_of dates y m d n false false e f h day =
    let past : days_in_month (pos y) m ≤ d = ltb-false _ _ e in
    let end : d ≡ days_in_month (pos y) m = omega (arith, day.real.2.1) in
    let month : m ≡ 12 = omega (arith, ltb-false _ _ f, day.real.1.1) in
    let last : d ≡ 31 = end ∙ ap (days_in_month (pos y)) month in
    let counted : days_from_civil (pos y) 12 31 ≡ days_from_civil (pos 0) 1 1 +ℤ pos n =
    subst (λ k. days_from_civil (pos y) 12 k ≡ days_from_civil (pos 0) 1 1 +ℤ pos n) last
    (subst (λ k. days_from_civil (pos y) k d ≡ days_from_civil (pos 0) 1 1 +ℤ pos n) month day.counted) in
    let early : y < 9999 = before_the_end dates y n h day.real.0.1 counted in
    let moved = days_from_civil-next_year (pos y) (pos (y + 1)) (omega (arith, signed_arith))
    (omega (arith, signed_arith)) in
    record {
      real = (
        (omega (arith, signed_arith), omega (arith, signed_arith)),
        (omega arith, omega arith),
        (omega arith, omega (arith, days_in_month_bounds (pos (y + 1)) 1)),
      );
      counted = omega (arith, signed_arith, moved, counted);
    }

-- each day has the date that is that many days after the first
has_date : Dates → (n : ℕ) → n < end_of_days → IsAt (date_of n) n
unfolding date_of
has_date dates zero h = record { real = search rules; counted = omega (arith, signed_arith) }
has_date dates (suc n) h =
    let date = date_of n in
    next_of dates date.year date.month date.day n _ _ refl refl h (has_date dates n (omega arith))

-- the number of a day of the calendar is that of a day up to 31 December 9999
in_range : (y m d n : ℕ) → IsCalendarDay y m d n → n < end_of_days
in_range y m d n day =
    omega (
      arith,
      signed_arith,
      day.counted,
      day_zero,
      days_from_civil-day_count (pos y) m d,
      (day_count_bounds (pos y) m d day.real).1,
    )

-- what is printed of a day is its text
pub printed_is : Dates → (n : ℕ) (text : List ℕ) → IsPrinted n (codes "235900") text → text ≡ due_text n
printed_is dates n text printed =
    let date = date_of n in
    let same =
    dates.one_date _ _ _ _ _ _ n printed.shows (has_date dates n (in_range _ _ _ n printed.shows)) in
    let time = codes "235900" in
    printed.spelled
    ∙ ap (λ y. date_text y printed.month printed.day time) same.0
    ∙ ap (λ m. date_text date.year m printed.day time) same.1
    ∙ ap (λ d. date_text date.year date.month d time) same.2
