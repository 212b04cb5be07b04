-- The numbers of days.
use Rattle.std.proofs.Common.{◌≡◌, ℕ, suc, zero, ◌+◌, ◌<◌, ◌≤◌, inl, inr, ⊎_elim, ℤ, pos, negsuc, neg_ℤ}
use Rattle.std.proofs.Common.{unsigned_abs, ◌+ℤ◌, ◌<ℤ◌, ◌≤ℤ◌}
use Rattle.std.proofs.Common.{Option, None, Some, SomeIff, refl, sym, ap, subst, ◌∙◌, arith, rules}
use Rattle.std.proofs.lemmas.Bool.{cases_lt}
use Rattle.jiff_core.specs.Calendar.{IsCivilDate, day_count, days_from_civil, days_of_months, days_of_years}
use Rattle.jiff_core.specs.Date.{epoch_day}
use Rattle.jiff_core.specs.declared.civil.date.Date.{Date}
use Rattle.jiff_core.proofs.DateLemmas.{IsEarlier, civil, epoch_day-lt, epoch_day_same}
use Rattle.jiff_core.proofs.SignedLemmas.{signed_arith}
use Rattle.jiff_core.proofs.CalendarLemmas.{day_count-end, days_from_civil-day_count}
use Rattle.jiff_core.proofs.DateLemmas.{days_from_civil-next_year}
use Rattle.hd_day.specs.Days.{end_of_days}
use Rattle.hd_date.specs.Days.{IsCalendarDay}

-- a number below the end of days is a day's
pub day_there : {r : Option ℕ} {number : ℕ} → SomeIff r (number < end_of_days) number → number < end_of_days
    → r ≡ Some number
day_there {r = None} made below = absurd (made below)
day_there {r = Some n} made below = ap Some made.1

-- 0000-01-01 is 719,528 days before 1970-01-01
pub day_zero : days_from_civil (pos 0) 1 1 ≡ neg_ℤ (pos 719_528)
unfolding days_from_civil day_count days_of_years days_of_months
day_zero = refl

zero_date : Date
zero_date = record {
  year = pos 0;
  month = 1;
  day = 1;
  year_in = search rules;
  month_in = search rules;
  day_in = search rules;
}

-- a date of a year before 0 has a smaller number
pub before_zero : (d : Date) → d.year <ℤ pos 0 → epoch_day d <ℤ neg_ℤ (pos 719_528)
unfolding zero_date
before_zero d h = subst (λ z. epoch_day d <ℤ z) day_zero (epoch_day-lt d zero_date (inl h))

-- and no other date
later : (d : Date) → IsEarlier zero_date d → neg_ℤ (pos 719_528) ≤ℤ epoch_day d
unfolding zero_date
later d h =
    let after : neg_ℤ (pos 719_528) <ℤ epoch_day d =
    subst (λ z. z <ℤ epoch_day d) day_zero (epoch_day-lt zero_date d h) in
    omega (arith, signed_arith)

in_year_zero : (d : Date) → d.year ≡ pos 0 → neg_ℤ (pos 719_528) ≤ℤ epoch_day d
unfolding zero_date
in_year_zero d year =
    ⊎_elim
    (λ (h : 1 < d.month). later d (inr (sym year, inl h)))
    (λ (h : d.month ≤ 1).
    let month : 1 ≡ d.month = omega (arith, d.month_in) in
    ⊎_elim
    (λ (k : 1 < d.day). later d (inr (sym year, inr (month, k))))
    (λ (k : d.day ≤ 1).
    let day : 1 ≡ d.day = omega (arith, d.day_in) in
    let same = day_zero ∙ refl in
    let number : epoch_day zero_date ≡ epoch_day d = epoch_day_same zero_date d (sym year) month day in
    subst (λ z. neg_ℤ (pos 719_528) ≤ℤ z) (sym day_zero ∙ number) (omega (arith, signed_arith)))
    (cases_lt 1 d.day))
    (cases_lt 1 d.month)

by_year : (d : Date) (y : ℤ) → d.year ≡ y → pos 0 ≤ℤ y → neg_ℤ (pos 719_528) ≤ℤ epoch_day d
unfolding zero_date
by_year d (pos zero) e h = in_year_zero d e
by_year d (pos (suc n)) e h =
    let after : pos 0 <ℤ pos (suc n) = omega (arith, signed_arith) in
    later d (inl (subst (λ y. pos 0 <ℤ y) (sym e) after))
by_year d (negsuc n) e h = absurd (omega (arith, signed_arith))

pub from_zero : (d : Date) → pos 0 ≤ℤ d.year → neg_ℤ (pos 719_528) ≤ℤ epoch_day d
from_zero d h = by_year d d.year refl h

-- a number that is not below 0 is its size
size_of : (y : ℤ) → (y <ℤ pos 0 → ⊥) → pos (unsigned_abs y) ≡ y
size_of (pos n) h = refl
size_of (negsuc n) h = absurd (h (omega (arith, signed_arith)))

-- a date is on the calendar on the day of its number
pub shown : (d : Date) (number : ℕ) → epoch_day d +ℤ pos 4_371_587 ≡ pos (number + 3_652_059)
    → IsCalendarDay (unsigned_abs d.year) d.month d.day number
shown d number e =
    let year : pos (unsigned_abs d.year) ≡ d.year =
    size_of d.year (λ early. let low = before_zero d early in omega (arith, signed_arith)) in
    let counted : epoch_day d ≡ days_from_civil (pos 0) 1 1 +ℤ pos number =
    omega (arith, signed_arith, day_zero) in
    record {
      real = subst (λ y. IsCivilDate y d.month d.day) (sym year) (civil d);
      counted = subst (λ y. days_from_civil y d.month d.day ≡ days_from_civil (pos 0) 1 1 +ℤ pos number)
          (sym year) counted;
    }

-- the same of the date that was made from a year, a month and a day
pub made : (d : Date) (year month day number : ℕ) → d.year ≡ pos year → d.month ≡ month → d.day ≡ day
    → epoch_day d +ℤ pos 4_371_587 ≡ pos (number + 3_652_059) → IsCalendarDay year month day number
made d year month day number y m k e =
    let size : unsigned_abs d.year ≡ year = ap unsigned_abs y in
    subst (λ a. IsCalendarDay a month day number) size
    (subst (λ a. IsCalendarDay (unsigned_abs d.year) a day number) m
    (subst (λ a. IsCalendarDay (unsigned_abs d.year) d.month a number) k (shown d number e)))

-- 9999-12-31 is 3,652,424 days after 0000-01-01
pub last_day : days_from_civil (pos 9999) 12 31 ≡ days_from_civil (pos 0) 1 1 +ℤ pos 3_652_424
last_day =
    let next = days_from_civil-next_year (pos 9999) (pos 10000) (omega (arith, signed_arith)) refl in
    let counted = days_from_civil-day_count (pos 10000) 1 1 in
    omega (arith, signed_arith, next, counted, day_count-end, day_zero)

-- 1970-01-01 is 719,528 days after 0000-01-01
pub day_of_clocks : days_from_civil (pos 1970) 1 1 ≡ days_from_civil (pos 0) 1 1 +ℤ pos 719_528
unfolding days_from_civil day_count days_of_years days_of_months
day_of_clocks = refl
