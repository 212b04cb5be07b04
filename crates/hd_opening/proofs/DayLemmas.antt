-- Days as eight digits.
use Rattle.std.proofs.Common.{◌≡◌, ℕ, ◌+◌, ◌/◌, ◌%◌, ◌<◌, ◌≤◌, Bool, true, false, List, [], ◌∷◌, length}
use Rattle.std.proofs.Common.{slice_index, codes}
use Rattle.std.proofs.Common.{zero, suc, All, ℤ, pos, ◌-ℤ◌, unsigned_abs, None, Some, refl, sym, ap, subst}
use Rattle.std.proofs.Common.{◌∙◌, arith}
use Rattle.std.specs.Prelude.{slice_range, nat_lt, ◌&&◌, ◌==◌}
use Rattle.std.specs.List.{list_all}
use Rattle.std.proofs.lemmas.Bool.{and_parts}
use Rattle.std.proofs.lemmas.Bool.Decides.{nat_tests}
use Rattle.jiff_core.specs.Calendar.{days_from_civil, days_in_month}
use Rattle.jiff_core.proofs.SignedLemmas.{signed_arith}
use Rattle.hd_day.specs.Days.{end_of_days}
use Rattle.hd_date.specs.Days.{IsCalendarDay, IsPrinted}
use Rattle.hd_date.specs.Faults.{IsFirstFault}
use Rattle.hd_date.specs.Stamps.{HasDigits, IsDigit, IsInYears, IsLocal, IsOwnPrint, IsStamp, Prints, Stamp}
use Rattle.hd_date.specs.Stamps.{local_moment, numbers_in}
use Rattle.hd_date.specs.declared.fault.DateFault.{DateFault}
use Rattle.hd_date.specs.declared.fault.DateFault.TheVariants.{Length, Digits, Zone, Calendar, Range}
use Rattle.std.proofs.lemmas.Option.{same_Some}
use Rattle.hd_lemmas.proofs.Options.{no_number, some_if}
use Rattle.hd_opening.specs.Days.{IsDayText, day_number, day_on, day_written, is_date, midnight_text}
use Rattle.hd_catalogue.specs.Text.{is_digit, number_written}

-- the first eight bytes
abbrev pub date_of : List ℕ → List ℕ
date_of text =
    slice_index text 0 ∷ slice_index text 1 ∷ slice_index text 2 ∷ slice_index text 3 ∷ slice_index text 4
    ∷ slice_index text 5
    ∷ slice_index text 6 ∷ slice_index text 7 ∷ []

-- what is printed of a day begins with its text
pub day_printed : (day : ℕ) (text : List ℕ) → day < end_of_days → IsPrinted day (codes "235900") text
    → IsDayText day (date_of text)
day_printed day text h p = record {
  in_years = h;
  year = p.year;
  month = p.month;
  day = p.day;
  shows = p.shows;
  spelled = ap date_of p.spelled;
}

-- a text of eight bytes is those
eight : (text : List ℕ) → length text ≡ 8 → text ≡ date_of text
eight [] h = absurd (omega arith)
eight (a ∷ []) h = absurd (omega arith)
eight (a ∷ b ∷ []) h = absurd (omega arith)
eight (a ∷ b ∷ c ∷ []) h = absurd (omega arith)
eight (a ∷ b ∷ c ∷ d ∷ []) h = absurd (omega arith)
eight (a ∷ b ∷ c ∷ d ∷ e ∷ []) h = absurd (omega arith)
eight (a ∷ b ∷ c ∷ d ∷ e ∷ f ∷ []) h = absurd (omega arith)
eight (a ∷ b ∷ c ∷ d ∷ e ∷ f ∷ g ∷ []) h = absurd (omega arith)
eight (a ∷ b ∷ c ∷ d ∷ e ∷ f ∷ g ∷ i ∷ []) h = refl
eight (a ∷ b ∷ c ∷ d ∷ e ∷ f ∷ g ∷ i ∷ j ∷ more) h = absurd (omega arith)

-- the first moment of a text is in local time
pub midnight_local : (text : List ℕ) → IsLocal (midnight_text text)
midnight_local text = refl

-- a text is of its first moment's day where that is what is printed of a stamp
pub day_of_print : (text : List ℕ) (stamp : Stamp) → length text ≡ 8 → stamp.day < end_of_days
    → Prints stamp (midnight_text text) → IsDayText stamp.day text
day_of_print text stamp size h p = record {
  in_years = h;
  year = p.year;
  month = p.month;
  day = p.day;
  shows = p.shows;
  spelled = eight text size ∙ ap date_of p.spelled;
}

-- the number of days before a day of the calendar
pub number_is : (year month day number : ℕ) → IsCalendarDay year month day number
    → day_number year month day ≡ number
unfolding day_number
number_is year month day number c =
    let e : days_from_civil (pos year) month day -ℤ days_from_civil (pos 0) 1 1 ≡ pos number =
    omega (arith, signed_arith, c.counted) in
    ap unsigned_abs e

-- the days of a month
month_has : (year month : ℕ) → days_in_month (pos year) month ≤ 31
month_has year month = grind (arith, nat_tests)

date_true : (year month day : ℕ) → 1 ≤ month → month ≤ 12 → 1 ≤ day → day ≤ days_in_month (pos year) month
    → is_date year month day ≡ true
date_true year month day a b c d = grind (arith, nat_tests, a, b, c, d)

digit_true : (n : ℕ) → n < 10 → is_digit (48 + n) ≡ true
digit_true n h = grind (arith, nat_tests, h)

four_read : (y : ℕ) → y < 10000
    → number_written ((48 + y / 1000) ∷ (48 + y / 100 % 10) ∷ (48 + y / 10 % 10) ∷ (48 + y % 10) ∷ []) ≡ y
four_read y h = omega (arith, h)

two_read : (n : ℕ) → n < 100 → number_written ((48 + n / 10) ∷ (48 + n % 10) ∷ []) ≡ n
two_read n h = omega (arith, h)

-- the text of a day writes it
pub day_read : (number : ℕ) (text : List ℕ) → IsDayText number text → day_written text ≡ Some number
unfolding day_written
day_read number text p =
    let real = p.shows.real in
    let year : p.year < 10000 = omega (arith, signed_arith, real.0.1) in
    let month : p.month < 100 = omega (arith, real.1.1) in
    let most = month_has p.year p.month in
    let day : p.day < 100 = omega (arith, real.2.1, most) in
    let y0 = digit_true (p.year / 1000) (omega (arith, year)) in
    let y1 = digit_true (p.year / 100 % 10) (omega arith) in
    let y2 = digit_true (p.year / 10 % 10) (omega arith) in
    let y3 = digit_true (p.year % 10) (omega arith) in
    let m0 = digit_true (p.month / 10) (omega (arith, month)) in
    let m1 = digit_true (p.month % 10) (omega arith) in
    let d0 = digit_true (p.day / 10) (omega (arith, day)) in
    let d1 = digit_true (p.day % 10) (omega arith) in
    let date = date_true p.year p.month p.day real.1.0 real.1.1 real.2.0 real.2.1 in
    let below : nat_lt number end_of_days ≡ true = grind (arith, nat_tests, p.in_years) in
    rw (
      p.spelled,
      y0,
      y1,
      y2,
      y3,
      m0,
      m1,
      d0,
      d1,
      four_read p.year year,
      two_read p.month month,
      two_read p.day day,
      date,
      number_is p.year p.month p.day number p.shows,
      below,
    ) refl

-- a text whose first moment shows a stamp writes the stamp's day
pub day_shown : ((text : List ℕ) → IsLocal text → IsOwnPrint text)
    → (text moment : List ℕ) (offset : ℤ) (stamp : Stamp) (day : ℕ) → moment ≡ midnight_text text
    → length text ≡ 8 → IsStamp moment offset stamp → day ≡ stamp.day → day_written text ≡ Some day
day_shown own text moment offset stamp day is size shows same =
    let here : IsStamp (midnight_text text) offset stamp =
    subst (λ (t : List ℕ). IsStamp t offset stamp) is shows in
    let print = own (midnight_text text) (midnight_local text) offset stamp here in
    day_read stamp.day text (day_of_print text stamp size here.day print) ∙ ap Some (sym same)

-- what eight digits write is a day of the calendar
pub record Writes (text : List ℕ) (number : ℕ) : Type 0 where
  pub digits : list_all is_digit text ≡ true
  pub date : is_date (number_written (slice_range text 0 4)) (number_written (slice_range text 4 6))
      (number_written (slice_range text 6 8)) ≡ true
  pub counted : day_number (number_written (slice_range text 0 4)) (number_written (slice_range text 4 6))
      (number_written (slice_range text 6 8)) ≡ number
  pub below : number < end_of_days

writes : (text : List ℕ) (number : ℕ) → day_written text ≡ Some number → Writes text number
unfolding day_written
writes text number h =
    let year = number_written (slice_range text 0 4) in
    let month = number_written (slice_range text 4 6) in
    let day = number_written (slice_range text 6 8) in
    let outer = some_if ((length text == 8) && list_all is_digit text) (day_on year month day) number h in
    let tests = is_date year month day && nat_lt (day_number year month day) end_of_days in
    let inner = some_if tests (Some (day_number year month day)) number outer.1 in
    let both = and_parts (is_date year month day) (nat_lt (day_number year month day) end_of_days) inner.0 in
    let same : day_number year month day ≡ number = same_Some _ _ inner.1 in
    record {
      digits = (and_parts (length text == 8) (list_all is_digit text) outer.0).1;
      date = both.0;
      counted = same;
      below = grind (arith, nat_tests, both.1, same);
    }

digit_is : (n : ℕ) → is_digit n ≡ true → IsDigit n
digit_is n h = (grind (arith, nat_tests, h), grind (arith, nat_tests, h))

four_all : (a b c d : ℕ) → IsDigit a → IsDigit b → IsDigit c → IsDigit d → All IsDigit (a ∷ b ∷ c ∷ d ∷ [])
four_all a b c d p q r s zero x k = p
four_all a b c d p q r s (suc zero) x k = q
four_all a b c d p q r s (suc (suc zero)) x k = r
four_all a b c d p q r s (suc (suc (suc zero))) x k = s
four_all a b c d p q r s (suc (suc (suc (suc i)))) x k = absurd (omega arith)

two_all : (a b : ℕ) → IsDigit a → IsDigit b → All IsDigit (a ∷ b ∷ [])
two_all a b p q zero x k = p
two_all a b p q (suc zero) x k = q
two_all a b p q (suc (suc i)) x k = absurd (omega arith)

noughts : All IsDigit (codes "00")
noughts = two_all 48 48 (omega arith, omega arith) (omega arith, omega arith)

module _ (a b c d e f g i : ℕ) where
  -- eight bytes
  abbrev pub bytes : List ℕ
  bytes = a ∷ b ∷ c ∷ d ∷ e ∷ f ∷ g ∷ i ∷ []

  has_digits : list_all is_digit bytes ≡ true → HasDigits (midnight_text bytes)
  has_digits h =
      let t0 = and_parts (is_digit a) _ h in
      let t1 = and_parts (is_digit b) _ t0.1 in
      let t2 = and_parts (is_digit c) _ t1.1 in
      let t3 = and_parts (is_digit d) _ t2.1 in
      let t4 = and_parts (is_digit e) _ t3.1 in
      let t5 = and_parts (is_digit f) _ t4.1 in
      let t6 = and_parts (is_digit g) _ t5.1 in
      let t7 = and_parts (is_digit i) _ t6.1 in
      record {
        year = four_all a b c d (digit_is a t0.0) (digit_is b t1.0) (digit_is c t2.0) (digit_is d t3.0);
        month = two_all e f (digit_is e t4.0) (digit_is f t5.0);
        day = two_all g i (digit_is g t6.0) (digit_is i t7.0);
        hour = noughts;
        minute = noughts;
        second = noughts;
      }

  year_small : HasDigits (midnight_text bytes) → (numbers_in (midnight_text bytes)).year ≤ 9999
  year_small h =
      let p : IsDigit a = h.year 0 0 (omega arith) in
      let q : IsDigit b = h.year 1 0 (omega arith) in
      let r : IsDigit c = h.year 2 0 (omega arith) in
      let s : IsDigit d = h.year 3 0 (omega arith) in
      omega (arith, p.0, p.1, q.0, q.1, r.0, r.1, s.0, s.1)

  -- a day's text is read
  no_fault : (number : ℕ) (offset : ℤ) (fault : DateFault) → Writes bytes number
      → IsFirstFault (midnight_text bytes) offset fault → ⊥
  no_fault number offset Length w h = h refl
  no_fault number offset Digits w h = h.1 (has_digits w.digits)
  no_fault number offset Zone w h = differ h.2
    where
      differ : {A : Type 0} {x : A} → Some x ≡ None → ⊥
      differ e = cc
  no_fault number offset Calendar w h =
      let year = year_small (has_digits w.digits) in
      let date = w.date in
      h.unreal (
        (
          (omega (arith, signed_arith), omega (arith, signed_arith, year)),
          (grind (arith, nat_tests, date), grind (arith, nat_tests, date)),
          (grind (arith, nat_tests, date), grind (arith, nat_tests, date)),
        ),
        (omega arith, omega arith, omega arith),
      )
  no_fault number offset Range w h =
      let here = same_Some _ _ h.states.formed.stated in
      let same : number ≡ h.number = sym w.counted ∙ number_is _ _ _ h.number h.states.shows in
      let below : h.number < end_of_days = subst (λ n. n < end_of_days) same w.below in
      h.outside (subst (λ z. IsInYears (local_moment h.number 0 z offset)) here
      (omega (arith, signed_arith), omega (arith, signed_arith, below)))

-- a text whose first moment has a fault writes no day
pub no_day : (text moment : List ℕ) (offset : ℤ) (fault : DateFault) → moment ≡ midnight_text text
    → length text ≡ 8 → IsFirstFault moment offset fault → day_written text ≡ None
no_day text moment offset fault is size f = no_number (day_written text) (λ n h.
    let all = eight text size in
    no_fault (slice_index text 0) (slice_index text 1) (slice_index text 2) (slice_index text 3)
    (slice_index text 4) (slice_index text 5)
    (slice_index text 6) (slice_index text 7) n offset fault
    (subst (λ (t : List ℕ). Writes t n) all (writes text n h))
    (subst (λ (t : List ℕ). IsFirstFault t offset fault) is f))

-- the text of a day has eight digits
pub day_digits : (number : ℕ) (text : List ℕ) → IsDayText number text → list_all is_digit text ≡ true
day_digits number text p = (writes text number (day_read number text p)).digits

pub day_long : (number : ℕ) (text : List ℕ) → IsDayText number text → length text ≡ 8
day_long number text p = ap length p.spelled
