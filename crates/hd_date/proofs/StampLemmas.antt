-- What is printed of a stamp is read as that stamp, and as nothing else.
use Rattle.std.proofs.Common.{zero, suc, None, ◌≡◌, ℕ, ◌+◌, ◌*◌, ◌/◌, ◌%◌, ◌<◌, ⊎_elim, List, Some, All, ℤ}
use Rattle.std.proofs.Common.{pos, ◌+ℤ◌, refl, sym, ap, subst, ◌∙◌, arith, [], ◌∷◌, ◌++◌, ◌≤◌, length, drop}
use Rattle.std.proofs.Common.{replicate, slice_range}
use Rattle.std.proofs.Common.{append_assoc, ◌-◌, Bool, true, false, drop-drop, codes, if◌then◌else◌}
use Rattle.std.specs.Str.{bytes_eq}
use Rattle.std.proofs.Math.ListN.{drop_of_length-le}
use Rattle.std.proofs.lemmas.Bool.{cases_Bool}
use Rattle.std.proofs.lemmas.List.{take-append-drop, append-nil, length-take, length-drop}
use Rattle.std.proofs.lemmas.Slice.Eq.{bytes_eq-Decides}
use Rattle.jiff_core.specs.Calendar.{days_from_civil}
use Rattle.jiff_core.proofs.CalendarLemmas.{days_in_month_bounds}
use Rattle.jiff_core.proofs.SignedLemmas.{signed_arith}
use Rattle.jiff_core.specs.declared.civil.date.Date.{Date}
use Rattle.jiff_core.proofs.DateLemmas.{epoch_day_injective}
use Rattle.hd_date.specs.Days.{IsCalendarDay, IsPrinted, date_text, four_digits, two_digits}
use Rattle.hd_date.specs.Faults.{IsFirstFault}
use Rattle.hd_date.specs.Stamps.{IsDigit, IsFormed, IsInYears, IsLocal, IsMoment, IsStamp, Prints, Stamp}
use Rattle.hd_date.specs.Stamps.{States}
use Rattle.hd_date.specs.Stamps.{decimal, local_moment, minute_of_day, minutes, numbers_in, time_digits}
use Rattle.hd_date.specs.declared.fault.DateFault.{DateFault}
use Rattle.hd_date.specs.declared.fault.DateFault.TheVariants.{Length, Digits, Zone, Calendar, Range}
use Rattle.hd_date.specs.declared.zone.Zone.{Zone as TheZone}
use Rattle.hd_date.specs.declared.zone.Zone.TheVariants.{Local, Universal}

-- digits give their number back
pub four_back : (n : ℕ) → n < 10000 → decimal (four_digits n) ≡ n
four_back n h = omega arith

pub two_back : (n : ℕ) → n < 100 → decimal (two_digits n) ≡ n
two_back n h = omega arith

-- one day has one number
pub day_number : (year month day a b : ℕ) → IsCalendarDay year month day a
    → IsCalendarDay year month day b → a ≡ b
day_number year month day a b p q =
    let both : days_from_civil (pos 0) 1 1 +ℤ pos a ≡ days_from_civil (pos 0) 1 1 +ℤ pos b =
    sym p.counted ∙ q.counted in
    omega (arith, signed_arith)

-- a number of minutes is of one minute of one day
minutes_day : (a b m n : ℕ) → m < 1440 → n < 1440 → pos (minutes a m) ≡ pos (minutes b n) → a ≡ b
minutes_day a b m n h k e =
    let e : minutes a m ≡ minutes b n = omega (arith, signed_arith) in
    omega arith

minutes_minute : (a b m n : ℕ) → m < 1440 → n < 1440 → pos (minutes a m) ≡ pos (minutes b n) → m ≡ n
minutes_minute a b m n h k e =
    let e : minutes a m ≡ minutes b n = omega (arith, signed_arith) in
    omega arith

-- a zone and a day that a text states are its own
same_zone : (text : List ℕ) (a b : TheZone) → IsFormed text a → IsFormed text b → a ≡ b
same_zone text a b p q = some_back (sym p.stated ∙ q.stated)
  where
    some_back : {A : Type 0} {a b : A} → Some a ≡ Some b → a ≡ b
    some_back e = cc

same_day : (text : List ℕ) (y z : TheZone) (a b : ℕ) → States text y a → States text z b → a ≡ b
same_day text y z a b p q = day_number _ _ _ a b p.shows q.shows

-- so is the local moment
same_moment : (text : List ℕ) (offset : ℤ) (y z : TheZone) (a b minute : ℕ) → States text y a
    → States text z b →
    local_moment a minute y offset ≡ local_moment b minute z offset
same_moment text offset y z a b minute p q =
    ap (λ z. local_moment a minute z offset) (same_zone text y z p.formed q.formed)
    ∙ ap (λ n. local_moment n minute z offset) (same_day text y z a b p q)

-- two stamps that one text shows are one
pub same_stamp : (text : List ℕ) (offset : ℤ) (s t : Stamp) → IsStamp text offset s
    → IsStamp text offset t → s ≡ t
same_stamp text offset s t p q =
    let e : pos (minutes s.day s.minute) ≡ pos (minutes t.day t.minute) =
    p.moment ∙ same_moment text offset p.zone q.zone p.number q.number
    (minute_of_day (numbers_in text)) p.states q.states ∙ sym q.moment in
    let day : s.day ≡ t.day = minutes_day _ _ _ _ p.minute q.minute e in
    let minute : s.minute ≡ t.minute = minutes_minute _ _ _ _ p.minute q.minute e in
    let second : s.second ≡ t.second = p.second ∙ sym q.second in
    rw (day, minute, second) refl

none_some : {A : Type 0} {a : A} → None ≡ Some a → ⊥
none_some e = cc

-- a text that shows a stamp has no fault
pub no_fault : (text : List ℕ) (offset : ℤ) (s : Stamp) (f : DateFault) → IsStamp text offset s
    → IsFirstFault text offset f → ⊥
no_fault text offset s Length p h = h p.states.formed.size
no_fault text offset s Digits p h = h.1 p.states.formed.digits
no_fault text offset s Zone p h = none_some (sym h.2 ∙ p.states.formed.stated)
no_fault text offset s Calendar p h = h.unreal (p.states.shows.real, p.states.time)
no_fault text offset s Range p h =
    let e : pos (minutes s.day s.minute)
    ≡ local_moment h.number (minute_of_day (numbers_in text)) h.zone offset =
    p.moment ∙ same_moment text offset p.zone h.zone p.number h.number
    (minute_of_day (numbers_in text)) p.states h.states in
    h.outside (subst IsInYears e (omega (arith, signed_arith), omega (arith, signed_arith, p.day, p.minute)))

-- a text has one first fault
pub one_fault : (text : List ℕ) (offset : ℤ) (f g : DateFault) → IsFirstFault text offset f
    → IsFirstFault text offset g → f ≡ g
one_fault text offset Length Length p q = refl
one_fault text offset Length Digits p q = absurd (p q.0)
one_fault text offset Length Zone p q = absurd (p q.0)
one_fault text offset Length Calendar p q = absurd (p q.formed.size)
one_fault text offset Length Range p q = absurd (p q.states.formed.size)
one_fault text offset Digits Length p q = absurd (q p.0)
one_fault text offset Digits Digits p q = refl
one_fault text offset Digits Zone p q = absurd (p.1 q.1)
one_fault text offset Digits Calendar p q = absurd (p.1 q.formed.digits)
one_fault text offset Digits Range p q = absurd (p.1 q.states.formed.digits)
one_fault text offset Zone Length p q = absurd (q p.0)
one_fault text offset Zone Digits p q = absurd (q.1 p.1)
one_fault text offset Zone Zone p q = refl
one_fault text offset Zone Calendar p q = absurd (none_some (sym p.2 ∙ q.formed.stated))
one_fault text offset Zone Range p q = absurd (none_some (sym p.2 ∙ q.states.formed.stated))
one_fault text offset Calendar Length p q = absurd (q p.formed.size)
one_fault text offset Calendar Digits p q = absurd (q.1 p.formed.digits)
one_fault text offset Calendar Zone p q = absurd (none_some (sym q.2 ∙ p.formed.stated))
one_fault text offset Calendar Calendar p q = refl
one_fault text offset Calendar Range p q = absurd (p.unreal (q.states.shows.real, q.states.time))
one_fault text offset Range Length p q = absurd (q p.states.formed.size)
one_fault text offset Range Digits p q = absurd (q.1 p.states.formed.digits)
one_fault text offset Range Zone p q = absurd (none_some (sym q.2 ∙ p.states.formed.stated))
one_fault text offset Range Calendar p q = absurd (q.unreal (p.states.shows.real, p.states.time))
one_fault text offset Range Range p q = refl

-- a number's digits are digits
four_digits_are : (n : ℕ) → n < 10000 → All IsDigit (four_digits n)
four_digits_are n h zero d k = (omega arith, omega arith)
four_digits_are n h (suc zero) d k = (omega arith, omega arith)
four_digits_are n h (suc (suc zero)) d k = (omega arith, omega arith)
four_digits_are n h (suc (suc (suc zero))) d k = (omega arith, omega arith)
four_digits_are n h (suc (suc (suc (suc i)))) d k = absurd (omega arith)

two_digits_are : (n : ℕ) → n < 100 → All IsDigit (two_digits n)
two_digits_are n h zero d k = (omega arith, omega arith)
two_digits_are n h (suc zero) d k = (omega arith, omega arith)
two_digits_are n h (suc (suc i)) d k = absurd (omega arith)

-- what is printed of a moment shows it
pub shows_printed : (text : List ℕ) (offset : ℤ) (s : Stamp) → IsMoment s
    → IsPrinted s.day (time_digits s) text → IsStamp text offset s
shows_printed text offset s moment p =
    let year : p.year < 10000 = omega (arith, signed_arith, p.shows.real.0.1) in
    let month : p.month < 100 = omega (arith, p.shows.real.1) in
    let day : p.day < 100 = omega (arith, p.shows.real.2, days_in_month_bounds (pos p.year) p.month) in
    let minute : s.minute < 1440 = moment.1 in
    let second : s.second < 60 = moment.2 in
    let hours : decimal (two_digits (s.minute / 60)) ≡ s.minute / 60 =
    two_back (s.minute / 60) (omega arith) in
    let minutes_in : decimal (two_digits (s.minute % 60)) ≡ s.minute % 60 =
    two_back (s.minute % 60) (omega arith) in
    let seconds : decimal (two_digits s.second) ≡ s.second = two_back s.second (omega arith) in
    let of_day : 60 * decimal (two_digits (s.minute / 60)) + decimal (two_digits (s.minute % 60)) ≡ s.minute =
    omega (arith, hours, minutes_in) in
    subst (λ t. IsStamp t offset s) (sym p.spelled)
    record {
      zone = Local;
      number = s.day;
      states = record {
        formed = record {
          size = refl;
          digits = record {
            year = four_digits_are p.year year;
            month = two_digits_are p.month month;
            day = two_digits_are p.day day;
            hour = two_digits_are (s.minute / 60) (omega arith);
            minute = two_digits_are (s.minute % 60) (omega arith);
            second = two_digits_are s.second (omega arith);
          };
          stated = refl;
        };
        shows = rw (four_back p.year year, two_back p.month month, two_back p.day day) p.shows;
        time = (omega (arith, hours), omega (arith, minutes_in), omega (arith, seconds));
      };
      moment = ap (λ n. pos (minutes s.day n)) (sym of_day) ∙ omega (arith, signed_arith);
      day = moment.0;
      minute = minute;
      second = sym seconds;
    }

-- digits are those of the number that they write
four_again : (xs : List ℕ) → length xs ≡ 4 → All IsDigit xs → four_digits (decimal xs) ≡ xs
four_again [] h p = absurd (omega arith)
four_again (a ∷ []) h p = absurd (omega arith)
four_again (a ∷ b ∷ []) h p = absurd (omega arith)
four_again (a ∷ b ∷ c ∷ []) h p = absurd (omega arith)
four_again (a ∷ b ∷ c ∷ d ∷ []) h p =
    let one : IsDigit a = p 0 0 (omega arith) in
    let two : IsDigit b = p 1 0 (omega arith) in
    let three : IsDigit c = p 2 0 (omega arith) in
    let four : IsDigit d = p 3 0 (omega arith) in
    digits_of a b c d one two three four
  where
    digits_of : (a b c d : ℕ) → IsDigit a → IsDigit b → IsDigit c → IsDigit d
        → four_digits (decimal (a ∷ b ∷ c ∷ d ∷ [])) ≡ a ∷ b ∷ c ∷ d ∷ []
    digits_of a b c d one two three four =
        let n = decimal (a ∷ b ∷ c ∷ d ∷ []) in
        let first : 48 + n / 1000 ≡ a = omega arith in
        let second : 48 + n / 100 % 10 ≡ b = omega arith in
        let third : 48 + n / 10 % 10 ≡ c = omega arith in
        let fourth : 48 + n % 10 ≡ d = omega arith in
        cc
four_again (a ∷ b ∷ c ∷ d ∷ e ∷ xs) h p = absurd (omega arith)

two_again : (xs : List ℕ) → length xs ≡ 2 → All IsDigit xs → two_digits (decimal xs) ≡ xs
two_again [] h p = absurd (omega arith)
two_again (a ∷ []) h p = absurd (omega arith)
two_again (a ∷ b ∷ []) h p =
    let one : IsDigit a = p 0 0 (omega arith) in
    let two : IsDigit b = p 1 0 (omega arith) in
    let first : 48 + decimal (a ∷ b ∷ []) / 10 ≡ a = omega arith in
    let second : 48 + decimal (a ∷ b ∷ []) % 10 ≡ b = omega arith in
    cc
two_again (a ∷ b ∷ c ∷ xs) h p = absurd (omega arith)

length_part : (i j : ℕ) (text : List ℕ) → length text ≡ 18 → i ≤ j → j ≤ 18
    → length (slice_range text i j) ≡ j - i
length_part i j text e h k = simp (length-take, length-drop) (omega arith)

-- a text is its parts, one after another
part : (i j : ℕ) (text : List ℕ) → i ≤ j → slice_range text i j ++ drop j text ≡ drop i text
part i j text h =
    let past : drop (j - i) (drop i text) ≡ drop j text =
    drop-drop (j - i) i text ∙ ap (λ n. drop n text) (omega arith) in
    rw (← past) (take-append-drop (j - i) (drop i text))

pub in_parts : (text : List ℕ) → length text ≡ 18 →
    slice_range text 0 4
    ++ (slice_range text 4 6
    ++ (slice_range text 6 8
    ++ (slice_range text 8 12
    ++ (slice_range text 12 14 ++ (slice_range text 14 16 ++ slice_range text 16 18))))) ≡ text
in_parts text h =
    let all : slice_range text 16 18 ≡ drop 16 text =
    sym (append-nil (slice_range text 16 18))
    ∙ ap (λ end. slice_range text 16 18 ++ end) (sym (drop_of_length-le text {i = 18} (omega arith)))
    ∙ part 16 18 text (omega arith) in
    rw (
      all,
      part 14 16 text (omega arith),
      part 12 14 text (omega arith),
      part 8 12 text (omega arith),
      part 6 8 text (omega arith),
      part 4 6 text (omega arith),
    ) (part 0 4 text (omega arith))

-- a number's year, month and day are one
pub one_date : (y m d y₂ m₂ d₂ n : ℕ) → IsCalendarDay y m d n → IsCalendarDay y₂ m₂ d₂ n
    → (y ≡ y₂) × (m ≡ m₂) × (d ≡ d₂)
one_date y m d y₂ m₂ d₂ n p q =
    let a : Date = record {
      year = pos y;
      month = m;
      day = d;
      year_in = p.real.0;
      month_in = p.real.1;
      day_in = p.real.2;
    } in
    let b : Date = record {
      year = pos y₂;
      month = m₂;
      day = d₂;
      year_in = q.real.0;
      month_in = q.real.1;
      day_in = q.real.2;
    } in
    let same = epoch_day_injective a b (p.counted ∙ sym q.counted) in
    let year : pos y ≡ pos y₂ = same.0 in
    (omega (arith, signed_arith), same.1, same.2)

-- the blanks of local time
blanks : (text : List ℕ) → IsLocal text → slice_range text 8 12 ≡ replicate 4 32
blanks text h =
    ⊎_elim (λ (yes : bytes_eq (slice_range text 8 12) (codes "    ") ≡ true).
    (bytes_eq-Decides (slice_range text 8 12) (codes "    ")).0 yes)
    (λ (no : bytes_eq (slice_range text 8 12) (codes "    ") ≡ false).
    absurd (not_local (bytes_eq (slice_range text 8 12) (codes "   Z")) (rw no at h)))
    (cases_Bool (bytes_eq (slice_range text 8 12) (codes "    ")))
  where
    not_local : (b : Bool) → (if b then Some Universal else None) ≡ Some Local → ⊥
    not_local true e = cc
    not_local false e = cc

-- six parts with four blanks after the third
joined : List ℕ → List ℕ → List ℕ → List ℕ → List ℕ → List ℕ → List ℕ
joined a b c d e f = a ++ b ++ c ++ replicate 4 32 ++ (d ++ e ++ f)

joined_digits : (y m d h n s : ℕ)
    → joined (four_digits y) (two_digits m) (two_digits d) (two_digits h) (two_digits n) (two_digits s)
    ≡ date_text y m d (two_digits h ++ two_digits n ++ two_digits s)
unfolding joined
joined_digits y m d h n s = refl

joined_parts : (text : List ℕ) → length text ≡ 18 → IsLocal text →
    joined (slice_range text 0 4) (slice_range text 4 6) (slice_range text 6 8) (slice_range text 12 14)
    (slice_range text 14 16)
    (slice_range text 16 18) ≡ text
unfolding joined
joined_parts text size l = rw (← blanks text l) (simp append_assoc (in_parts text size))

-- a text in local time is what is printed of a stamp that it shows
pub own_print : (text : List ℕ) (offset : ℤ) (s : Stamp) → IsLocal text → IsStamp text offset s
    → Prints s text
own_print text offset s l p =
    let n = numbers_in text in
    let zone : p.zone ≡ Local = same_some (sym p.states.formed.stated ∙ l) in
    let e : pos (minutes s.day s.minute) ≡ pos (minutes p.number (minute_of_day n)) +ℤ pos 0 =
    p.moment ∙ ap (λ z. local_moment p.number (minute_of_day n) z offset) zone in
    let e : pos (minutes s.day s.minute) ≡ pos (minutes p.number (minute_of_day n)) =
    omega (arith, signed_arith) in
    let of_day : minute_of_day n < 1440 = omega (arith, p.states.time) in
    let day : s.day ≡ p.number = minutes_day _ _ _ _ p.minute of_day e in
    let minute : s.minute ≡ minute_of_day n = minutes_minute _ _ _ _ p.minute of_day e in
    let hour : s.minute / 60 ≡ n.hour = omega (arith, p.states.time) in
    let minutes_in : s.minute % 60 ≡ n.minute = omega (arith, p.states.time) in
    let d = p.states.formed.digits in
    let size = p.states.formed.size in
    let long : (i j : ℕ) → i ≤ j → j ≤ 18 → length (slice_range text i j) ≡ j - i =
    λ i j h k. length_part i j text size h k in
    let year : four_digits n.year ≡ slice_range text 0 4 =
    four_again _ (long 0 4 (omega arith) (omega arith)) d.year in
    let month : two_digits n.month ≡ slice_range text 4 6 =
    two_again _ (long 4 6 (omega arith) (omega arith)) d.month in
    let of_month : two_digits n.day ≡ slice_range text 6 8 =
    two_again _ (long 6 8 (omega arith) (omega arith)) d.day in
    let hours : two_digits n.hour ≡ slice_range text 12 14 =
    two_again _ (long 12 14 (omega arith) (omega arith)) d.hour in
    let of_hour : two_digits n.minute ≡ slice_range text 14 16 =
    two_again _ (long 14 16 (omega arith) (omega arith)) d.minute in
    let seconds : two_digits n.second ≡ slice_range text 16 18 =
    two_again _ (long 16 18 (omega arith) (omega arith)) d.second in
    let numbers : date_text n.year n.month n.day (time_digits s)
    ≡ joined (four_digits n.year) (two_digits n.month) (two_digits n.day) (two_digits n.hour)
    (two_digits n.minute) (two_digits n.second) =
    rw (hour, minutes_in, p.second) (sym (joined_digits n.year n.month n.day n.hour n.minute n.second)) in
    let parts : joined (four_digits n.year) (two_digits n.month) (two_digits n.day) (two_digits n.hour)
    (two_digits n.minute)
    (two_digits n.second) ≡ text =
    rw (year, month, of_month, hours, of_hour, seconds) (joined_parts text size l) in
    record {
      year = n.year;
      month = n.month;
      day = n.day;
      shows = subst (IsCalendarDay n.year n.month n.day) (sym day) p.states.shows;
      spelled = sym (numbers ∙ parts);
    }
  where
    same_some : {A : Type 0} {a b : A} → Some a ≡ Some b → a ≡ b
    same_some e = cc

-- a day is printed in one way
pub printed_once : (number : ℕ) (time a b : List ℕ) → IsPrinted number time a
    → IsPrinted number time b → a ≡ b
printed_once number time a b p q =
    let date = one_date _ _ _ _ _ _ number p.shows q.shows in
    p.spelled ∙ rw (date.0, date.1, date.2) (sym q.spelled)
