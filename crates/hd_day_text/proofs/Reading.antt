-- The texts of days.
use Rattle.std.proofs.Common.{◌≡◌, ℕ, ◌+◌, ◌/◌, ◌%◌, ◌<◌, List, [], ◌∷◌, length, slice_index, codes, ℤ, pos}
use Rattle.std.proofs.Common.{refl, sym, ap, subst, ◌∙◌, arith}
use Rattle.hd_day.specs.Days.{end_of_days}
use Rattle.hd_date.specs.Days.{IsPrinted}
use Rattle.hd_date.specs.Faults.{IsFirstFault}
use Rattle.hd_date.specs.Stamps.{IsLocal, IsMoment, IsOwnPrint, IsStamp, Prints, Stamp}
use Rattle.hd_date.specs.declared.fault.DateFault.{DateFault}
use Rattle.hd_day_text.specs.Days.{IsDayText, midnight_text}

-- the bytes of a date, with dashes
abbrev pub with_dashes : List ℕ → List ℕ
with_dashes text =
    slice_index text 0 ∷ slice_index text 1 ∷ slice_index text 2 ∷ slice_index text 3 ∷ 45
    ∷ slice_index text 4 ∷ slice_index text 5 ∷ 45 ∷ slice_index text 6 ∷ slice_index text 7 ∷ []

-- what is printed of a day, with dashes, is its text
pub day_printed : (day : ℕ) (text : List ℕ) → day < end_of_days → IsPrinted day (codes "235900") text
    → IsDayText day (with_dashes text)
day_printed day text h p = record {
  in_years = h;
  year = p.year;
  month = p.month;
  day = p.day;
  shows = p.shows;
  spelled = ap with_dashes p.spelled;
}

-- a text of ten bytes is those
ten : (text : List ℕ) → length text ≡ 10 → text
    ≡ slice_index text 0 ∷ slice_index text 1 ∷ slice_index text 2 ∷ slice_index text 3
    ∷ slice_index text 4 ∷ slice_index text 5 ∷ slice_index text 6 ∷ slice_index text 7
    ∷ slice_index text 8 ∷ slice_index text 9 ∷ []
ten [] h = absurd (omega arith)
ten (a ∷ []) h = absurd (omega arith)
ten (a ∷ b ∷ []) h = absurd (omega arith)
ten (a ∷ b ∷ c ∷ []) h = absurd (omega arith)
ten (a ∷ b ∷ c ∷ d ∷ []) h = absurd (omega arith)
ten (a ∷ b ∷ c ∷ d ∷ e ∷ []) h = absurd (omega arith)
ten (a ∷ b ∷ c ∷ d ∷ e ∷ f ∷ []) h = absurd (omega arith)
ten (a ∷ b ∷ c ∷ d ∷ e ∷ f ∷ g ∷ []) h = absurd (omega arith)
ten (a ∷ b ∷ c ∷ d ∷ e ∷ f ∷ g ∷ i ∷ []) h = absurd (omega arith)
ten (a ∷ b ∷ c ∷ d ∷ e ∷ f ∷ g ∷ i ∷ j ∷ []) h = absurd (omega arith)
ten (a ∷ b ∷ c ∷ d ∷ e ∷ f ∷ g ∷ i ∷ j ∷ k ∷ []) h = refl
ten (a ∷ b ∷ c ∷ d ∷ e ∷ f ∷ g ∷ i ∷ j ∷ k ∷ l ∷ more) h = absurd (omega arith)

-- the first moment of a day
abbrev pub midnight : ℕ → Stamp
midnight day = record { day = day; minute = 0; second = 0 }

-- a text is of its first moment's day where that is what is printed of a stamp
pub day_of_print : (text : List ℕ) (stamp : Stamp) → length text ≡ 10 → slice_index text 4 ≡ 45
    → slice_index text 7 ≡ 45 → stamp.day < end_of_days → Prints stamp (midnight_text text)
    → IsDayText stamp.day text
day_of_print text stamp size one two h p =
    let parts = ten text size in
    let first : slice_index text 0 ≡ 48 + p.year / 1000 = ap (λ t. slice_index t 0) p.spelled in
    let second : slice_index text 1 ≡ 48 + p.year / 100 % 10 = ap (λ t. slice_index t 1) p.spelled in
    let third : slice_index text 2 ≡ 48 + p.year / 10 % 10 = ap (λ t. slice_index t 2) p.spelled in
    let fourth : slice_index text 3 ≡ 48 + p.year % 10 = ap (λ t. slice_index t 3) p.spelled in
    let month : slice_index text 5 ≡ 48 + p.month / 10 = ap (λ t. slice_index t 4) p.spelled in
    let of_month : slice_index text 6 ≡ 48 + p.month % 10 = ap (λ t. slice_index t 5) p.spelled in
    let day : slice_index text 8 ≡ 48 + p.day / 10 = ap (λ t. slice_index t 6) p.spelled in
    let of_day : slice_index text 9 ≡ 48 + p.day % 10 = ap (λ t. slice_index t 7) p.spelled in
    record {
      in_years = h;
      year = p.year;
      month = p.month;
      day = p.day;
      shows = p.shows;
      spelled = parts ∙ rw (first, second, third, fourth, one, month, of_month, two, day, of_day) refl;
    }

-- the first moment of a text that is a day's is in local time
pub midnight_local : (text : List ℕ) → IsLocal (midnight_text text)
midnight_local text = refl

-- and what is printed of that day's first moment
pub midnight_printed : (day : ℕ) (text : List ℕ) → IsDayText day text
    → Prints (midnight day) (midnight_text text)
midnight_printed day text p = record {
  year = p.year;
  month = p.month;
  day = p.day;
  shows = p.shows;
  spelled = ap midnight_text p.spelled;
}

-- a text whose first moment shows a stamp is that of the stamp's day
pub day_shown : ((text : List ℕ) → IsLocal text → IsOwnPrint text)
    → (text moment : List ℕ) (offset : ℤ) (stamp : Stamp) (day : ℕ)
    → moment ≡ midnight_text text → length text ≡ 10 → slice_index text 4 ≡ 45 → slice_index text 7 ≡ 45
    → IsStamp moment offset stamp → day ≡ stamp.day → IsDayText day text
day_shown own text moment offset stamp day is size first second shows same =
    let here : IsStamp (midnight_text text) offset stamp =
    subst (λ (t : List ℕ). IsStamp t offset stamp) is shows in
    subst (λ (d : ℕ). IsDayText d text) (sym same)
    (day_of_print text stamp size first second here.day
    (own (midnight_text text) (midnight_local text) offset stamp here))

module _ (shown : (stamp : Stamp) (text : List ℕ) (offset : ℤ) → IsMoment stamp → Prints stamp text
    → IsStamp text offset stamp) where
  -- so it shows that moment
  pub midnight_shown : (day : ℕ) (text : List ℕ) (offset : ℤ) → IsDayText day text
      → IsStamp (midnight_text text) offset (midnight day)
  midnight_shown day text offset p =
      shown (midnight day) (midnight_text text) offset (p.in_years, omega arith, omega arith)
      (midnight_printed day text p)

  -- a text is of one day at most
  pub one_day : ((text : List ℕ) (offset : ℤ) (s t : Stamp) → IsStamp text offset s
      → IsStamp text offset t → s ≡ t)
      → (text : List ℕ) (day other : ℕ) → IsDayText day text → IsDayText other text → day ≡ other
  one_day one text day other p q =
      ap (λ (s : Stamp). s.day) (one (midnight_text text) (pos 0) (midnight day) (midnight other)
      (midnight_shown day text (pos 0) p) (midnight_shown other text (pos 0) q))

  -- and of none where the stamp of its first moment has a fault
  pub no_day : ((text : List ℕ) (offset : ℤ) (s : Stamp) (fault : DateFault) → IsStamp text offset s
      → IsFirstFault text offset fault → ⊥)
      → (text moment : List ℕ) (offset : ℤ) (fault : DateFault) → moment ≡ midnight_text text
      → IsFirstFault moment offset fault
      → (day : ℕ) → IsDayText day text → ⊥
  no_day no_fault text moment offset fault is f day p =
      no_fault moment offset (midnight day) fault
      (subst (λ (t : List ℕ). IsStamp t offset (midnight day)) (sym is) (midnight_shown day text offset p)) f
