-- How the copies of a patron are linked, by rising number.
use Rattle.std.specs.Prelude.{◌≡◌, ℕ, ◌+◌, ◌<◌, ◌≤◌, Bool, true, false, Option, None, Some, List, length}
use Rattle.std.specs.Prelude.{IfSome, slice_index}
use Rattle.std.specs.FinMap as map
use Rattle.hd_rules.specs.declared.copies.Loan.{Loan}
use Rattle.hd_rules.specs.declared.limits.TheConstants.{MOST_COPIES}
use Rattle.hd_loans.specs.LoansValue.{LoansMap}
use Rattle.hd_loans.specs.Counts.{AreBelow}
use Rattle.hd_loans.specs.Lent.{is_lent_to}

-- the link leads to the first number from one on that passes, and to the limit of copies where none does
pub record LeadsOn (test : ℕ → Bool) (from link : ℕ) : Type 0 where
  pub onward : from ≤ link
  pub passes : link < MOST_COPIES → test link ≡ true
  pub first : (number : ℕ) → from ≤ number → number < link → test number ≡ false

-- the greatest number below one that passes, or none where none does
abbrev pub IsLastBelow : (ℕ → Bool) → ℕ → Option ℕ → Type 0
IsLastBelow test limit None = (number : ℕ) → number < limit → test number ≡ false
IsLastBelow test limit (Some last) = (last < limit) × (test last ≡ true)
    × ((number : ℕ) → last < number → number < limit → test number ≡ false)

-- each loan is of a copy and a patron that have room, and the copy's number is one that copies have
pub record AreKnown (loans : LoansMap) (copies patrons : ℕ) : Type 0 where
  pub within : AreBelow loans copies patrons
  pub known : AreBelow loans MOST_COPIES patrons

-- to the first copy of each patron, and from each copy to the next one
pub record LinksValue : Type 0 where
  pub firsts : List ℕ
  pub nexts : List ℕ

-- A link leads to each patron's first copy, and from each copy that is lent to the next one of its patron.
pub record AreLinked (loans : LoansMap) (copies : ℕ) (links : LinksValue) : Type 0 where
  pub loan : AreKnown loans copies (length links.firsts)
  pub room : length links.nexts ≡ copies
  pub first : (patron : ℕ) → patron < length links.firsts →
      LeadsOn (is_lent_to loans patron) 0 (slice_index links.firsts patron)
  pub next : (patron copy : ℕ) → is_lent_to loans patron copy ≡ true →
      LeadsOn (is_lent_to loans patron) (copy + 1) (slice_index links.nexts copy)

-- the patron, the copy, and the one of which is said that it comes before it, have room
pub record HasRoom (links : LinksValue) (patron : ℕ) (last : Option ℕ) (copy : ℕ) : Type 0 where
  pub patron_in : patron < length links.firsts
  pub last_in : IfSome last (λ number. number < length links.nexts)
  pub copy_in : copy < length links.nexts

-- the copy isn't lent, and the last one below it of this loan's patron is this
pub record IsFreeBehind (loans : LoansMap) (loan : Loan) (last : Option ℕ) (copy : ℕ) : Type 0
  where
    pub free : map.get loans copy ≡ None
    pub last_is : IsLastBelow (is_lent_to loans loan.patron) copy last

-- the copy has this loan, and the last one below it of the same patron is this
pub record IsLentBehind (loans : LoansMap) (loan : Loan) (last : Option ℕ) (copy : ℕ) : Type 0
  where
    pub lent : map.get loans copy ≡ Some loan
    pub last_is : IsLastBelow (is_lent_to loans loan.patron) copy last

-- the link is at the end of the list, or leads to a copy of the patron's
pub record IsOnList (loans : LoansMap) (copies patrons patron link : ℕ) : Type 0 where
  pub loan : AreKnown loans copies patrons
  pub lent : link < MOST_COPIES → is_lent_to loans patron link ≡ true
