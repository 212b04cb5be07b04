-- What a catalogue says (docs/catalogue.md).
use Rattle.std.specs.Prelude.{◌≡◌, ◌+◌, ◌<◌, ◌≤◌, Bool}
use Rattle.hd_rules.specs.declared.limits.TheConstants.{MOST_BRANCHES, MOST_TERMINALS, MOST_TITLES}
use Rattle.hd_rules.specs.declared.limits.TheConstants.{MOST_COPIES, MOST_PATRONS, MOST_LOAN_DAYS}
use Rattle.hd_rules.specs.declared.limits.TheConstants.{MOST_RENEWALS, MOST_LOANS, MOST_COMMANDS}
use Rattle.hd_rules.specs.Numbers.{CopyNo, BranchNo, TitleNo, PatronNo, CommandNo, Count}
use Rattle.hd_rules.specs.Desk.{Desk, at_home}

-- How a journal begins: the desk, and the last number that was given before.
pub record Opening : Type 0 where
  pub desk : Desk
  pub last : CommandNo

-- How many there are of each kind, what is known of each by its number, and how a journal begins.
pub record Facts : Type 0 where
  pub branches : Count
  pub terminals : Count
  pub titles : Count
  pub copies : Count
  pub patrons : Count
  pub home : CopyNo → BranchNo
  pub title_of : CopyNo → TitleNo
  pub loan_days : TitleNo → Count
  pub renewals : TitleNo → Count
  pub loan_limit : PatronNo → Count
  pub priority : TitleNo → Bool
  pub command_limit : CommandNo
  pub opening : Opening

-- the first number that a command is given (§ Numbers, cancellation and dependence)
abbrev pub first_number : Facts → CommandNo
first_number k = k.opening.last + 1

-- the last one: so many as the catalogue's limit are given (§ All commands)
abbrev pub last_number : Facts → CommandNo
last_number k = k.opening.last + k.command_limit

-- each copy at home, no holds, and no number given (§ State)
abbrev pub fresh : Facts → Opening
fresh k = record { desk = at_home k.home; last = 0 }

-- a library's first journal
abbrev pub IsFresh : Facts → Type 0
IsFresh k = k.opening ≡ fresh k

-- they keep to the limits, and each copy has a home and a title of the catalogue (§ Limits)
pub record AreInRange (k : Facts) : Type 0 where
  pub branches : k.branches ≤ MOST_BRANCHES
  pub terminals : k.terminals ≤ MOST_TERMINALS
  pub titles : k.titles ≤ MOST_TITLES
  pub copies : k.copies ≤ MOST_COPIES
  pub patrons : k.patrons ≤ MOST_PATRONS
  pub home : (c : CopyNo) → c < k.copies → k.home c < k.branches
  pub title_of : (c : CopyNo) → c < k.copies → k.title_of c < k.titles
  pub loan_days : (t : TitleNo) → t < k.titles → k.loan_days t ≤ MOST_LOAN_DAYS
  pub renewals : (t : TitleNo) → t < k.titles → k.renewals t ≤ MOST_RENEWALS
  pub loan_limit : (p : PatronNo) → p < k.patrons → k.loan_limit p ≤ MOST_LOANS
  pub some_command : 1 ≤ k.command_limit
  pub command_limit : k.command_limit ≤ MOST_COMMANDS
