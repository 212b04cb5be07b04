-- What a catalogue says: a list for each kind of name, and how its journal begins. A name's
-- number is its place, from 0, in the order of first appearance.
use Rattle.std.specs.Prelude.{◌≡◌, ℕ, ◌+◌, ◌<◌, ◌≤◌, Bool, true, false, List, [], All, length, Option, None}
use Rattle.std.specs.Prelude.{Some, if◌then◌else◌, option_and_then}
use Rattle.std.specs.Option.{option_map_or}
use Rattle.std.specs.Str.{bytes_eq}
use Rattle.hd_catalogue.specs.Text.{is_name}
use Rattle.hd_catalogue.specs.Names.{facts_at, name_at, number_of}
use Rattle.hd_rules.specs.declared.limits.TheConstants.{MOST_GIVEN}
use Rattle.hd_rules.specs.declared.rows.OpeningRow.{OpeningRow}
use Rattle.hd_rules.specs.Numbers.{CommandNo, HoldStamp}
use Rattle.hd_rules.specs.Facts.{AreInRange, Facts, IsFresh}
use Rattle.hd_rules.specs.Desk.{at_home}
use Rattle.hd_rules.specs.Known.{IsKnownRow}
use Rattle.hd_rules.specs.Rows.{IsInBounds, with_rows}
use Rattle.hd_catalogue.specs.declared.facts.Settings.{Settings}
use Rattle.hd_catalogue.specs.declared.facts.BranchFacts.{BranchFacts}
use Rattle.hd_catalogue.specs.declared.facts.PatronFacts.{PatronFacts}
use Rattle.hd_catalogue.specs.declared.facts.TitleFacts.{TitleFacts}
use Rattle.hd_catalogue.specs.declared.facts.CopyFacts.{CopyFacts}
use Rattle.hd_catalogue.specs.Terminal.{Terminal}

-- How the catalogue's journal begins: by these rows from the desk with each copy at home on, and behind the
-- last number that was given before.
pub record OpeningRows : Type 0 where
  pub rows : List OpeningRow
  pub last : CommandNo

abbrev pub told_by : List OpeningRow → CommandNo → OpeningRows
told_by rows last = record { rows = rows; last = last }

-- with each copy at home, no holds, and no number given
abbrev pub no_rows : OpeningRows
no_rows = told_by [] 0

pub record Contents : Type 0 where
  pub settings : Settings
  pub institution : List ℕ
  pub branches : List (List ℕ × BranchFacts)
  pub terminals : List (List ℕ × Terminal)
  pub patrons : List (List ℕ × PatronFacts)
  pub titles : List (List ℕ × TitleFacts)
  pub copies : List (List ℕ × CopyFacts)
  pub opening : OpeningRows

-- a catalogue without names
abbrev pub without_names : Settings → List ℕ → Contents
without_names settings institution =
    record {
      settings = settings;
      institution = institution;
      branches = [];
      terminals = [];
      patrons = [];
      titles = [];
      copies = [];
      opening = no_rows;
    }

-- what is known of the name with a number, and else a value that stands for nothing
abbrev pub fact_of : {F V : Type 0} → (F → V) → V → List (List ℕ × F) → ℕ → V
fact_of fact none names number = option_map_or fact (facts_at names number) none

-- The facts of a catalogue, by number: the one view of it that the rules of the desk have.
unfoldable pub facts_of : Contents → Facts
facts_of k = record {
  branches = length k.branches;
  terminals = length k.terminals;
  titles = length k.titles;
  copies = length k.copies;
  patrons = length k.patrons;
  home = fact_of (λ copy. copy.home) 0 k.copies;
  title_of = fact_of (λ copy. copy.title) 0 k.copies;
  loan_days = fact_of (λ title. title.loan_days) 0 k.titles;
  renewals = fact_of (λ title. title.renewals) 0 k.titles;
  loan_limit = fact_of (λ patron. patron.loan_limit) 0 k.patrons;
  priority = fact_of (λ title. title.local_priority) false k.titles;
  command_limit = k.settings.command_limit;
  opening = record {
    desk =
        with_rows (fact_of (λ copy. copy.title) 0 k.copies)
        (at_home (fact_of (λ copy. copy.home) 0 k.copies)) k.opening.rows;
    last = k.opening.last;
  };
}

-- where no rows are told and no number was given, the journal is its library's first
abbrev pub WithoutRowsIsFresh : Type 0
WithoutRowsIsFresh = (k : Contents) → k.opening ≡ no_rows → IsFresh (facts_of k)

-- the branch of a terminal
unfoldable pub branch_of : Contents → ℕ → ℕ
branch_of k = fact_of (λ terminal. terminal.branch) 0 k.terminals

-- the number of a name, None where there is no such name of its kind
unfoldable pub branch_number : Contents → List ℕ → Option ℕ
branch_number k name = number_of k.branches name

unfoldable pub title_number : Contents → List ℕ → Option ℕ
title_number k name = number_of k.titles name

unfoldable pub copy_number : Contents → List ℕ → Option ℕ
copy_number k name = number_of k.copies name

unfoldable pub patron_number : Contents → List ℕ → Option ℕ
patron_number k name = number_of k.patrons name

-- whether the terminal with a number has this password
unfoldable pub is_password : Contents → ℕ → List ℕ → Bool
is_password k number password =
    option_map_or (λ terminal. bytes_eq terminal.password password) (facts_at k.terminals number) false

-- the number of the terminal with this name, where it has this password
unfoldable pub terminal_number : Contents → List ℕ → List ℕ → Option ℕ
terminal_number k name password =
    option_and_then
    (λ number. if is_password k number password then Some number else None)
    (number_of k.terminals name)

-- the terminal with a number has this name and this password
unfoldable pub IsTerminal : Contents → ℕ → List ℕ → List ℕ → Type 0
IsTerminal k number name password =
    (name_at k.terminals number ≡ Some name) × (is_password k number password ≡ true)

-- the name of a number, None where there is no such number
unfoldable pub branch_name : Contents → ℕ → Option (List ℕ)
branch_name k number = name_at k.branches number

unfoldable pub terminal_name : Contents → ℕ → Option (List ℕ)
terminal_name k number = name_at k.terminals number

unfoldable pub title_name : Contents → ℕ → Option (List ℕ)
title_name k number = name_at k.titles number

unfoldable pub copy_name : Contents → ℕ → Option (List ℕ)
copy_name k number = name_at k.copies number

unfoldable pub patron_name : Contents → ℕ → Option (List ℕ)
patron_name k number = name_at k.patrons number

-- all that the row names is in the catalogue, and its numbers are in their bounds, where the next number
-- that a command is given is n
abbrev pub Fits : Facts → HoldStamp → OpeningRow → Type 0
Fits k n row = IsKnownRow k row × IsInBounds n row

-- The facts keep to the limits, and each number that they or the rows of the opening name is one of the
-- catalogue.
pub record IsSound (k : Contents) : Type 0 where
  pub facts : AreInRange (facts_of k)
  pub terminals : (t : ℕ) → t < length k.terminals → branch_of k t < length k.branches
  pub rows : All (Fits (facts_of k) (k.opening.last + 1)) k.opening.rows
  pub last : k.opening.last ≤ MOST_GIVEN

-- a name of 1 to 60 bytes
abbrev pub IsShortName : List ℕ → Type 0
IsShortName name = (1 ≤ length name) × (length name ≤ 60)

-- each of these is a name of such bytes as a name may have
abbrev pub AreNames : {F : Type 0} → List (List ℕ × F) → Type 0
AreNames names = (number : ℕ) (name : List ℕ) → name_at names number ≡ Some name → is_name name ≡ true

-- the institution is one, and every name
pub record HasNames (k : Contents) : Type 0 where
  pub institution : is_name k.institution ≡ true
  pub branches : AreNames k.branches
  pub terminals : AreNames k.terminals
  pub patrons : AreNames k.patrons
  pub titles : AreNames k.titles
  pub copies : AreNames k.copies

-- what holds of each catalogue
abbrev pub IsCatalogue : Contents → Type 0
IsCatalogue k = IsSound k × HasNames k
