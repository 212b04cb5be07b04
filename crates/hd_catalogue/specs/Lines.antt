-- The lines of a catalogue file: why one is refused after what the lines before it said, and what it says.
use Rattle.std.specs.Prelude.{ℕ, Bool, true, not, ◌&&◌, ◌||◌, nat_le, is_some, if◌then◌else◌, Option, None}
use Rattle.std.specs.Prelude.{Some, List, [], ◌∷◌, ◌++◌, codes, length, unwrap_or, option_map, pos}
use Rattle.std.specs.Str.{bytes_eq}
use Rattle.hd_catalogue.specs.Names.{number_of}
use Rattle.hd_rules.specs.declared.limits.TheConstants.{MOST_BRANCHES, MOST_TERMINALS, MOST_TITLES}
use Rattle.hd_rules.specs.declared.limits.TheConstants.{MOST_COPIES, MOST_PATRONS, MOST_LOAN_DAYS}
use Rattle.hd_rules.specs.declared.limits.TheConstants.{MOST_RENEWALS, MOST_LOANS}
use Rattle.hd_catalogue.specs.Text.{as_one, as_two, as_three, as_four, is_command_limit, says_local, is_long}
use Rattle.hd_catalogue.specs.Text.{is_name, is_number_to, is_offset, is_priority, offset_of, number_written}
use Rattle.hd_catalogue.specs.Text.{values_of}
use Rattle.hd_catalogue.specs.Contents.{Contents, without_names}
use Rattle.hd_catalogue.specs.Terminal.{Terminal}
use Rattle.hd_catalogue.specs.declared.cause.Cause.{Cause}
use Rattle.hd_catalogue.specs.declared.cause.Cause.TheVariants.{Header, Kind, Fields, Text, Number, Double}
use Rattle.hd_catalogue.specs.declared.cause.Cause.TheVariants.{Unknown, Limit}
use Rattle.hd_catalogue.specs.declared.facts.Settings.{Settings}
use Rattle.hd_catalogue.specs.declared.facts.PatronFacts.{PatronFacts}
use Rattle.hd_catalogue.specs.declared.facts.TitleFacts.{TitleFacts}
use Rattle.hd_catalogue.specs.declared.facts.CopyFacts.{CopyFacts}
use Rattle.hd_catalogue.specs.declared.facts.Version.{Version}
use Rattle.hd_catalogue.specs.declared.facts.Version.TheVariants.{One, Two}

-- the cause of the first test that is met, and else the later one
abbrev pub first_cause : List (Bool × Cause) → Option Cause → Option Cause
first_cause [] later = later
first_cause (test ∷ tests) later = if test.0 then Some test.1 else first_cause tests later

-- why a name can't be defined: it is defined already, what its line
-- names isn't known, or there are as many names as there may be
abbrev pub name_cause : {F : Type 0} → List (List ℕ × F) → List ℕ → Bool → ℕ → Option Cause
name_cause names name known most = first_cause
    ((is_some (number_of names name), Double)
    ∷ (not known, Unknown)
    ∷ (nat_le most (length names), Limit) ∷ []) None

-- Each kind of line by its values after the letter, None where there are not
-- as many as it has. The first argument tells whether the line is too long.

-- B|branch
abbrev pub branch_cause : Bool → Contents → Option (List ℕ) → Option Cause
branch_cause long k None = Some Fields
branch_cause long k (Some name) = first_cause
    ((long || not (is_name name), Text) ∷ [])
    (name_cause k.branches name true MOST_BRANCHES)

abbrev pub with_branch : Contents → Option (List ℕ) → Contents
with_branch k None = k
with_branch k (Some name) = record k { branches = k.branches ++ (name, record {}) ∷ [] }

-- P|patron|loan limit
abbrev pub patron_cause : Bool → Contents → Option (List ℕ × List ℕ) → Option Cause
patron_cause long k None = Some Fields
patron_cause long k (Some (name, loans)) = first_cause
    ((long || not (is_name name), Text)
    ∷ (not (is_number_to MOST_LOANS loans), Number) ∷ [])
    (name_cause k.patrons name true MOST_PATRONS)

abbrev pub patron_facts : List ℕ → PatronFacts
patron_facts loans = record { loan_limit = number_written loans }

abbrev pub with_patron : Contents → Option (List ℕ × List ℕ) → Contents
with_patron k None = k
with_patron k (Some (name, loans)) = record k { patrons = k.patrons ++ (name, patron_facts loans) ∷ [] }

-- T|title|loan days|renewals in version 1, where each title has
-- priority N; T|title|loan days|renewals|priority in version 2
abbrev pub without_priority : Option (List ℕ × List ℕ × List ℕ) → Option (List ℕ × List ℕ × List ℕ × List ℕ)
without_priority None = None
without_priority (Some (name, days, renewals)) = Some (name, days, renewals, codes "N")

abbrev pub title_values : Version → List (List ℕ) → Option (List ℕ × List ℕ × List ℕ × List ℕ)
title_values One values = without_priority (as_three values)
title_values Two values = as_four values

abbrev pub title_cause : Bool → Contents → Option (List ℕ × List ℕ × List ℕ × List ℕ) → Option Cause
title_cause long k None = Some Fields
title_cause long k (Some (name, days, renewals, priority)) = first_cause
    ((long || not (is_name name) || not (is_priority priority), Text)
    ∷ (not (is_number_to MOST_LOAN_DAYS days) || not (is_number_to MOST_RENEWALS renewals), Number) ∷ [])
    (name_cause k.titles name true MOST_TITLES)

abbrev pub title_facts : List ℕ → List ℕ → List ℕ → TitleFacts
title_facts days renewals priority =
    record {
      loan_days = number_written days;
      renewals = number_written renewals;
      local_priority = says_local priority;
    }

abbrev pub with_title : Contents → Option (List ℕ × List ℕ × List ℕ × List ℕ) → Contents
with_title k None = k
with_title k (Some (name, days, renewals, priority)) =
    record k { titles = k.titles ++ (name, title_facts days renewals priority) ∷ [] }

-- three names
unfoldable pub are_names : List ℕ → List ℕ → List ℕ → Bool
are_names a b c = is_name a && is_name b && is_name c

-- S|terminal|password|branch
abbrev pub terminal_cause : Bool → Contents → Option (List ℕ × List ℕ × List ℕ) → Option Cause
terminal_cause long k None = Some Fields
terminal_cause long k (Some (name, password, branch)) = first_cause
    ((long || not (are_names name password branch), Text) ∷ [])
    (name_cause k.terminals name (is_some (number_of k.branches branch)) MOST_TERMINALS)

abbrev pub terminal_facts : Contents → List ℕ → List ℕ → Terminal
terminal_facts k password branch =
    record { password = password; branch = unwrap_or (number_of k.branches branch) 0 }

abbrev pub with_terminal : Contents → Option (List ℕ × List ℕ × List ℕ) → Contents
with_terminal k None = k
with_terminal k (Some (name, password, branch)) =
    record k { terminals = k.terminals ++ (name, terminal_facts k password branch) ∷ [] }

-- C|copy|title|home branch, whose title and branch are to be known
abbrev pub are_known : Contents → List ℕ → List ℕ → Bool
are_known k title home = is_some (number_of k.titles title) && is_some (number_of k.branches home)

abbrev pub copy_cause : Bool → Contents → Option (List ℕ × List ℕ × List ℕ) → Option Cause
copy_cause long k None = Some Fields
copy_cause long k (Some (name, title, home)) = first_cause
    ((long || not (are_names name title home), Text) ∷ [])
    (name_cause k.copies name (are_known k title home) MOST_COPIES)

abbrev pub copy_facts : Contents → List ℕ → List ℕ → CopyFacts
copy_facts k title home =
    record { title = unwrap_or (number_of k.titles title) 0; home = unwrap_or (number_of k.branches home) 0 }

abbrev pub with_copy_line : Contents → Option (List ℕ × List ℕ × List ℕ) → Contents
with_copy_line k None = k
with_copy_line k (Some (name, title, home)) =
    record k { copies = k.copies ++ (name, copy_facts k title home) ∷ [] }

-- a line after the first, by its values: the letter of its kind comes first
abbrev pub values_cause : Bool → Contents → List (List ℕ) → Option Cause
values_cause long k [] = Some Kind
values_cause long k (kind ∷ values) =
    if bytes_eq kind (codes "B") then branch_cause long k (as_one values)
    else if bytes_eq kind (codes "S") then terminal_cause long k (as_three values)
    else if bytes_eq kind (codes "P") then patron_cause long k (as_two values)
    else if bytes_eq kind (codes "T") then title_cause long k (title_values k.settings.version values)
    else if bytes_eq kind (codes "C") then copy_cause long k (as_three values)
    else Some Kind

abbrev pub with_values : Contents → List (List ℕ) → Contents
with_values k [] = k
with_values k (kind ∷ values) =
    if bytes_eq kind (codes "B") then with_branch k (as_one values)
    else if bytes_eq kind (codes "S") then with_terminal k (as_three values)
    else if bytes_eq kind (codes "P") then with_patron k (as_two values)
    else if bytes_eq kind (codes "T") then with_title k (title_values k.settings.version values)
    else if bytes_eq kind (codes "C") then with_copy_line k (as_three values)
    else k

-- why a line after the first is refused, None where it passes
unfoldable pub line_cause : Contents → List ℕ → Option Cause
line_cause k line = values_cause (is_long line) k (values_of line)

-- what a catalogue says with one more line
unfoldable pub with_line : Contents → List ℕ → Contents
with_line k line = with_values k (values_of line)

-- the version of a file
abbrev pub version_of : List ℕ → Option Version
version_of value =
    if bytes_eq value (codes "1") then Some One
    else if bytes_eq value (codes "2") then Some Two
    else None

-- What the first line says: H|1|institution|offset|limit, or the same with 2.
pub record Heading : Type 0 where
  pub version : Version
  pub institution : List ℕ
  pub offset : List ℕ
  pub limit : List ℕ

abbrev pub heading_values : Option (List ℕ × List ℕ × List ℕ × List ℕ) → Option Heading
heading_values None = None
heading_values (Some (version, institution, offset, limit)) =
    option_map (λ known. record {
      version = known;
      institution = institution;
      offset = offset;
      limit = limit;
    }) (version_of version)

abbrev pub heading_of : List (List ℕ) → Option Heading
heading_of [] = None
heading_of (kind ∷ values) = if bytes_eq kind (codes "H") then heading_values (as_four values) else None

abbrev pub heading_cause : Bool → Option Heading → Option Cause
heading_cause long None = Some Header
heading_cause long (Some heading) = first_cause
    ((long || not (is_name heading.institution), Text)
    ∷ (not (is_offset heading.offset) || not (is_command_limit heading.limit), Number) ∷ []) None

abbrev pub settings_of : Heading → Settings
settings_of heading =
    record {
      version = heading.version;
      offset = offset_of heading.offset;
      command_limit = number_written heading.limit;
    }

-- where the first line is no heading, nothing is said
abbrev pub begun_by : Option Heading → Contents
begun_by None = without_names (record { version = One; offset = pos 0; command_limit = 1 }) []
begun_by (Some heading) = without_names (settings_of heading) heading.institution

-- why a first line is refused, None where it passes
unfoldable pub header_cause : List ℕ → Option Cause
header_cause line = heading_cause (is_long line) (heading_of (values_of line))

-- what a catalogue says after its first line
unfoldable pub first_contents : List ℕ → Contents
first_contents line = begun_by (heading_of (values_of line))
