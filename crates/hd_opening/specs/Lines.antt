-- The lines of an opening file: what each says, or the first cause for which it is refused.
use Rattle.std.specs.Prelude.{ℕ, Bool, true, false, not, ◌&&◌, ◌||◌, ◌==◌, nat_le, if◌then◌else◌}
use Rattle.std.specs.Prelude.{Option, None, Some, option_map, Result, Ok, Err, List, [], ◌∷◌}
use Rattle.std.specs.Prelude.{codes, length}
use Rattle.std.specs.List.{list_all}
use Rattle.std.specs.Option.{ok_or, option_zip}
use Rattle.std.specs.Str.{bytes_eq}
use Rattle.hex.specs.Hex.{encode_lower}
use Rattle.hd_rules.specs.declared.limits.TheConstants.{MOST_RENEWALS, MOST_GIVEN}
use Rattle.hd_rules.specs.declared.rows.OpeningRow.{OpeningRow}
use Rattle.hd_rules.specs.declared.holds.HoldKind.{HoldKind}
use Rattle.hd_rules.specs.declared.holds.HoldKind.TheVariants.{Any, One, AtBranch}
use Rattle.hd_rules.specs.declared.rows.OpeningRow.TheVariants as row
use Rattle.hd_catalogue.specs.Contents.{Contents, branch_number, copy_number, patron_number, title_number}
use Rattle.hd_catalogue.specs.Text.{as_four, as_three, as_two, is_digit, is_long, is_name}
use Rattle.hd_catalogue.specs.Text.{number_to, values_of}
use Rattle.hd_opening.specs.Days.{day_written, expiry_written}
use Rattle.hd_opening.specs.declared.limits.TheConstants.{MOST_PLACES}
use Rattle.hd_opening.specs.declared.cause.OpeningCause.{OpeningCause}
use Rattle.hd_opening.specs.declared.cause.OpeningCause.TheVariants.{Header, Kind, Fields, Text, Number}
use Rattle.hd_opening.specs.declared.cause.OpeningCause.TheVariants.{Unknown, Other}

-- a row, or the first cause: a text that is none, a number that is none, a name that isn't known
abbrev pub said : {N : Type 0} → Bool → Option N → (N → Option OpeningRow) → Result OpeningRow OpeningCause
said false numbers row = Err Text
said true None row = Err Number
said true (Some n) row = ok_or (row n) Unknown

-- the same of a line without numbers
abbrev pub named : Bool → Option OpeningRow → Result OpeningRow OpeningCause
named false row = Err Text
named true row = ok_or row Unknown

-- a copy and a patron, or a copy and a branch, by their names
abbrev pub copy_and_patron : Contents → List ℕ → List ℕ → Option (ℕ × ℕ)
copy_and_patron k copy patron = option_zip (copy_number k copy) (patron_number k patron)

abbrev pub copy_and_branch : Contents → List ℕ → List ℕ → Option (ℕ × ℕ)
copy_and_branch k copy branch = option_zip (copy_number k copy) (branch_number k branch)

-- a number from 1 to a limit
abbrev pub from_one : Option ℕ → Option ℕ
from_one None = None
from_one (Some n) = if n == 0 then None else Some n

-- Each kind of line by its values after the letter, None where there are not
-- as many as it has. The first argument tells whether the line is short enough.

-- L|copy|patron|due|renewals
abbrev pub loan_said : Bool → Contents → Option (List ℕ × List ℕ × List ℕ × List ℕ)
    → Result OpeningRow OpeningCause
loan_said short k None = Err Fields
loan_said short k (Some (copy, patron, due, renewals)) = said
    (short && is_name copy && is_name patron)
    (option_zip (day_written due) (number_to MOST_RENEWALS renewals))
    (λ n. option_map
    (λ w. row.Loan w.0 (record { patron = w.1; due = n.0; renewals = n.1 }))
    (copy_and_patron k copy patron))

-- O|copy|branch
abbrev pub shelf_said : Bool → Contents → Option (List ℕ × List ℕ) → Result OpeningRow OpeningCause
shelf_said short k None = Err Fields
shelf_said short k (Some (copy, branch)) = named
    (short && is_name copy && is_name branch)
    (option_map (λ w. row.OpenShelf w.0 w.1) (copy_and_branch k copy branch))

-- R|title|patron|stamp|admits|copy|pickup|expiry
pub record HoldValues : Type 0 where
  pub title : List ℕ
  pub patron : List ℕ
  pub stamp : List ℕ
  pub admits : List ℕ
  pub copy : List ℕ
  pub pickup : List ℕ
  pub expiry : List ℕ

abbrev pub as_hold : List (List ℕ) → Option HoldValues
as_hold (title ∷ patron ∷ stamp ∷ admits ∷ copy ∷ pickup ∷ expiry ∷ []) =
    Some (record {
      title = title;
      patron = patron;
      stamp = stamp;
      admits = admits;
      copy = copy;
      pickup = pickup;
      expiry = expiry;
    })
as_hold _ = None

-- the copy is named where the hold admits it alone, else it is left out
abbrev pub is_kind : List ℕ → List ℕ → Bool
is_kind admits copy =
    if bytes_eq admits (codes "copy") then is_name copy
    else (bytes_eq admits (codes "any") || bytes_eq admits (codes "branch")) && (length copy == 0)

abbrev pub kind_of : Contents → List ℕ → List ℕ → Option HoldKind
kind_of k admits copy =
    if bytes_eq admits (codes "copy") then option_map One (copy_number k copy)
    else if bytes_eq admits (codes "any") then Some Any
    else Some AtBranch

-- the texts of a hold's line that name something
abbrev pub are_texts : HoldValues → Bool
are_texts values =
    is_name values.title && is_name values.patron && is_kind values.admits values.copy
    && is_name values.pickup

-- the title, the patron, the kind and the pickup of a hold
abbrev pub hold_names : Contents → HoldValues → Option ((ℕ × ℕ) × (HoldKind × ℕ))
hold_names k values = option_zip
    (option_zip (title_number k values.title) (patron_number k values.patron))
    (option_zip (kind_of k values.admits values.copy) (branch_number k values.pickup))

abbrev pub hold_said : Bool → Contents → ℕ → Option HoldValues → Result OpeningRow OpeningCause
hold_said short k last None = Err Fields
hold_said short k last (Some values) = said
    (short && are_texts values)
    (option_zip (from_one (number_to last values.stamp)) (expiry_written values.expiry))
    (λ n. option_map
    (λ w. row.Hold w.0.0 (record {
      patron = w.0.1;
      stamp = n.0;
      kind = w.1.0;
      pickup = w.1.1;
      expiry = n.1;
      copy = None;
    }))
    (hold_names k values))

-- K|copy|patron|place
abbrev pub kept_said : Bool → Contents → Option (List ℕ × List ℕ × List ℕ) → Result OpeningRow OpeningCause
kept_said short k None = Err Fields
kept_said short k (Some (copy, patron, place)) = said
    (short && is_name copy && is_name patron)
    (from_one (number_to MOST_PLACES place))
    (λ n. option_map (λ w. row.HoldShelf w.0 w.1 n) (copy_and_patron k copy patron))

-- W|copy|patron|from
abbrev pub sent_said : Bool → Contents → Option (List ℕ × List ℕ × List ℕ) → Result OpeningRow OpeningCause
sent_said short k None = Err Fields
sent_said short k (Some (copy, patron, from)) = named
    (short && is_name copy && is_name patron && is_name from)
    (option_map
    (λ w. row.HoldTransit w.0.0 w.0.1 w.1)
    (option_zip (copy_and_patron k copy patron) (branch_number k from)))

-- U|copy|from|to
abbrev pub transit_said : Bool → Contents → Option (List ℕ × List ℕ × List ℕ) → Result OpeningRow OpeningCause
transit_said short k None = Err Fields
transit_said short k (Some (copy, from, to)) = named
    (short && is_name copy && is_name from && is_name to)
    (option_map
    (λ w. row.Transit w.0.0 w.0.1 w.1)
    (option_zip (copy_and_branch k copy from) (branch_number k to)))

-- a line after the first, by its values: the letter of its kind comes first
abbrev pub values_said : Bool → Contents → ℕ → List (List ℕ) → Result OpeningRow OpeningCause
values_said short k last [] = Err Kind
values_said short k last (kind ∷ values) =
    if bytes_eq kind (codes "L") then loan_said short k (as_four values)
    else if bytes_eq kind (codes "O") then shelf_said short k (as_two values)
    else if bytes_eq kind (codes "R") then hold_said short k last (as_hold values)
    else if bytes_eq kind (codes "K") then kept_said short k (as_three values)
    else if bytes_eq kind (codes "W") then sent_said short k (as_three values)
    else if bytes_eq kind (codes "U") then transit_said short k (as_three values)
    else Err Kind

-- what a line after the first says, the last number given being this one
unfoldable pub row_said : Contents → ℕ → List ℕ → Result OpeningRow OpeningCause
row_said k last line = values_said (not (is_long line)) k last (values_of line)

-- 64 hexadecimal digits in lower case
abbrev pub is_lower_digit : ℕ → Bool
is_lower_digit byte = is_digit byte || (nat_le 97 byte && nat_le byte 102)

abbrev pub is_digest : List ℕ → Bool
is_digest text = (length text == 64) && list_all is_lower_digit text

-- H|opening|1|last|digest: the last number, where the digest is that of the catalogue file
abbrev pub last_said : Bool → List ℕ → Option ℕ → List ℕ → Result ℕ OpeningCause
last_said false digest last own = Err Text
last_said true digest None own = Err Number
last_said true digest (Some last) own = if bytes_eq own (encode_lower digest) then Ok last else Err Other

abbrev pub heading_said : Bool → List ℕ → Option (List ℕ × List ℕ × List ℕ × List ℕ) → Result ℕ OpeningCause
heading_said short digest None = Err Header
heading_said short digest (Some (name, version, last, own)) =
    if bytes_eq name (codes "opening") && bytes_eq version (codes "1")
    then last_said (short && is_digest own) digest (number_to MOST_GIVEN last) own
    else Err Header

abbrev pub first_values_said : Bool → List ℕ → List (List ℕ) → Result ℕ OpeningCause
first_values_said short digest [] = Err Header
first_values_said short digest (kind ∷ values) =
    if bytes_eq kind (codes "H") then heading_said short digest (as_four values) else Err Header

-- what the first line says
unfoldable pub first_said : List ℕ → List ℕ → Result ℕ OpeningCause
first_said digest line = first_values_said (not (is_long line)) digest (values_of line)
