-- The lines of a patrons' file: what one says, and why one is refused after those before it.
use Rattle.std.specs.Prelude.{ℕ, Bool, not, ◌||◌, ◌==◌, is_none, if◌then◌else◌, Option, None, Some}
use Rattle.std.specs.Prelude.{option_map, List, [], ◌∷◌, codes, length, unwrap_or}
use Rattle.std.specs.Str.{bytes_eq}
use Rattle.hd_rules.specs.Numbers.{PatronNo}
use Rattle.hd_catalogue.specs.Contents.{Contents, patron_number}
use Rattle.hd_catalogue.specs.Lines.{first_cause}
use Rattle.hd_catalogue.specs.Text.{as_four, is_long, is_name, values_of}
use Rattle.hd_catalogue.specs.declared.cause.Cause.{Cause}
use Rattle.hd_catalogue.specs.declared.cause.Cause.TheVariants.{Header, Kind, Fields, Text, Number, Unknown}
use Rattle.hd_catalogue.specs.declared.cause.Cause.TheVariants.{Double}
use Rattle.hd_patrons.specs.Texts.{PatronSaid, is_language, is_text}

-- a language: nothing, or three digits
abbrev pub language_written : List ℕ → Option (Option (List ℕ))
language_written text =
    if length text == 0 then Some None
    else if is_language text then Some (Some text)
    else None

-- the first line
abbrev pub is_heading : List ℕ → Bool
is_heading line = bytes_eq line (codes "H|patrons|1")

abbrev pub heading_cause : List ℕ → Option Cause
heading_cause line = if is_heading line then None else Some Header

-- P|patron|password|language|name
abbrev pub patron_said : Contents → Option (List ℕ × List ℕ × List ℕ × List ℕ) → Option PatronSaid
patron_said k None = None
patron_said k (Some (patron, password, language, name)) =
    option_map (λ p. record {
      patron = p;
      texts = record {
        password = password;
        language = unwrap_or (language_written language) None;
        name = name;
      };
    }) (patron_number k patron)

-- the patron is to be one of the catalogue, of whom no line before tells
abbrev pub number_cause : (PatronNo → Bool) → Option PatronNo → Option Cause
number_cause told None = Some Unknown
number_cause told (Some p) = if told p then Some Double else None

abbrev pub patron_cause : Bool → Contents → (PatronNo → Bool)
    → Option (List ℕ × List ℕ × List ℕ × List ℕ) → Option Cause
patron_cause long k told None = Some Fields
patron_cause long k told (Some (patron, password, language, name)) = first_cause
    ((long || not (is_name patron) || not (is_text password) || not (is_text name), Text)
    ∷ (is_none (language_written language), Number) ∷ [])
    (number_cause told (patron_number k patron))

-- a line after the first, by its values: the letter comes first
abbrev pub values_said : Contents → List (List ℕ) → Option PatronSaid
values_said k [] = None
values_said k (kind ∷ values) = if bytes_eq kind (codes "P") then patron_said k (as_four values) else None

abbrev pub values_cause : Bool → Contents → (PatronNo → Bool) → List (List ℕ) → Option Cause
values_cause long k told [] = Some Kind
values_cause long k told (kind ∷ values) =
    if bytes_eq kind (codes "P") then patron_cause long k told (as_four values) else Some Kind

-- what a line after the first says, where it passes
unfoldable pub line_said : Contents → List ℕ → Option PatronSaid
line_said k line = values_said k (values_of line)

-- why it is refused, None where it passes; told are the patrons of whom the lines before it tell
unfoldable pub line_cause : Contents → (PatronNo → Bool) → List ℕ → Option Cause
line_cause k told line = values_cause (is_long line) k told (values_of line)
