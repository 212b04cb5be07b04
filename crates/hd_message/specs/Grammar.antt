-- What terminals write: the bodies of messages, by their fields.
use Rattle.std.specs.Prelude.{◌≡◌, ℕ, ◌==◌, Bool, false, List, [], ◌∷◌, ◌++◌, ◌≤◌, ⊤, Option, None, Some}
use Rattle.std.specs.Prelude.{IfSome, codes, length, if◌then◌else◌}
use Rattle.std.specs.List.{list_any}
use Rattle.std.specs.Str.{bytes_eq}
use Rattle.hd_field.specs.Fields.{width_of}
use Rattle.hd_field.specs.declared.occurrences.TheConstants.{BAR}
use Rattle.hd_message.specs.Fields.{field_text}
use Rattle.hd_message.specs.Reading.{IsRequest}
use Rattle.hd_message.specs.declared.request.Request.{Request}

-- A field as it is written: two bytes of identifier, and its value.
pub record Written : Type 0 where
  pub code : List ℕ
  pub value : List ℕ

-- the text of fields, each with its bar
abbrev pub fields_text : List Written → List ℕ
fields_text [] = []
fields_text (field ∷ fields) = field_text field.code field.value ++ fields_text fields

-- the value of the first of them with this identifier
abbrev pub value_of : List Written → List ℕ → Option (List ℕ)
value_of [] code = None
value_of (field ∷ fields) code = if bytes_eq field.code code then Some field.value else value_of fields code

-- whether a value has a bar
abbrev pub has_bar : List ℕ → Bool
has_bar value = list_any (λ b. b == BAR) value

-- A field can be written: its identifier is two bytes, neither has a bar, and the value fits the width of its
-- identifier.
pub record IsWritable (field : Written) : Type 0 where
  pub two : length field.code ≡ 2
  pub begins : has_bar field.code ≡ false
  pub plain : has_bar field.value ≡ false
  pub narrow : IfSome (width_of field.code) (λ width. length field.value ≤ width)

-- each of some fields can be written
abbrev pub AreWritable : List Written → Type 0
AreWritable [] = ⊤
AreWritable (field ∷ fields) = IsWritable field × AreWritable fields

-- a date has 18 bytes
abbrev pub IsDateText : List ℕ → Type 0
IsDateText date = length date ≡ 18

-- a field that is left out where it has no value
abbrev pub optional : List ℕ → Option (List ℕ) → List Written
optional code None = []
optional code (Some value) = record { code = code; value = value } ∷ []

-- an optional value is plain, and not empty where it is given
abbrev pub IsGiven : Option (List ℕ) → Type 0
IsGiven None = ⊤
IsGiven (Some value) = (has_bar value ≡ false) × (1 ≤ length value)

-- BI where a message cancels
abbrev pub cancel : Bool → List Written
cancel cancels = optional (codes "BI") (if cancels then Some (codes "Y") else None)

-- a body: the code and the fixed part, and the fields behind them
abbrev pub body_of : List ℕ → List Written → List ℕ
body_of fixed fields = fixed ++ fields_text fields

-- a body is read as a request exactly where that states these values
abbrev pub IsReadBack : List ℕ → (Request → Type 0) → Type 0
IsReadBack body states =
    (request : Request) →
    ((IsRequest body request → states request) × (states request → IsRequest body request))
