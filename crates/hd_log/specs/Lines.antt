-- Lines of fields, as they are written.
use Rattle.std.specs.Prelude.{◌≡◌, ℕ, List, [], ◌∷◌, ◌++◌, All, decimal}
use Rattle.std.specs.List.{join_by}
use Rattle.hd_log.specs.Escapes.{IsPrintable, escaped}

-- what a field says: a number, a word, or a text of any bytes
pub data Value : Type 0 where
  Number : ℕ → Value
  Word : List ℕ → Value
  Text : List ℕ → Value

-- a field of a line
pub record Field : Type 0 where
  pub key : List ℕ
  pub value : Value

-- a text in quotes
abbrev pub quoted : List ℕ → List ℕ
quoted text = 34 ∷ escaped text ++ 34 ∷ []

-- what a field says, written; the digits of a number stand for themselves (`numbers_are_plain`)
unfoldable pub value_text : Value → List ℕ
value_text (Number n) = escaped (decimal n)
value_text (Word word) = escaped word
value_text (Text text) = quoted text

-- a field, written: key=value
unfoldable pub field_text : Field → List ℕ
field_text f = escaped f.key ++ 61 ∷ value_text f.value

-- a line, written: its fields with blanks between them, and a line feed
unfoldable pub line_text : List Field → List ℕ
line_text fields = join_by field_text (32 ∷ []) fields ++ 10 ∷ []

-- a text is one line: printable ASCII, and the line feed that ends it
pub record IsOneLine (text : List ℕ) : Type 0 where
  pub line : List ℕ
  pub ends : text ≡ line ++ 10 ∷ []
  pub printable : All IsPrintable line
