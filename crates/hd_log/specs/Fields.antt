-- The fields of lines, from Rust's values.
use Rattle.std.specs.Prelude.{List, map}
use Rattle.hd_log.specs.declared.field.Field.{Field}
use Rattle.hd_log.specs.declared.field.Value.{Value}
use Rattle.hd_log.specs.declared.field.Value.TheVariants.{Number, Word, Text}
use Rattle.hd_log.specs.Lines as lines

-- what a field says
abbrev pub value_shown : Value → lines.Value
value_shown (Number n) = lines.Number n
value_shown (Word word) = lines.Word word.now
value_shown (Text text) = lines.Text text.now

-- a field
abbrev pub field_shown : Field → lines.Field
field_shown f = record { key = f.key.now; value = value_shown f.value }

-- the fields of a line
abbrev pub fields_shown : List Field → List lines.Field
fields_shown fields = map field_shown fields
