-- What holds of lines.
use Rattle.std.proofs.Common.{ℕ, List, [], ◌∷◌, ◌++◌, All, refl, arith}
use Rattle.std.proofs.lemmas.List.Elements.{All-cons, All-nil, All-append}
use Rattle.std.specs.List.{flat_map, join_by}
use Rattle.std.specs.Fmt.{decimal}
use Rattle.hd_log.specs.Escapes.{IsPrintable, escaped}
use Rattle.hd_log.specs.Lines.{Field, IsOneLine, Number, Text, Value, Word, field_text, line_text}
use Rattle.hd_log.specs.Lines.{value_text}
use Rattle.hd_log.proofs.Printable.{printable, printable_escaped}

one : (b : ℕ) → IsPrintable b → All IsPrintable (b ∷ [])
one b is = All-cons IsPrintable b [] is (All-nil IsPrintable)

value_printable : (value : Value) → All IsPrintable (value_text value)
unfolding value_text
value_printable (Number n) = printable_escaped (decimal n)
value_printable (Word word) = printable_escaped word
value_printable (Text text) =
    All-cons IsPrintable 34 (escaped text ++ 34 ∷ []) (printable 34 (omega arith) (omega arith))
    (All-append IsPrintable (escaped text) (34 ∷ []) (printable_escaped text)
    (one 34 (printable 34 (omega arith) (omega arith))))

field_printable : (f : Field) → All IsPrintable (field_text f)
unfolding field_text
field_printable f =
    All-append IsPrintable (escaped f.key) (61 ∷ value_text f.value) (printable_escaped f.key)
    (All-cons IsPrintable 61 (value_text f.value) (printable 61 (omega arith) (omega arith))
    (value_printable f.value))

-- fields behind others, each behind a blank
behind_printable : (fields : List Field)
    → All IsPrintable (flat_map (λ x. 32 ∷ [] ++ field_text x) fields)
behind_printable [] = All-nil IsPrintable
behind_printable (f ∷ fields) =
    All-append IsPrintable (32 ∷ [] ++ field_text f) (flat_map (λ x. 32 ∷ [] ++ field_text x) fields)
    (All-cons IsPrintable 32 (field_text f) (printable 32 (omega arith) (omega arith)) (field_printable f))
    (behind_printable fields)

fields_printable : (fields : List Field) → All IsPrintable (join_by field_text (32 ∷ []) fields)
fields_printable [] = All-nil IsPrintable
fields_printable (f ∷ fields) =
    All-append IsPrintable (field_text f) (flat_map (λ x. 32 ∷ [] ++ field_text x) fields)
    (field_printable f) (behind_printable fields)

pub one_line : (fields : List Field) → IsOneLine (line_text fields)
unfolding line_text
one_line fields = record {
  line = join_by field_text (32 ∷ []) fields;
  ends = refl;
  printable = fields_printable fields;
}
