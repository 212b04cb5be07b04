-- The text of a reply's part.
use Rattle.std.specs.Prelude.{ℕ, List, codes}
use Rattle.std.specs.Option.{option_copied}
use Rattle.hd_message.specs.Fields.{bound_field, cancelled_field, count_text, field_text, holds_field}
use Rattle.hd_message.specs.Fields.{limit_field, optional_text, place_field, position_field, refusal_field}
use Rattle.hd_message.specs.Fields.{shelf_field, yes_no}
use Rattle.hd_message.specs.declared.part.Part.{Part}
use Rattle.hd_message.specs.declared.part.Part.TheVariants.{Text, YesNo, Field, Optional, Due, Expiry}
use Rattle.hd_message.specs.declared.part.Part.TheVariants.{Position, Holds, Place, Bound, Cancelled, Refused}
use Rattle.hd_message.specs.declared.part.Part.TheVariants.{Count, Limit, OnHoldShelf}

-- the text of each part
abbrev pub part_text : Part → List ℕ
part_text (Text text) = text.now
part_text (YesNo holds) = yes_no holds
part_text (Field code value) = field_text code value.now
part_text (Optional code value) = optional_text code (option_copied value)
part_text (Due day) = field_text (codes "AH") day
part_text (Expiry day) = optional_text (codes "BW") day
part_text (Position position) = position_field position
part_text (Holds holds) = holds_field holds
part_text (Place place) = place_field place
part_text (Bound branch) = bound_field branch.now
part_text (Cancelled number) = cancelled_field number
part_text (Refused refusal) = refusal_field refusal
part_text (Count count) = count_text count
part_text (Limit limit) = limit_field limit
part_text (OnHoldShelf place) = shelf_field place
