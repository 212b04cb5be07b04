-- The parts of which replies are made.
use Rattle.std.specs.Prelude.{ℕ, Bool, List, [], ◌++◌, Option, None, Some, codes, decimal, min}
use Rattle.std.specs.Prelude.{if◌then◌else◌}
use Rattle.std.specs.Option.{option_map}
use Rattle.hd_date.specs.Days.{four_digits}
use Rattle.hd_message.specs.Due.{due_text}
use Rattle.hd_rules.specs.RefusalTexts.{refusal_text}
use Rattle.hd_rules.specs.declared.replies.Refusal.{Refusal}

-- Y where something holds, else N
abbrev pub yes_no : Bool → List ℕ
yes_no holds = if holds then codes "Y" else codes "N"

-- a field with its identifier and its bar
abbrev pub field_text : List ℕ → List ℕ → List ℕ
field_text code value = code ++ value ++ codes "|"

-- a field that is left out where it has no value
abbrev pub optional_text : List ℕ → Option (List ℕ) → List ℕ
optional_text code None = []
optional_text code (Some value) = field_text code value

-- AH with a due day
abbrev pub due_field : ℕ → List ℕ
due_field day = field_text (codes "AH") (due_text day)

-- BW with an expiry day, left out where there is none
abbrev pub expiry_field : Option ℕ → List ℕ
expiry_field day = optional_text (codes "BW") (option_map due_text day)

-- BR with a position
abbrev pub position_field : ℕ → List ℕ
position_field position = field_text (codes "BR") (decimal position)

-- CF with a number of holds
abbrev pub holds_field : ℕ → List ℕ
holds_field holds = field_text (codes "CF") (decimal holds)

-- CL with a place on the hold shelf
abbrev pub place_field : ℕ → List ℕ
place_field place = field_text (codes "CL") (codes "H" ++ decimal place)

-- CL with the branch to which a copy goes
abbrev pub bound_field : List ℕ → List ℕ
bound_field branch = field_text (codes "CL") (codes "T" ++ branch)

-- AF with the number of what was cancelled
abbrev pub cancelled_field : ℕ → List ℕ
cancelled_field number = field_text (codes "AF") (codes "CANCELLED " ++ decimal number)

-- AF with the text of a refusal
abbrev pub refusal_field : Refusal → List ℕ
refusal_field refusal = field_text (codes "AF") (refusal_text refusal)

-- a count, in four digits; 9999 where it is more
abbrev pub count_text : ℕ → List ℕ
count_text count = four_digits (min count 9999)

-- CB with how many loans a patron may have
abbrev pub limit_field : ℕ → List ℕ
limit_field limit = field_text (codes "CB") (count_text limit)

-- AF with a place on the hold shelf
abbrev pub shelf_field : ℕ → List ℕ
shelf_field place = field_text (codes "AF") (codes "HOLD SHELF " ++ decimal place)
