-- A slot for each number, from 1 on, with the record of that number or none.
use Rattle.std.specs.Prelude.{◌≡◌, ℕ, zero, suc, if◌then◌else◌, Option, None, Some, List, [], ◌∷◌, map}
use Rattle.std.specs.Prelude.{slice_index_or}
use Rattle.hd_index.specs.Union.{has}
use Rattle.hd_rules.specs.declared.cells.Change.{Change}
use Rattle.hd_rules.specs.Facts.{Facts}
use Rattle.hd_rules.specs.Record.{Record}
use Rattle.hd_clash.specs.Shift.{shift_record}

-- the records that stand in them, in their order
abbrev pub records_there : List (Option Record) → List Record
records_there [] = []
records_there (None ∷ slots) = records_there slots
records_there (Some r ∷ slots) = r ∷ records_there slots

-- each record has the number of its slot; so many slots are before these
abbrev pub AreNumbered : ℕ → List (Option Record) → Type 0
AreNumbered before [] = Unit {0}
AreNumbered before (None ∷ slots) = AreNumbered (suc before) slots
AreNumbered before (Some r ∷ slots) = (r.number ≡ suc before) × AreNumbered (suc before) slots

-- the record of a slot shifted, if it has one
abbrev pub shift_slot : Facts → List Change → Option Record → Option Record
shift_slot k changes None = None
shift_slot k changes (Some r) = Some (shift_record k changes r)

-- the slots with the records of these numbers shifted; so many slots are before these
abbrev pub shift_at : Facts → List Change → List ℕ → ℕ → List (Option Record) → List (Option Record)
shift_at k changes numbers before [] = []
shift_at k changes numbers before (slot ∷ slots) =
    (if has (suc before) numbers then shift_slot k changes slot else slot)
    ∷ shift_at k changes numbers (suc before) slots

-- what stands in the slot of a number
abbrev pub slot_of : ℕ → List (Option Record) → Option Record
slot_of zero slots = None
slot_of (suc n) slots = slice_index_or slots n None

-- the records of these numbers, in the order of the numbers
abbrev pub records_at : List ℕ → List (Option Record) → List Record
records_at numbers slots = records_there (map (λ n. slot_of n slots) numbers)
