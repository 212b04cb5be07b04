-- Loans that are written off.
use Rattle.std.specs.Prelude.{◌≡◌, ◌<◌, Bool, true, false, List, length, nat_eq, slice_index_or}
use Rattle.std.specs.List.{list_any}
use Rattle.hd_rules.specs.declared.copies.CopyState.{CopyState}
use Rattle.hd_rules.specs.declared.copies.CopyState.TheVariants.{Shelf, OnLoan}
use Rattle.hd_rules.specs.Numbers.{BranchNo, CopyNo, Count}
use Rattle.hd_rules.specs.Facts.{Facts}
use Rattle.hd_rules.specs.Desk.{Desk}
use Rattle.hd_desk.specs.DeskValue.{DeskValue}
use Rattle.hd_desk.specs.Desks.{desk_of, facts}

-- a loan that is written off ends on the open shelf of the copy's home
abbrev pub written_state : Bool → BranchNo → CopyState → CopyState
written_state true home (OnLoan l) = Shelf home
written_state listed home state = state

-- the desk when the loans of these copies have ended
unfoldable pub without_loans : Facts → (CopyNo → Bool) → Desk → Desk
without_loans k listed d = record d { copy = λ c. written_state (listed c) (k.home c) (d.copy c) }

-- the copy is in the list
abbrev pub is_listed : List CopyNo → CopyNo → Bool
is_listed copies c = list_any (nat_eq c) copies

-- the desk when the loans of the listed copies have ended
abbrev pub written_off : Facts → List CopyNo → Desk → Desk
written_off k copies d = without_loans k (is_listed copies) d

-- the desk that is carried over: the old one, when these loans have ended
abbrev pub carried_desk : DeskValue → List CopyNo → Desk
carried_desk d copies = written_off (facts d) copies (desk_of d)

-- what is noted of a copy, and past the last one nothing
abbrev pub is_noted : List Bool → CopyNo → Bool
is_noted notes c = slice_index_or notes c false

-- of so many copies the listed ones are noted
pub record AreNoted (many : Count) (copies : List CopyNo) (notes : List Bool) : Type 0 where
  pub count : length notes ≡ many
  pub each : (c : CopyNo) → c < many → is_noted notes c ≡ is_listed copies c
