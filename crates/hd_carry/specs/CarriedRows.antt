-- The rows by which an opening file tells an old desk over a new catalogue: title by title each hold of its
-- queue, in order; then copy by copy where it is, unless that is the open shelf of its new home.
use Rattle.std.specs.Prelude.{◌==◌, ◌++◌, zero, suc, if◌then◌else◌, Option, None, Some, List}
use Rattle.std.specs.Prelude.{[], ◌∷◌, filter_map, option_map, option_and_then}
use Rattle.hd_rules.specs.declared.holds.Hold.{Hold}
use Rattle.hd_rules.specs.declared.holds.HoldKind.{HoldKind}
use Rattle.hd_rules.specs.declared.copies.CopyState.{CopyState}
use Rattle.hd_rules.specs.declared.rows.OpeningRow.{OpeningRow}
use Rattle.hd_rules.specs.declared.holds.HoldKind.TheVariants.{Any, One, AtBranch}
use Rattle.hd_rules.specs.declared.copies.CopyState.TheVariants.{Shelf, OnLoan, OnHoldShelf, InTransit}
use Rattle.hd_rules.specs.declared.rows.OpeningRow.TheVariants as row
use Rattle.hd_rules.specs.Numbers.{TitleNo, CopyNo, BranchNo, PatronNo, Count}
use Rattle.hd_rules.specs.Facts.{Facts}
use Rattle.hd_rules.specs.Desk.{Desk}
use Rattle.hd_rules.specs.Carry.{Renumbering}

-- a row, or none
abbrev pub row_or_none : Option OpeningRow → List OpeningRow
row_or_none None = []
row_or_none (Some row) = row ∷ []

module _ (r : Renumbering) where
  -- the same kind of hold
  abbrev pub new_kind : HoldKind → Option HoldKind
  new_kind Any = Some Any
  new_kind (One c) = option_map (λ x. One x) (r.copy c)
  new_kind AtBranch = Some AtBranch

  -- the row of a hold; which copy it has is told by that copy's row
  abbrev pub hold_row : TitleNo → Hold → Option OpeningRow
  hold_row t h =
      option_and_then (λ title.
      option_and_then (λ patron.
      option_and_then (λ kind.
      option_map (λ pickup.
      row.Hold title (record {
        patron = patron;
        stamp = h.stamp;
        kind = kind;
        pickup = pickup;
        expiry = h.expiry;
        copy = None;
      }))
      (r.branch h.pickup)) (new_kind h.kind)) (r.patron h.patron)) (r.title t)

  -- the rows of the holds of the titles below a number
  abbrev pub hold_rows : (TitleNo → List Hold) → Count → List OpeningRow
  hold_rows queues zero = []
  hold_rows queues (suc t) = hold_rows queues t ++ filter_map (hold_row t) (queues t)

  -- on the way from a branch to another for nobody, or for a patron to where the hold is picked up
  abbrev pub way_row : CopyNo → BranchNo → Option PatronNo → BranchNo → Option OpeningRow
  way_row x from None to = option_map (λ branch. row.Transit x from branch) (r.branch to)
  way_row x from (Some p) to = option_map (λ patron. row.HoldTransit x patron from) (r.patron p)

  -- the row of a copy with this new number and home; on the open shelf of its home it needs none
  abbrev pub place_row : CopyNo → BranchNo → CopyState → Option OpeningRow
  place_row x home (Shelf b) =
      option_and_then (λ branch. if branch == home then None else Some (row.OpenShelf x branch)) (r.branch b)
  place_row x home (OnLoan l) =
      option_map (λ patron. row.Loan x (record l { patron = patron })) (r.patron l.patron)
  place_row x home (OnHoldShelf s) = option_map (λ patron. row.HoldShelf x patron s.place) (r.patron s.patron)
  place_row x home (InTransit t) = option_and_then (λ from. way_row x from t.patron t.to) (r.branch t.from)

  -- the row of an old copy; a copy that is gone needs none
  abbrev pub copy_row : Facts → CopyNo → CopyState → Option OpeningRow
  copy_row j c state = option_and_then (λ x. place_row x (j.home x) state) (r.copy c)

  -- the rows of the copies below a number
  abbrev pub copy_rows : Facts → Desk → Count → List OpeningRow
  copy_rows j d zero = []
  copy_rows j d (suc c) = copy_rows j d c ++ row_or_none (copy_row j c (d.copy c))

  -- all rows, where the titles have these queues
  abbrev pub carried_rows : (k j : Facts) → Desk → (TitleNo → List Hold) → List OpeningRow
  carried_rows k j d queues = hold_rows queues k.titles ++ copy_rows j d k.copies
