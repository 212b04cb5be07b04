-- A patron's holds, by the titles that they hold.
use Rattle.std.proofs.Common.{◌≡◌, refl, ◌∙◌, ap, ℕ, Option, Some, None, List, [], ◌∷◌, map, filter_map}
use Rattle.std.proofs.Common.{option_map}
use Rattle.std.specs.List.{cons_option}
use Rattle.hd_rules.specs.declared.holds.Hold.{Hold}
use Rattle.hd_rules.specs.declared.views.TitleHold.{TitleHold}
use Rattle.hd_rules.specs.Facts.{Facts}
use Rattle.hd_rules.specs.Desk.{Desk}
use Rattle.hd_holds.specs.declared.held_title.HeldTitle.{HeldTitle}
use Rattle.hd_patron_view.specs.Held.{held_by}
use Rattle.hd_list_rows.specs.declared.row.Row.{Row}
use Rattle.hd_list_rows.specs.Making.{held_row}
use Rattle.hd_list_rows.specs.Rows.{hold_row}

-- the rows of the titles are those of the holds
pub held_rows : (k : Facts) (d : Desk) (p : ℕ) (held : List HeldTitle)
    → filter_map (held_row k d p) held
    ≡ map (λ (h : TitleHold). hold_row k d h.title h.hold) (held_by d p held)
held_rows k d p [] = refl
held_rows k d p (of ∷ held) = by_hold (d.hold of.title p) (held_rows k d p held)
  where
    by_hold : (o : Option Hold)
        → filter_map (held_row k d p) held
        ≡ map (λ (h : TitleHold). hold_row k d h.title h.hold) (held_by d p held)
        → cons_option (option_map (hold_row k d of.title) o) (filter_map (held_row k d p) held)
        ≡ map (λ (h : TitleHold). hold_row k d h.title h.hold)
        (cons_option (option_map (λ (h : Hold). record { title = of.title; hold = h }) o) (held_by d p held))
    by_hold None rest = rest
    by_hold (Some h) rest = ap (λ (rows : List Row). hold_row k d of.title h ∷ rows) rest
