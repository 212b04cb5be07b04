-- A patron's holds, from the titles that they hold, and what is listed of each.
use Rattle.std.specs.Prelude.{Option, None, Some, option_map, option_and_then, filter_map, List}
use Rattle.std.specs.Prelude.{if◌then◌else◌}
use Rattle.hd_rules.specs.declared.holds.Hold.{Hold}
use Rattle.hd_rules.specs.declared.views.TitleHold.{TitleHold}
use Rattle.hd_rules.specs.declared.views.ListItem.{ListItem}
use Rattle.hd_rules.specs.declared.views.ListItem.TheVariants.{Copy as CopyItem, Title as TitleItem}
use Rattle.hd_rules.specs.Numbers.{CopyNo, PatronNo, Day}
use Rattle.hd_rules.specs.Desk.{Desk}
use Rattle.hd_rules.specs.Views.{is_overdue, is_shelved}
use Rattle.hd_holds.specs.declared.held_title.HeldTitle.{HeldTitle}

-- their hold of the title, with the title
abbrev pub hold_at : Desk → PatronNo → HeldTitle → Option TitleHold
hold_at d p held = option_map (λ (h : Hold). record { title = held.title; hold = h }) (d.hold held.title p)

-- their holds of these titles
abbrev pub held_by : Desk → PatronNo → List HeldTitle → List TitleHold
held_by d p held = filter_map (hold_at d p) held

-- the copy of their hold of the title, where it is kept
abbrev pub kept_copy : Desk → PatronNo → HeldTitle → Option ListItem
kept_copy d p held =
    option_and_then (λ (h : Hold). if is_shelved d h.copy then option_map CopyItem h.copy else None)
    (d.hold held.title p)

-- the title, where their hold of it waits
abbrev pub waiting_title : Desk → PatronNo → HeldTitle → Option ListItem
waiting_title d p held =
    option_and_then (λ (h : Hold). if is_shelved d h.copy then None else Some (TitleItem held.title))
    (d.hold held.title p)

-- the copy, where it is overdue
abbrev pub overdue_copy : Desk → Day → CopyNo → Option ListItem
overdue_copy d day c = if is_overdue day (d.copy c) then Some (CopyItem c) else None
