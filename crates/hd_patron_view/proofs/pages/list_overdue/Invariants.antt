use Rattle.std.proofs.Common.{◌≡◌, ℕ, ◌<◌, All, filter_map}
use Rattle.hd_patron_view.specs.Cutting.{filled}
use Rattle.hd_desk.specs.Desks.{desk_of, facts}
use Rattle.hd_patron_view.specs.Held.{overdue_copy}
use Rattle.hd_patron_view.proofs.pages.list_overdue.Given as goal

-- what the page will have, with what is left
abbrev pub invariant-loop-copy : goal.invariant-loop-copy
invariant-loop-copy g l =
    (filled g.row.N l.cut l.items.items (filter_map (overdue_copy (desk_of l.desk) l.day) l.copy-iterator)
    ≡ filled g.row.N l.fn.cut l.fn.items.items (filter_map (overdue_copy (desk_of l.desk) l.day) l.fn.copies))
    × All (λ (copy : ℕ). copy < (facts l.desk).copies) l.copy-iterator
