use Rattle.std.proofs.Common.{◌≡◌, drop, filter_map}
use Rattle.hd_patron_view.specs.Cutting.{filled}
use Rattle.hd_desk.specs.Desks.{desk_of}
use Rattle.hd_patron_view.specs.Held.{waiting_title}
use Rattle.hd_patron_view.proofs.pages.list_waiting.Given as goal

-- what the page will have, with what is left
abbrev pub invariant-loop-title : goal.invariant-loop-title
invariant-loop-title g l =
    filled g.row.N l.cut l.items.items
    (filter_map (waiting_title (desk_of l.desk) l.patron) (drop l.title-index l.held))
    ≡ filled g.row.N l.fn.cut l.fn.items.items (filter_map (waiting_title (desk_of l.desk) l.patron) l.held)
