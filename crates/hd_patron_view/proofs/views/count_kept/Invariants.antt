use Rattle.std.proofs.Common.{◌≡◌, ◌+◌, ◌≤◌, drop, filter_map, length}
use Rattle.hd_desk.specs.Desks.{desk_of}
use Rattle.hd_patron_view.specs.Held.{kept_copy}
use Rattle.hd_patron_view.proofs.views.count_kept.Given as goal

abbrev pub invariant-loop-title : goal.invariant-loop-title
invariant-loop-title g l =
    (l.kept + length (filter_map (kept_copy (desk_of l.desk) l.patron) (drop l.title-index l.held))
    ≡ length (filter_map (kept_copy (desk_of l.desk) l.patron) l.held))
    × (l.kept ≤ l.title-index)
