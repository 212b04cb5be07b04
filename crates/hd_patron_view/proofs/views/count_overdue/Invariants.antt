use Rattle.std.proofs.Common.{◌≡◌, ◌+◌, ◌<◌, ◌^◌, ℕ, All, filter_map, length}
use Rattle.hd_desk.specs.Desks.{desk_of, facts}
use Rattle.hd_patron_view.specs.Held.{overdue_copy}
use Rattle.hd_patron_view.proofs.views.count_overdue.Given as goal

abbrev pub invariant-loop-copy : goal.invariant-loop-copy
invariant-loop-copy g l =
    (l.overdue + length (filter_map (overdue_copy (desk_of l.desk) l.day) l.copy-iterator)
    ≡ length (filter_map (overdue_copy (desk_of l.desk) l.day) l.fn.copies))
    × All (λ (copy : ℕ). copy < (facts l.desk).copies) l.copy-iterator
    × (l.overdue + length l.copy-iterator < 2 ^ 32)
