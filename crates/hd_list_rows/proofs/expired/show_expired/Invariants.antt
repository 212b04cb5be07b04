use Rattle.std.proofs.Common.{◌≡◌, ◌+◌, ◌-◌, ◌<◌, ◌≤◌, None, ◌++◌, length}
use Rattle.hd_desk.specs.Asking.{queues_of}
use Rattle.hd_desk.specs.Desks.{desk_of, facts}
use Rattle.hd_list_rows.specs.Expired.{expired_rows, holds_at, of_titles, title_at}
use Rattle.hd_list_rows.proofs.expired.show_expired.Given as goal

-- what the page will have with what is left, and how many holds may still be gone over
abbrev pub invariant-loop-number : goal.invariant-loop-number
invariant-loop-number g l =
    let k = facts l.desk in
    let d = desk_of l.desk in
    let queues = queues_of l.desk in
    let rest = of_titles queues (k.titles - l.number) l.number l.stamp in
    (l.page.next ≡ None)
    × (l.page.rows ++ expired_rows k d l.day rest ≡ expired_rows k d l.day (holds_at k d queues l.first))
    × (65536 + length rest ≡ l.left + length (holds_at k d queues l.first))
    × (title_at l.first ≤ l.number)
    × (title_at l.first < l.number → l.stamp ≡ 0)
