use Rattle.std.proofs.Common.{◌≡◌, ◌-◌, ◌++◌}
use Rattle.hd_rules.specs.Growth.{arrivals}
use Rattle.hd_catalogue.specs.Contents.{facts_of}
use Rattle.hd_joining.proofs.arriving.with_arrivals.Given as goal

-- the rows so far, and the arrivals of the copies that are left, are all
abbrev pub invariant-loop-number : goal.invariant-loop-number
invariant-loop-number g l =
    let k = facts_of l.catalogue in
    l.rows.items ++ arrivals k.home l.number (k.copies - l.number)
    ≡ l.initial.rows.items ++ arrivals k.home l.from (k.copies - l.from)
