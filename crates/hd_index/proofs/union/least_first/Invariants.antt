use Rattle.std.proofs.Common.{◌≡◌, None, drop, map}
use Rattle.hd_index.specs.Union.{least_first}
use Rattle.hd_index.proofs.union.least_first.Given as goal

abbrev pub invariant-loop-list : goal.invariant-loop-list
invariant-loop-list l =
    least_first l.least (map (λ list. list.now) (drop l.list-index l.lists))
    ≡ least_first None (map (λ list. list.now) l.lists)
