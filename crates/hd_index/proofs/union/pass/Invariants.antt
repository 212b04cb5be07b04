use Rattle.std.proofs.Common.{◌≡◌, ◌++◌, drop, map, take}
use Rattle.hd_index.specs.Union.{past}
use Rattle.hd_index.proofs.union.pass.Given as goal

abbrev pub invariant-loop-list : goal.invariant-loop-list
invariant-loop-list l =
    let lists = map (λ list. list.now) l.initial.lists in
    map (λ list. list.now) l.lists ≡ map (past l.number) (take l.list-index lists) ++ drop l.list-index lists
