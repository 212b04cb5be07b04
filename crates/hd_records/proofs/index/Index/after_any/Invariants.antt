use Rattle.std.proofs.Common.{◌≡◌, map, take}
use Rattle.hd_index.specs.Rising.{above}
use Rattle.hd_records.specs.Index.{listed_under}
use Rattle.hd_records.proofs.index.Index.after_any.Given as goal

abbrev pub invariant-loop-key : goal.invariant-loop-key
invariant-loop-key g l = l.union ≡ map (λ x. above l.number (listed_under x l.self)) (take l.key-index l.keys)
