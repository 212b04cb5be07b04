use Rattle.std.proofs.Common.{◌≡◌, map, take}
use Rattle.hd_turn_store.specs.Tables.{column_of}
use Rattle.hd_turn_store.proofs.table.are_columns.Given as goal

-- the first columns are these
abbrev pub invariant-loop-at : goal.invariant-loop-at
invariant-loop-at l = take l.at l.found ≡ map column_of (take l.at l.wanted)
