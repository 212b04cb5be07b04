use Rattle.std.proofs.Common.{◌≡◌, ◌++◌, drop}
use Rattle.hd_log.specs.Masks.{masked, masked_from}
use Rattle.hd_log.proofs.masking.mask.Given as goal

-- what is told of the bytes so far, and of those to come
abbrev pub invariant-loop-byte : goal.invariant-loop-byte
invariant-loop-byte l =
    l.told.items ++ masked_from l.place l.left (drop l.byte-index l.line) ≡ masked l.line
