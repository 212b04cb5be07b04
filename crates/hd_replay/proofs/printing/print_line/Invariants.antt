use Rattle.std.proofs.Common.{◌≡◌, ◌++◌, flat_map, take}
use Rattle.hd_replay.proofs.printing.print_line.Given as goal

-- the parts so far are printed
abbrev pub invariant-loop-part : goal.invariant-loop-part
invariant-loop-part g l = l.out.items
    ≡ l.fn.out.items ++ flat_map (λ part. part.now) (take l.part-index l.part-items)
