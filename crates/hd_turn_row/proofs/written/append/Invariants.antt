use Rattle.std.proofs.Common.{take}
use Rattle.hd_turn_row.specs.Written.{IsWritten}
use Rattle.hd_turn_row.proofs.written.append.Given as goal

-- the numbers so far stand behind what stood there
abbrev pub invariant-loop-number : goal.invariant-loop-number
invariant-loop-number g l = IsWritten (take l.number-index l.numbers) l.fn.out.items l.out.items
