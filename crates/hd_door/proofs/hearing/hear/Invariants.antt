use Rattle.std.proofs.Common.{◌-◌, ◌≤◌, length}
use Rattle.std.specs.Io.KnownBytes.{Consumes}
use Rattle.httparse.specs.Grammar.{HasNoRequest}
use Rattle.hd_door.proofs.hearing.hear.Given as goal

-- all that was read is kept, and is no head yet
abbrev pub invariant-loop-from : goal.invariant-loop-from
invariant-loop-from g l = record {
  taken : Consumes (g.I.Read.remaining l.initial.from) (g.I.Read.remaining l.from) l.request.items;
  most : length l.request.items ≤ 8192;
  none : HasNoRequest l.request.items;
}

abbrev pub decreases-loop-from : goal.decreases-loop-from
decreases-loop-from g l = 8192 - length l.request.items
