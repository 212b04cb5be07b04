use Rattle.std.proofs.Common.{◌≡◌, ◌++◌, drop, string_bytes}
use Rattle.hd_door_client.specs.Lines.{first_line}
use Rattle.hd_door_client.proofs.status.first_line.Given as goal

-- what is shown of the bytes so far is written
abbrev pub invariant-loop-byte : goal.invariant-loop-byte
invariant-loop-byte l =
    first_line l.text ≡ string_bytes l.line ++ first_line (drop l.byte-index l.text)
