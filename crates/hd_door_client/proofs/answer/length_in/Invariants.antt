use Rattle.std.proofs.Common.{◌≡◌, drop, map}
use Rattle.httparse.specs.Spans.{header_bytes}
use Rattle.hd_door_client.specs.Answers.{length_value}
use Rattle.hd_door_client.proofs.answer.length_in.Given as goal

-- none so far tells the length
abbrev pub invariant-loop-field : goal.invariant-loop-field
invariant-loop-field l =
    length_value (map (header_bytes l.bytes) l.fields)
    ≡ length_value (map (header_bytes l.bytes) (drop l.field-index l.fields))
