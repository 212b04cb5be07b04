use Rattle.std.proofs.Common.{◌≡◌, ◌≤◌, ◌++◌, take, vec_capacity}
use Rattle.std.specs.List.{flat_map}
use Rattle.hd_message.specs.Part.{part_text}
use Rattle.hd_message.proofs.appending.append.Given as goal

-- the parts so far stand behind what stood there, and the room did not shrink
abbrev pub invariant-loop-part : goal.invariant-loop-part
invariant-loop-part g l = record {
  text : l.out.items ≡ l.fn.out.items ++ flat_map part_text (take l.part-index l.parts);
  room : vec_capacity l.fn.out ≤ vec_capacity l.out;
}
