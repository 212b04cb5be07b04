use Rattle.std.proofs.Common.{◌≡◌, ◌+◌, ◌≤◌, ◌++◌, drop, take, vec_capacity}
use Rattle.std.specs.List.{flat_map}
use Rattle.hd_message.specs.PatronReplies.{fitting, item_field}
use Rattle.hd_message.proofs.information_replies.append_items.Given as goal

-- the items so far stand behind what stood there, those that there is room for still are the same, and the
-- room did not shrink
abbrev pub invariant-loop-name : goal.invariant-loop-name
invariant-loop-name g l = record {
  text : l.out.items ≡ l.fn.out.items ++ flat_map (item_field l.code) (take l.name-index l.names);
  count : l.name-index + fitting l.code l.left (drop l.name-index l.names) ≡ fitting l.code l.room l.names;
  room : vec_capacity l.fn.out ≤ vec_capacity l.out;
}
