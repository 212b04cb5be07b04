use Rattle.std.proofs.Common.{◌≡◌, ◌++◌, ◌+◌, take, vec_capacity, vec_len}
use Rattle.hd_records.proofs.lists.append.Given as goal

abbrev pub invariant-loop-value : goal.invariant-loop-value
invariant-loop-value g l = record {
  items : l.list.items ≡ l.fn.list.items ++ take l.value-index l.values;
  size : vec_len l.list ≡ vec_len l.fn.list + l.value-index;
  room : vec_capacity l.list ≡ vec_capacity l.fn.list;
}
