use Rattle.std.proofs.Common.{◌≡◌, ◌≤◌, ◌+◌, vec_len, vec_capacity}
use Rattle.hd_table.specs.Slots.{map_of}
use Rattle.hd_table.proofs.table.Table.grow.Given as goal

abbrev pub invariant-loop : goal.invariant-loop
invariant-loop g l = record {
  same_entries : map_of l.self-inside.slots.items ≡ l.fn.self.entries;
  length : vec_len l.self-inside.slots ≡ l.fn.self.size + l.counter;
  room : l.fn.self.size + l.more ≤ vec_capacity l.self-inside.slots;
}
