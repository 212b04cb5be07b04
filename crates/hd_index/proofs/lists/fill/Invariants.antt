use Rattle.std.proofs.Common.{◌≡◌, ℕ, ◌+◌, vec_len, vec_capacity}
use Rattle.hd_index.specs.Rows.{row_of}
use Rattle.hd_index.proofs.lists.fill.Given as goal

abbrev pub invariant-loop : goal.invariant-loop
invariant-loop g l = record {
  rows : (n : ℕ) → row_of n l.rows.items ≡ row_of n l.fn.rows.items;
  len : vec_len l.rows ≡ vec_len l.fn.rows + l.counter;
  capacity : vec_capacity l.rows ≡ vec_capacity l.fn.rows;
}
