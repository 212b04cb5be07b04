use Rattle.std.proofs.Common.{◌≡◌, ℕ, None, length}
use Rattle.hd_copies.specs.Indexing.{copy_at}
use Rattle.hd_copies.proofs.indexes.empty_shelves.Given as goal

abbrev pub invariant-loop : goal.invariant-loop
invariant-loop g l = record {
  branches : length l.shelves.items ≡ l.counter;
  empty : (b place : ℕ) → copy_at l.shelves.items b place ≡ None;
}
