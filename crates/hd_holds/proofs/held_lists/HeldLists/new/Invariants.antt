use Rattle.std.proofs.Common.{◌≡◌, ◌≤◌, [], vec_capacity, vec_len}
use Rattle.std.specs.List.{All}
use Rattle.hd_holds.specs.HeldListsValue.{HeldListValue}
use Rattle.hd_holds.proofs.held_lists.HeldLists.new.Given as goal

abbrev pub invariant-loop : goal.invariant-loop
invariant-loop g l = record {
  empty : All (λ (x : HeldListValue). x.titles ≡ []) l.lists.items;
  len : vec_len l.lists ≡ l.counter;
  capacity : l.count ≤ vec_capacity l.lists;
}
