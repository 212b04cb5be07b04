use Rattle.std.proofs.Common.{◌≡◌, ◌≤◌, ℕ, map}
use Rattle.std.specs.List.{All, AllWithin}
use Rattle.hd_holds.specs.HeldListsValue.{HeldListValue}
use Rattle.hd_holds.proofs.held_lists.make_room.Given as goal

abbrev pub invariant-loop-at : goal.invariant-loop-at
invariant-loop-at g l = record {
  titles : map (λ (x : HeldListValue). x.titles) l.lists
      ≡ map (λ (x : HeldListValue). x.titles) l.initial.lists;
  done : AllWithin (λ (x : HeldListValue). l.more ≤ x.room) l.lists 0 l.at;
  room : (n : ℕ) → All (λ (x : HeldListValue). n ≤ x.room) l.initial.lists
      → All (λ (x : HeldListValue). n ≤ x.room) l.lists;
}
