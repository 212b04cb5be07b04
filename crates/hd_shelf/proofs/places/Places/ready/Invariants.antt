use Rattle.std.proofs.Common.{◌≡◌, ◌≤◌, ◌+◌, ◌*◌, length}
use Rattle.hd_shelf.specs.declared.boards.TheConstants.{SPAN}
use Rattle.hd_shelf.specs.Taken.{AreCounts, is_free_after}
use Rattle.hd_shelf.proofs.places.Places.ready.Given as goal

abbrev pub invariant-loop-others : goal.invariant-loop-others
invariant-loop-others g l = record {
  same_copies : l.self-inside.table.entries ≡ l.fn.self.copies;
  size : l.self-inside.table.size ≡ l.place + 1;
  counts : AreCounts (is_free_after l.fn.self.copies l.others) l.self-inside.boards;
  enough : l.place ≤ SPAN * length l.self-inside.boards;
}
