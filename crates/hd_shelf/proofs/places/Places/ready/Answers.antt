use Rattle.std.proofs.Common.{◌≡◌, ◌-◌, ◌+◌, ◌/◌, ◌∙◌, None, ap, arith, length, length-set, slice_index}
use Rattle.std.specs.FinMap.{get}
use Rattle.hd_shelf.specs.declared.boards.TheConstants.{SPAN}
use Rattle.hd_shelf.proofs.ShelfLemmas.{IsKept-longer, counts-longer, counts-more, board_has_room}
use Rattle.hd_shelf.proofs.places.Places.ready.Goals as goal

pub invariant_of-self-in_err-grow-2 : goal.invariant_of-self-in_err-grow-2
invariant_of-self-in_err-grow-2 g c =
    rw (c.grow-then-room-last.ensures.entries, c.in_err-grow-2.ensures.err)
    (IsKept-longer c.self.inside.table.entries
    (c.self.inside.table.size - 1) c.self.inside.boards c.grow.new.self c.self.invariant
    c.grow.ensures.same (omega (arith, c.in_ok-grow.ensures.ok)))

pub loop-others-init : goal.loop-others-init
loop-others-init g c = record {
  same_copies = c.grow-then-room-last.ensures.entries ∙ ap (λ p. p.copies) c.self.view_is;
  size = omega (arith, c.in_ok-grow-2.ensures.ok, c.room-room.ensures.room, ap (λ p. p.room) c.self.view_is);
  counts = rw (c.room-room.ensures.room, ← c.self.view_is)
      (counts-longer c.self.inside.table.entries
      (c.self.inside.table.size - 1) c.self.inside.boards c.grow.new.self c.self.invariant.free
      c.grow.ensures.same);
  enough = omega (arith, c.in_ok-grow.ensures.ok, c.div_ceil.ensures);
}

pub raise-requires-clause-taken : goal.raise-requires-clause-taken
raise-requires-clause-taken g c =
    board_has_room c.args.self.now.copies c.loop-others.others c.loop-others.self-inside.boards
    c.loop-others.invariant.counts
    (omega (arith, c.loop-others.invariant.enough))

pub loop-others-preserved : goal.loop-others-preserved
loop-others-preserved g c =
    let boards = c.loop-others.self-inside.boards
    in let others = c.loop-others.others
    in let none : get c.args.self.now.copies (others + 1) ≡ None =
    rw (← c.self.view_is) (c.self.invariant.above (others + 1)
    (omega (arith, c.room-room.ensures.room, ap (λ p. p.room) c.self.view_is)))
    in record {
      same_copies = c.loop-others.invariant.same_copies;
      size = c.loop-others.invariant.size;
      counts =
          rw c.raise.ensures (counts-more c.args.self.now.copies others boards c.loop-others.invariant.counts
          (omega (arith, c.loop-others.invariant.enough)) none);
      enough = omega (
        arith,
        c.loop-others.invariant.enough,
        ap length c.raise.ensures,
        length-set boards (others / SPAN) (slice_index boards (others / SPAN) + 1),
      );
    }
