use Rattle.std.proofs.Common.{◌≡◌, ◌<◌, ◌/◌, ◌+◌, ◌∙◌, length, slice_index, arith}
use Rattle.std.proofs.lemmas.List.{get_or_default}
use Rattle.hd_shelf.specs.declared.boards.TheConstants.{SPAN}
use Rattle.hd_shelf.proofs.BoardLemmas.{AreInBays-open, bay_of, bay_fits}
use Rattle.hd_shelf.proofs.boards.Boards.raise.Goals as goal

pub overflow_add-index_mut : goal.overflow_add-index_mut
overflow_add-index_mut g c =
    let inside = c.self.inside
    in let known : c.args.board < length inside.free_places.items = rw c.self.view_is c.requires.known
    in let within =
    bay_of inside.free_places.items inside.open_boards.items c.args.board c.self.invariant known
    in omega (
      arith,
      c.index_mut-then-places-eq0.ensures.value,
      get_or_default inside.open_boards.items
          (c.args.board / SPAN) c.index_mut-then-places-eq0.result.now 0 within,
      bay_fits inside.free_places.items inside.open_boards.items c.args.board c.self.invariant known,
    )

pub invariant_of-self : goal.invariant_of-self
invariant_of-self g c =
    let inside = c.self.inside
    in let known : c.args.board < length inside.free_places.items = rw c.self.view_is c.requires.known
    in let within =
    bay_of inside.free_places.items inside.open_boards.items c.args.board c.self.invariant known
    in let places : c.index-places.result.now ≡ slice_index inside.free_places.items c.args.board =
    c.index-places.ensures
    ∙ get_or_default inside.free_places.items c.args.board c.index-places.result.now 0 known
    in let boards : c.index_mut-then-places-eq0.result.now
    ≡ slice_index inside.open_boards.items (c.args.board / SPAN) =
    c.index_mut-then-places-eq0.ensures.value
    ∙ get_or_default inside.open_boards.items
    (c.args.board / SPAN) c.index_mut-then-places-eq0.result.now 0 within
    in rw boards (AreInBays-open inside.free_places.items inside.open_boards.items c.args.board
    (c.index-places.result.now + 1)
    c.self.invariant known (omega (arith, places, c.if-places-eq0.true)) (omega arith))
