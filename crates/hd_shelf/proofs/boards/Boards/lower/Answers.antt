use Rattle.std.proofs.Common.{◌≡◌, ◌<◌, ◌/◌, ◌-◌, ◌∙◌, length, slice_index, arith}
use Rattle.std.proofs.lemmas.List.{get_or_default}
use Rattle.hd_shelf.specs.declared.boards.TheConstants.{SPAN}
use Rattle.hd_shelf.proofs.BoardLemmas.{AreInBays-close, bay_of, bay_is_open}
use Rattle.hd_shelf.proofs.boards.Boards.lower.Goals as goal

pub overflow_sub-index_mut : goal.overflow_sub-index_mut
overflow_sub-index_mut g c =
    let inside = c.self.inside
    in let known : c.args.board < length inside.free_places.items = rw c.self.view_is c.requires.known
    in let free : 0 < slice_index inside.free_places.items c.args.board = rw c.self.view_is c.requires.free
    in let within =
    bay_of inside.free_places.items inside.open_boards.items c.args.board c.self.invariant known
    in omega (
      arith,
      c.index_mut-then-places-eq0.ensures.value,
      get_or_default inside.open_boards.items
          (c.args.board / SPAN) c.index_mut-then-places-eq0.result.now 0 within,
      bay_is_open inside.free_places.items inside.open_boards.items c.args.board c.self.invariant known free,
    )

pub invariant_of-self : goal.invariant_of-self
invariant_of-self g c =
    let inside = c.self.inside
    in let known : c.args.board < length inside.free_places.items = rw c.self.view_is c.requires.known
    in let free : 0 < slice_index inside.free_places.items c.args.board = rw c.self.view_is c.requires.free
    in let within =
    bay_of inside.free_places.items inside.open_boards.items c.args.board c.self.invariant known
    in let boards : c.index_mut-then-places-eq0.result.now
    ≡ slice_index inside.open_boards.items (c.args.board / SPAN) =
    c.index_mut-then-places-eq0.ensures.value
    ∙ get_or_default inside.open_boards.items
    (c.args.board / SPAN) c.index_mut-then-places-eq0.result.now 0 within
    in rw boards (AreInBays-close inside.free_places.items inside.open_boards.items c.args.board
    (c.index.result.now - 1)
    c.self.invariant known free c.if-places-eq0.true)
