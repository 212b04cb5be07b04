use Rattle.std.proofs.Common.{◌≡◌, ◌*◌, ◌∙◌, length, drop, None, Some, nat_lt, position, refl, sym, ap, arith}
use Rattle.std.proofs.lemmas.List.{take_rest}
use Rattle.hd_shelf.specs.declared.boards.TheConstants.{SPAN}
use Rattle.hd_shelf.proofs.BoardLemmas.{none_open, none_in_bay, first_in_bay, bay_begins}
use Rattle.hd_shelf.proofs.boards.Boards.first_open.Goals as goal

pub returns-in_err-bay : goal.returns-in_err-bay
returns-in_err-bay g c =
    let none : position (nat_lt 0) c.self.inside.open_boards.items ≡ None =
    sym (c.in_err-bay.ensures ∙ ap (λ bays. position (nat_lt 0) bays) c.as_slice.ensures.value)
    in rw (c.from_residual.ensures, ← c.self.view_is)
    (sym (none_open c.self.inside.free_places.items c.self.inside.open_boards.items c.self.invariant none))

pub overflow_mul-before : goal.overflow_mul-before
overflow_mul-before g c =
    let bay : position (nat_lt 0) c.self.inside.open_boards.items ≡ Some c.in_ok-bay.bay =
    sym (c.in_ok-bay.ensures ∙ ap (λ bays. position (nat_lt 0) bays) c.as_slice.ensures.value)
    in omega (
      arith,
      bay_begins c.self.inside.free_places.items c.self.inside.open_boards.items c.in_ok-bay.bay
          c.self.invariant bay,
      c.self.inside.free_places.ok,
    )

pub slice_bounds-first_above_zero-count : goal.slice_bounds-first_above_zero-count
slice_bounds-first_above_zero-count g c =
    let bay : position (nat_lt 0) c.self.inside.open_boards.items ≡ Some c.in_ok-bay.bay =
    sym (c.in_ok-bay.ensures ∙ ap (λ bays. position (nat_lt 0) bays) c.as_slice.ensures.value)
    in omega (
      arith,
      bay_begins c.self.inside.free_places.items c.self.inside.open_boards.items c.in_ok-bay.bay
          c.self.invariant bay,
      ap length c.as_slice-2.ensures.value,
    )

pub slice_bounds-first_above_zero-start : goal.slice_bounds-first_above_zero-start
slice_bounds-first_above_zero-start g c =
    let bay : position (nat_lt 0) c.self.inside.open_boards.items ≡ Some c.in_ok-bay.bay =
    sym (c.in_ok-bay.ensures ∙ ap (λ bays. position (nat_lt 0) bays) c.as_slice.ensures.value)
    in omega (
      arith,
      bay_begins c.self.inside.free_places.items c.self.inside.open_boards.items c.in_ok-bay.bay
          c.self.invariant bay,
      ap length c.as_slice-2.ensures.value,
    )

pub returns-in_err-board : goal.returns-in_err-board
returns-in_err-board g c =
    let bay : position (nat_lt 0) c.self.inside.open_boards.items ≡ Some c.in_ok-bay.bay =
    sym (c.in_ok-bay.ensures ∙ ap (λ bays. position (nat_lt 0) bays) c.as_slice.ensures.value)
    in let rest = take_rest c.as_slice-2.result.now (c.in_ok-bay.bay * SPAN)
    ∙ ap (drop (c.in_ok-bay.bay * SPAN)) c.as_slice-2.ensures.value
    in let none : position (nat_lt 0) (drop (c.in_ok-bay.bay * SPAN) c.self.inside.free_places.items) ≡ None =
    sym (c.in_err-board.ensures ∙ ap (λ boards. position (nat_lt 0) boards) rest)
    in rw (c.from_residual-in_err-board.ensures, ← c.self.view_is)
    (sym (none_in_bay c.self.inside.free_places.items c.self.inside.open_boards.items c.in_ok-bay.bay
    (c.in_ok-bay.bay * SPAN)
    c.self.invariant bay refl none))

pub returns : goal.returns
returns g c =
    let bay : position (nat_lt 0) c.self.inside.open_boards.items ≡ Some c.in_ok-bay.bay =
    sym (c.in_ok-bay.ensures ∙ ap (λ bays. position (nat_lt 0) bays) c.as_slice.ensures.value)
    in let rest = take_rest c.as_slice-2.result.now (c.in_ok-bay.bay * SPAN)
    ∙ ap (drop (c.in_ok-bay.bay * SPAN)) c.as_slice-2.ensures.value
    in let some : position (nat_lt 0) (drop (c.in_ok-bay.bay * SPAN) c.self.inside.free_places.items)
    ≡ Some c.in_ok-board.board =
    sym (c.in_ok-board.ensures ∙ ap (λ boards. position (nat_lt 0) boards) rest)
    in rw (← c.self.view_is)
    (sym (first_in_bay c.self.inside.free_places.items c.self.inside.open_boards.items c.in_ok-bay.bay
    (c.in_ok-bay.bay * SPAN) c.in_ok-board.board c.self.invariant bay refl some))
