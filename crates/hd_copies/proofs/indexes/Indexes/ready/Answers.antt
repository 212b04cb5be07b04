use Rattle.std.proofs.Common.{◌≡◌, ◌<◌, length, get_or, arith}
use Rattle.std.proofs.lemmas.Result.{on_ok_weaker, on_err_weaker}
use Rattle.hd_copies.specs.Indexing.{no_shelf}
use Rattle.hd_copies.proofs.Indexed.{shelf_at}
use Rattle.hd_copies.proofs.Rooms.{grows, indexes-kept, room-more, room-set}
use Rattle.hd_copies.proofs.indexes.Indexes.ready.Goals as goal

pub returns-clause-ok : goal.returns-clause-ok
returns-clause-ok g c =
    let shelves = c.self.inside.shelves.items in
    let l : c.args.branch < length shelves = rw (← c.self.view_is) at c.requires.branch in
    rw c.number.ensures.value (on_ok_weaker c.ready.result
    (λ is. omega (arith, room-set shelves c.args.branch c.ready.new.self l, is))
    c.ready.ensures.ok)

pub returns-clause-err : goal.returns-clause-err
returns-clause-err g c =
    let shelves = c.self.inside.shelves.items in
    let l : c.args.branch < length shelves = rw (← c.self.view_is) at c.requires.branch in
    let shelf : c.index_mut.result.now ≡ get_or shelves c.args.branch no_shelf =
    shelf_at shelves c.number.result c.args.branch c.index_mut.result.now c.number.ensures.value l
    c.index_mut.ensures.value in
    rw (← c.self.view_is, c.number.ensures.value)
    (on_err_weaker c.ready.result
    (indexes-kept _ c.args.branch c.ready.new.self c.index_mut.result.now shelf c.ready.ensures.copies)
    c.ready.ensures.err)

pub returns-clause-room : goal.returns-clause-room
returns-clause-room g c = λ b.
    let shelves = c.self.inside.shelves.items in
    let l : c.args.branch < length shelves = rw (← c.self.view_is) at c.requires.branch in
    let shelf : c.index_mut.result.now ≡ get_or shelves c.args.branch no_shelf =
    shelf_at shelves c.number.result c.args.branch c.index_mut.result.now c.number.ensures.value l
    c.index_mut.ensures.value in
    rw (← c.self.view_is, c.number.ensures.value) (room-more shelves c.args.branch b c.ready.new.self l
    (rw (← shelf) (grows c.ready.result c.index_mut.result.now.room c.ready.new.self.room c.args.place
    c.ready.ensures.ok
    c.ready.ensures.err)))
