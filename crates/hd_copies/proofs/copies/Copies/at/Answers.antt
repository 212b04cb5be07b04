use Rattle.std.proofs.Common.{◌≡◌, ◌<◌, ◌∙◌, get_or, ap, arith}
use Rattle.std.specs.Arc.{arc_value}
use Rattle.std.specs.FinMap as map
use Rattle.hd_shelf.specs.PlacesValue.{PlacesValue}
use Rattle.hd_catalogue.specs.Contents.{facts_of}
use Rattle.hd_copies.specs.Standing.{standing}
use Rattle.hd_copies.specs.Indexing.{copy_at, no_shelf}
use Rattle.hd_copies.proofs.Indexed.{shelf_at}
use Rattle.hd_copies.proofs.Answering.{at-is}
use Rattle.hd_copies.proofs.copies.Copies.at.Goals as goal

pub returns : goal.returns
unfolding standing
returns g c =
    let k = facts_of (arc_value c.self.inside.catalogue) in
    let x = c.self.inside.indexes in
    let branch : c.args.branch < k.branches = rw (← c.self.view_is) at c.requires in
    let read : c.index.result.now ≡ get_or x.shelves c.number.result c.index.result.now =
    c.index.ensures
    ∙ ap (λ (v : _). get_or v.indexes.shelves c.number.result c.index.result.now) c.self-inside.view_is in
    let shelf : c.index.result.now ≡ get_or x.shelves c.args.branch no_shelf =
    shelf_at x.shelves c.number.result c.args.branch c.index.result.now c.number.ensures.value
    (omega (arith, branch, c.self.invariant.indexed.shelves.branches_in)) read in
    let at : c.at.result ≡ copy_at x.shelves c.args.branch c.args.place =
    c.at.ensures.value ∙ ap (λ (s : PlacesValue). map.get s.copies c.args.place) shelf in
    rw (← c.self.view_is) (at-is k c.self.inside.states.items x c.args.branch c.args.place c.at.result
    c.self.invariant branch at)
