use Rattle.std.proofs.Common.{◌≡◌, ◌∙◌, Some, ap, slice_get, sym}
use Rattle.hd_chunks.specs.Chunks.{items_of}
use Rattle.hd_queue.specs.Holds.{count_before, hold_of}
use Rattle.hd_queue.proofs.ChunksLemmas.{hold_there}
use Rattle.hd_queue.proofs.StampsLemmas.{at_stamp}
use Rattle.hd_queue.proofs.list.HoldList.at_stamp.Goals as goal

pub returns : goal.returns
returns g c =
    λ patron hold is stamp.
    let list = c.self.inside.list in
    let holds = items_of list in
    let same : c.args.self.now.holds ≡ holds = ap (λ q. q.holds) (sym c.self.view_is) in
    let there : hold_of holds patron ≡ Some hold = rw (← same) is in
    let has = hold_there list.chunks c.args.stamp c.place_of-at.result patron hold c.place_of-at.ensures
    c.self.invariant.0 there stamp in
    let place = c.place_of-at.ensures.count ∙ ap (count_before holds) (sym stamp) in
    c.copied.ensures ∙ c.get.ensures.item has ∙ ap (slice_get holds) place
    ∙ at_stamp holds patron hold c.self.invariant.0 there
