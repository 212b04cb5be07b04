use Rattle.std.proofs.Common.{◌≡◌, ◌∙◌, Some, ap, arith, refl, remove}
use Rattle.std.proofs.lemmas.Grind.{common_steps}
use Rattle.hd_chunks.specs.Chunks.{items_of}
use Rattle.hd_queue.specs.Holds.{hold_of, without}
use Rattle.hd_queue.proofs.ChunksLemmas.{hold_there}
use Rattle.hd_queue.proofs.HoldsLemmas.{HasPatronsOnce-filter, IsInOrder-filter, remove-count_before}
use Rattle.hd_queue.proofs.list.HoldList.remove.Given.{Over}
use Rattle.hd_queue.proofs.list.HoldList.remove.Goals.{After-place_of-at, After-remove}
use Rattle.hd_queue.proofs.list.HoldList.remove.Goals as goal

-- the hold is one of the list's
listed : (g : Over) (c : After-place_of-at g) → hold_of (items_of c.self.inside.list) c.args.hold.now.patron
    ≡ Some c.args.hold.now
listed g c =
    let same : c.args.self.now.holds ≡ items_of c.self.inside.list = grind (arith, common_steps) in
    rw (← same) c.requires

pub remove-requires : goal.remove-requires
remove-requires g c =
    let there = (goal.at.remove-requires g c).After-place_of-at in
    let hold = c.args.hold.now in
    hold_there c.self.inside.list.chunks hold.stamp c.place_of-at.result hold.patron hold
    c.place_of-at.ensures c.self.invariant.0
    (listed g there) refl

-- the list is without it
removed : (g : Over) (c : After-remove g)
    → hold_of (items_of c.self.inside.list) c.args.hold.now.patron ≡ Some c.args.hold.now
    → items_of c.remove.new.self ≡ without (items_of c.self.inside.list) c.args.hold.now.patron
removed g c there =
    let holds = items_of c.self.inside.list in
    c.remove.ensures.items ∙ ap (λ n. remove holds n) c.place_of-at.ensures.count
    ∙ remove-count_before holds c.args.hold.now c.self.invariant.0 c.self.invariant.1 there

pub invariant_of-self : goal.invariant_of-self
invariant_of-self g c =
    let there = (goal.at.invariant_of-self g c).After-place_of-at in
    rw (removed g c (listed g there))
    (IsInOrder-filter _ _ c.self.invariant.0, HasPatronsOnce-filter _ _ c.self.invariant.1)

pub returns-clause-holds : goal.returns-clause-holds
returns-clause-holds g c =
    let at = goal.at.returns-clause-holds g c in
    grind (arith, common_steps, removed g at.After-remove (listed g at.After-place_of-at))
