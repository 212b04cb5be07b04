use Rattle.std.proofs.Common.{◌≡◌, ◌∙◌, ap, arith, insert}
use Rattle.std.proofs.lemmas.Grind.{common_steps}
use Rattle.hd_chunks.specs.Chunks.{items_of}
use Rattle.hd_queue.specs.Holds.{with_hold}
use Rattle.hd_queue.proofs.HoldsLemmas.{HasPatronsOnce-with_hold, IsInOrder-with_hold, insert-count_before}
use Rattle.hd_queue.proofs.list.HoldList.put.Given.{Over}
use Rattle.hd_queue.proofs.list.HoldList.put.Goals.{After-insert}
use Rattle.hd_queue.proofs.list.HoldList.put.Goals as goal

-- the list has the hold at its stamp
put : (g : Over) (c : After-insert g) → items_of c.insert.new.self
    ≡ with_hold (items_of c.self.inside.list) c.args.hold
put g c =
    let holds = items_of c.self.inside.list in
    c.insert.ensures.items ∙ ap (λ n. insert holds n c.args.hold) c.place_of-at.ensures.count
    ∙ insert-count_before holds c.args.hold c.self.invariant.0

pub invariant_of-self : goal.invariant_of-self
invariant_of-self g c =
    let same : c.args.self.now.holds ≡ items_of c.self.inside.list = grind (arith, common_steps) in
    rw (put g c) (
      IsInOrder-with_hold _ _ c.self.invariant.0 (rw (← same) c.requires.stamp),
      HasPatronsOnce-with_hold _ _ c.self.invariant.1 (rw (← same) c.requires.patron),
    )

pub returns-clause-holds : goal.returns-clause-holds
returns-clause-holds g c = grind (arith, common_steps, put g c)
