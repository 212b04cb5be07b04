use Rattle.hd_holds.proofs.Queues.{position-queue}
use Rattle.hd_holds.proofs.holds.Holds.position.Goals as goal

pub returns : goal.returns
returns g c =
    λ d same. rw (c.count_before.ensures.count, c.queue.ensures.holds)
    (position-queue c.args.self.now c.args.title c.args.stamp c.queue.ensures.queue d same)
