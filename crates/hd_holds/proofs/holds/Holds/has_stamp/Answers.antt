use Rattle.std.proofs.Common.{◌∙◌, ap}
use Rattle.hd_queue.specs.Holds.{has_stamp}
use Rattle.hd_holds.specs.Held.{patron_hold, queue_of}
use Rattle.hd_holds.proofs.Lists.{stamp-told}
use Rattle.hd_holds.proofs.holds.Holds.has_stamp.Goals as goal

pub returns : goal.returns
unfolding patron_hold
returns g c =
    stamp-told c.args.stamp (queue_of c.args.self.now.queues c.args.title).holds c.has_stamp.result
    c.queue.ensures.queue.once
    (c.has_stamp.ensures ∙ ap (λ hs. has_stamp hs c.args.stamp) c.queue.ensures.holds)
