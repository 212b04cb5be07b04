use Rattle.hd_holds.proofs.Lists.{known-patrons}
use Rattle.hd_holds.specs.Held.{facts, queue_of}
use Rattle.hd_holds.proofs.holds.Holds.view.Goals as goal

pub returns-clause-patrons : goal.returns-clause-patrons
returns-clause-patrons g c =
    rw (c.view.ensures.holds, c.queue.ensures.holds)
    (known-patrons (facts c.args.self.now) (queue_of c.args.self.now.queues c.args.title).holds
    c.queue.ensures.queue.known)
