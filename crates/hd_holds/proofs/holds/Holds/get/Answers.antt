use Rattle.hd_holds.proofs.Lists.{known-held}
use Rattle.hd_holds.proofs.Queues.{held-apart, held-named}
use Rattle.hd_holds.specs.Held.{facts, queue_of}
use Rattle.hd_holds.proofs.holds.Holds.get.Goals as goal

pub returns-clause-known : goal.returns-clause-known
returns-clause-known g c =
    rw (c.hold_of.ensures, c.queue.ensures.holds) (known-held (facts c.args.self.now)
    (queue_of c.args.self.now.queues c.args.title).holds c.args.patron c.queue.ensures.queue.known)

pub returns-clause-named : goal.returns-clause-named
returns-clause-named g c = held-named c.args.self.now

pub returns-clause-apart : goal.returns-clause-apart
returns-clause-apart g c = held-apart c.args.self.now c.queue.ensures.all
