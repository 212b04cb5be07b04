use Rattle.std.proofs.Common.{◌≤◌, arith}
use Rattle.hd_rules.specs.Facts.{AreInRange}
use Rattle.hd_holds.specs.Held.{facts}
use Rattle.hd_holds.proofs.Queues.{count-queue, few-holds}
use Rattle.hd_holds.proofs.holds.Holds.count.Goals as goal

pub overflow_cast-result : goal.overflow_cast-result
overflow_cast-result g c =
    let few : c.len.result ≤ (facts c.args.self.now).patrons =
    rw (c.len.ensures, c.queue.ensures.holds)
    (few-holds c.args.self.now c.args.title c.queue.ensures.queue) in
    let range : AreInRange (facts c.args.self.now) = c.queue.ensures.all.range in
    omega arith

pub returns : goal.returns
returns g c = rw (c.len.ensures, c.queue.ensures.holds)
    (count-queue c.args.self.now c.args.title c.queue.ensures.queue)
