use Rattle.hd_holds.proofs.Lists.{hold_of-taken}
use Rattle.hd_holds.proofs.holds.replace.Goals as goal

pub put_at_stamp-requires-clause-patron : goal.put_at_stamp-requires-clause-patron
put_at_stamp-requires-clause-patron g c =
    rw (c.take-old.ensures.holds, c.requires.patron c.in-Some.hold c.in-Some.is)
    (hold_of-taken c.args.queue.now.holds c.args.patron)
