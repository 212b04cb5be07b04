use Rattle.hd_log.proofs.events.write_few.Goals as goal

pub returns : goal.returns
returns c = rw c.named.ensures at c.write_line.ensures
