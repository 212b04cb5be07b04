use Rattle.hd_opening.proofs.writing.put_row.Goals as goal

pub returns-in-Hold : goal.returns-in-Hold
returns-in-Hold g c = rw c.in-Hold.is c.put_hold.ensures
