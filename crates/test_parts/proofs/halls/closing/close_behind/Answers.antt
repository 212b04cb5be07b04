use Rattle.test_parts.proofs.halls.closing.close_behind.Goals as goal

pub close_with-requires-clause-seats : goal.close_with-requires-clause-seats
close_with-requires-clause-seats g c = rw c.in-Some.ensures c.requires.seats
