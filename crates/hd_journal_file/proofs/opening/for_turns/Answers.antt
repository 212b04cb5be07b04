use Rattle.std.proofs.Common.{IsTrue, arith, refl}
use Rattle.hd_journal_file.proofs.opening.for_turns.Goals as goal

pub returns-in-Err-clause-why : goal.returns-in-Err-clause-why
returns-in-Err-clause-why g c =
    let is_for : IsTrue c.args.is_for_turns = grind arith in
    (is_for, record { why = c.in-Err.fault; told = refl; left = c.in-Err.store; refuses = c.in-Err.ensures.why })
