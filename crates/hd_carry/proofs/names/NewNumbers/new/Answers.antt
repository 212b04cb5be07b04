use Rattle.hd_carry.proofs.Tables.{tables-are}
use Rattle.hd_carry.proofs.names.NewNumbers.new.Goals as goal

pub returns-clause-numbers : goal.returns-clause-numbers
returns-clause-numbers g c =
    tables-are c.args.old.now c.args.new.now _ c.in_ok-branch_numbers.ensures.table
    c.in_ok-titles.ensures.table
    c.in_ok-copies.ensures.table c.in_ok-patron_numbers.ensures.table
