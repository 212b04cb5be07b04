use Rattle.std.proofs.Common.{inl, rules}
use Rattle.hd_turn_row.proofs.ColumnLemmas.{past, same_parts}
use Rattle.hd_turn_row.proofs.asked.fit.Goals as goal

pub returns-clause-ok : goal.returns-clause-ok
returns-clause-ok c = same_parts _ _ (search rules depth 20)

pub returns-then-ne-4-clause-fault : goal.returns-then-ne-4-clause-fault
returns-then-ne-4-clause-fault c =
    past (search rules) (past (search rules) (past (search rules) (inl (search rules))))

pub returns-then-ne-5-clause-fault : goal.returns-then-ne-5-clause-fault
returns-then-ne-5-clause-fault c =
    past (search rules) (past (search rules) (past (search rules) (past (search rules) (inl
    (search rules)))))

pub returns-then-ne-6-clause-fault : goal.returns-then-ne-6-clause-fault
returns-then-ne-6-clause-fault c =
    past (search rules) (past (search rules) (past (search rules) (past (search rules) (past (search rules)
    (inl (search rules))))))

pub returns-then-ne-7-clause-fault : goal.returns-then-ne-7-clause-fault
returns-then-ne-7-clause-fault c =
    past (search rules) (past (search rules) (past (search rules) (past (search rules) (past (search rules)
    (past (search rules) (inl (search rules)))))))

pub returns-then-ne-8-clause-fault : goal.returns-then-ne-8-clause-fault
returns-then-ne-8-clause-fault c =
    past (search rules) (past (search rules) (past (search rules) (past (search rules) (past (search rules)
    (past (search rules) (past (search rules) (inl (search rules))))))))
