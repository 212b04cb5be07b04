use Rattle.std.proofs.Common.{inl, rules}
use Rattle.std.proofs.lemmas.Result.{err_from_is_err_and}
use Rattle.hd_turn_row.proofs.ColumnLemmas.{past}
use Rattle.hd_turn_row.proofs.reading.parts_said.Goals as goal

pub returns-in_err-copy_in-clause-fault : goal.returns-in_err-copy_in-clause-fault
returns-in_err-copy_in-clause-fault g c = search rules depth 30

pub returns-in_err-title_in-clause-fault : goal.returns-in_err-title_in-clause-fault
returns-in_err-title_in-clause-fault g c = search rules depth 30

pub returns-in_err-branch_in-clause-fault : goal.returns-in_err-branch_in-clause-fault
returns-in_err-branch_in-clause-fault g c = search rules depth 30

pub returns-in_err-admits_if_any-clause-fault : goal.returns-in_err-admits_if_any-clause-fault
returns-in_err-admits_if_any-clause-fault g c =
    let p = err_from_is_err_and c.from_residual-in_err-admits_if_any.result
    c.from_residual-in_err-admits_if_any.ensures.1 in
    rw (p.1, p.2) (past c.in_ok-own_day.ensures.1 (past (_, c.in_ok-act_said.ensures.said)
    (past c.in_ok-patron_in.ensures.1 (past c.in_ok-copy_in.ensures.1 (past c.in_ok-title_in.ensures.1
    (past c.in_ok-branch_in.ensures.1 (inl c.in_err-admits_if_any.ensures)))))))

pub returns-in_err-day_if_any-clause-fault : goal.returns-in_err-day_if_any-clause-fault
returns-in_err-day_if_any-clause-fault g c =
    let p = err_from_is_err_and c.from_residual-in_err-day_if_any.result
    c.from_residual-in_err-day_if_any.ensures.1 in
    rw (p.1, p.2) (past c.in_ok-own_day.ensures.1 (past (_, c.in_ok-act_said.ensures.said)
    (past c.in_ok-patron_in.ensures.1 (past c.in_ok-copy_in.ensures.1 (past c.in_ok-title_in.ensures.1
    (past c.in_ok-branch_in.ensures.1 (past c.in_ok-admits_if_any.ensures.1
    (inl c.in_err-day_if_any.ensures))))))))
