use Rattle.hd_message.proofs.loan_replies.write_loan.Goals as goal

-- the parts of the reply are its text
pub returns-in-Lent-clause-ok : goal.returns-in-Lent-clause-ok
returns-in-Lent-clause-ok g c = rw (c.in-Lent.is, ← c.loan_accepted.ensures) c.append.ensures.ok
