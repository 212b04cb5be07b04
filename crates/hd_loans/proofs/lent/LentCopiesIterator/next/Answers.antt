use Rattle.std.proofs.Common.{rules, ◌≡◌, ◌+◌, ◌∙◌, ◌∷◌, [], true, ap, arith, sym}
use Rattle.hd_rules.specs.declared.limits.TheConstants.{MOST_COPIES}
use Rattle.hd_loans.specs.Lent.{is_lent_to, lent_from}
use Rattle.hd_loans.specs.Links.{LeadsOn}
use Rattle.hd_loans.proofs.LentLemmas.{lent_from-end, lent_from-lent, lent_from-linked}
use Rattle.hd_loans.proofs.lent.LentCopiesIterator.next.Goals as goal

pub returns-in_err-copy-clause-steps : goal.returns-in_err-copy-clause-steps
returns-in_err-copy-clause-steps g c =
    let list = c.self.inside.loans.now
    in let none : c.args.self.now ≡ [] =
    sym c.self.view_is ∙ lent_from-end list.loans list.copies list.patrons c.self.inside.patron
    c.self.inside.next c.self.invariant.loan
    (omega (arith, c.in_err-copy.ensures))
    in search rules

pub returns-clause-steps : goal.returns-clause-steps
returns-clause-steps g c =
    let list = c.self.inside.loans.now
    in let m = list.loans
    in let n = list.copies
    in let p = c.self.inside.patron
    in let here = c.self.inside.next
    in let same : c.in_ok-copy.copy ≡ here = c.in_ok-copy.ensures.1
    in let is : is_lent_to m p here ≡ true = c.self.invariant.lent c.in_ok-copy.ensures.0
    in let led : LeadsOn (is_lent_to m p) (here + 1) c.next_to-self-inside.result =
    (rw same at (c.next_to-self-inside.ensures p (rw same is)))
    in let split : lent_from m n p here ≡ here ∷ lent_from m n p c.next_to-self-inside.result =
    lent_from-lent m n list.patrons p here c.self.invariant.loan is
    ∙ ap (λ xs. here ∷ xs) (lent_from-linked m n p (here + 1) c.next_to-self-inside.result led)
    in rw same (sym c.self.view_is ∙ split)

pub returns-clause-goes : goal.returns-clause-goes
returns-clause-goes g c = let steps = returns-clause-steps g c in search rules
