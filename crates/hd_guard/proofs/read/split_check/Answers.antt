use Rattle.std.proofs.Common.{subst, sym, ◌∙◌, ◌++◌, codes}
use Rattle.std.specs.Str.Parse.{AllDigits}
use Rattle.hd_guard.proofs.TrailerLemmas.{same_back}
use Rattle.hd_guard.proofs.read.split_check.Goals as goal

pub returns-in_err-number-clause-none : goal.returns-in_err-number-clause-none
returns-in_err-number-clause-none c =
    let before = c.in_ok-before.before.now in
    let digits = c.in_ok-before.digits.now in
    rw c.from_residual-in_err-number.ensures (λ front number ends.
    let same =
    same_back (front ++ codes "AZ") (before ++ codes "AZ") ends.digits digits
    (sym ends.split ∙ c.in_ok-before.ensures.found) (ends.four
    ∙ sym c.in_ok-before.ensures.four) in
    c.in_err-number.ensures (subst (AllDigits 16) same ends.hexadecimal))
