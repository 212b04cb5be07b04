use Rattle.std.proofs.Common.{⊎_elim, inl, inr, arith}
use Rattle.hd_replay.proofs.Prefixes.{digits_of, number_of_digits}
use Rattle.hd_replay.proofs.prefix.number_of.Goals as goal
use Rattle.hd_replay.proofs.prefix.number_of.Goals.{in-49-to-57, in-49-to-57-2}

pub returns-in_default-clause-none : goal.returns-in_default-clause-none
returns-in_default-clause-none c number is same =
    ⊎_elim (λ one. omega (arith, is, one)) (λ two. omega (arith, is, two))
    (digits_of number c.args.digits.now is same)

pub returns-in_default-2-clause-none : goal.returns-in_default-2-clause-none
returns-in_default-2-clause-none c number is same =
    ⊎_elim (λ one. omega (arith, is, one)) (λ two. omega (arith, is, two))
    (digits_of number c.args.digits.now is same)

pub returns-in_default-3-clause-none : goal.returns-in_default-3-clause-none
returns-in_default-3-clause-none c number is same =
    ⊎_elim (λ one. omega (arith, is, one)) (λ two. omega (arith, is, two))
    (digits_of number c.args.digits.now is same)

pub returns-in_default-4-clause-none : goal.returns-in_default-4-clause-none
returns-in_default-4-clause-none c number is same =
    ⊎_elim (λ one. omega (arith, is, one)) (λ two. omega (arith, is, two))
    (digits_of number c.args.digits.now is same)

pub returns-in_default-5-clause-none : goal.returns-in_default-5-clause-none
returns-in_default-5-clause-none c number is same =
    ⊎_elim (λ one. omega (arith, is, one)) (λ two. omega (arith, is, two))
    (digits_of number c.args.digits.now is same)

pub returns-in_default-6-clause-none : goal.returns-in_default-6-clause-none
returns-in_default-6-clause-none c number is same =
    ⊎_elim (λ one. omega (arith, is, one)) (λ two. omega (arith, is, two))
    (digits_of number c.args.digits.now is same)

pub returns-in_default-7-clause-none : goal.returns-in_default-7-clause-none
returns-in_default-7-clause-none c number is same =
    ⊎_elim (λ one. omega (arith, is, one)) (λ two. omega (arith, is, two))
    (digits_of number c.args.digits.now is same)

pub returns-in_default-8-clause-none : goal.returns-in_default-8-clause-none
returns-in_default-8-clause-none c number is same =
    ⊎_elim (λ one. omega (arith, is, one)) (λ two. omega (arith, is, two))
    (digits_of number c.args.digits.now is same)

pub returns-then-number-gt-SESSIONS-clause-none : goal.returns-then-number-gt-SESSIONS-clause-none
returns-then-number-gt-SESSIONS-clause-none c number is same =
    let written = digits_of number c.args.digits.now is same in
    elim c.if-digits-lt2.branch [
      | in-49-to-57 w ↦ ⊎_elim (λ one. omega (arith, is, one)) (λ two. omega (arith, is, two)) written
      | in-49-to-57-2 w ↦ ⊎_elim (λ one. omega (arith, is, one)) (λ two. omega (arith, is, two)) written
    ]

pub returns-clause-found : goal.returns-clause-found
returns-clause-found c =
    elim c.if-digits-lt2.branch [
      | in-49-to-57 w ↦ (
        (omega arith, omega arith),
        number_of_digits _ _ (omega arith)
            (inl (omega arith, omega arith, omega arith)),
      )
      | in-49-to-57-2 w ↦ (
        (omega arith, omega arith),
        number_of_digits _ _ (omega arith) (inr (omega arith, omega arith, omega arith, omega arith)),
      )
    ]
