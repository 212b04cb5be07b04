use Rattle.hd_replay.proofs.Prefixes.{without_blank, without_number}
use Rattle.hd_replay.proofs.prefix.session_of.Goals as goal

pub returns-in_err-digits-clause-none : goal.returns-in_err-digits-clause-none
returns-in_err-digits-clause-none c =
    rw c.from_residual.ensures
    (λ message. without_blank c.args.line.now message (c.in_err-digits.ensures.none))

pub returns-in_err-number_of-clause-none : goal.returns-in_err-number_of-clause-none
returns-in_err-number_of-clause-none c =
    let parts = c.in_ok-digits.ensures.found in
    rw c.from_residual-in_err-number_of.ensures
    (λ message. without_number c.args.line.now c.in_ok-digits.digits.now c.in_ok-digits.message.now message
    parts.0 parts.1
    (c.in_err-number_of.ensures.none))
