use Rattle.std.proofs.Common.{sym, [], append-nil, refl, true, arith}
use Rattle.hd_session.specs.Trailers.{send_again}
use Rattle.hd_session.proofs.Hearing.{answers_read}
use Rattle.hd_session.proofs.state.SessionState.hear.Goals as goal

pub returns-in-Wrong-clause-heard : goal.returns-in-Wrong-clause-heard
returns-in-Wrong-clause-heard g c =
    answers_read _ _ _ _ _ _ c.args.line.now _ _ [] _ (send_again true) c.requires.some
    c.in-Wrong.ensures.computed (refl, refl, refl)
    (record { turns = sym (append-nil _); shown = tt; same = refl; holds = λ held. held })
    c.put_send_again.ensures.text (omega arith) (λ known. known)

pub returns-in_ok-answer-in-Plain-clause-heard : goal.returns-in_ok-answer-in-Plain-clause-heard
returns-in_ok-answer-in-Plain-clause-heard g c =
    let told = c.in_ok-answer-in-Plain.ensures.answered in
    answers_read _ _ _ _ _ _ c.args.line.now _ _ told.0 _ told.1 c.requires.some c.in-Plain.ensures.computed
    told.2 told.3 told.4 told.5
    (λ _. c.in_ok-answer-in-Plain.ensures.login)

pub returns-in_ok-answer-in-Checked-clause-heard : goal.returns-in_ok-answer-in-Checked-clause-heard
returns-in_ok-answer-in-Checked-clause-heard g c =
    let told = c.in_ok-answer-in-Checked.ensures.answered in
    answers_read _ _ _ _ _ _ c.args.line.now _ _ told.0 _ told.1 c.requires.some c.in-Checked.ensures.computed
    told.2 told.3 told.4 told.5
    (λ _. c.in_ok-answer-in-Checked.ensures.login)
