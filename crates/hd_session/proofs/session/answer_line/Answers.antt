use Rattle.std.proofs.Common.{◌∙◌, ◌++◌, List, ℕ, ap, length, refl, sym}
use Rattle.hd_session.proofs.Hearing.{answers_empty, some_line}
use Rattle.hd_session.proofs.Logging.{empty_logged, line_logged, tail_is}
use Rattle.hd_session.proofs.session.answer_line.Goals as goal

pub hear-requires-clause-some : goal.hear-requires-clause-some
hear-requires-clause-some g c = some_line c.args.line.now (sym c.is_empty.ensures ∙ c.if-is_empty.false)

pub returns-then-is_empty-clause-heard : goal.returns-then-is_empty-clause-heard
returns-then-is_empty-clause-heard g c =
    answers_empty _ _ _ _ c.args.line.now _ (sym c.is_empty.ensures ∙ c.if-is_empty.true)

pub returns-then-is_empty-clause-logged : goal.returns-then-is_empty-clause-logged
returns-then-is_empty-clause-logged g c =
    empty_logged _ _ _ _ c.args.line.now _ (sym c.is_empty.ensures ∙ c.if-is_empty.true) c.heard.ensures

pub returns-clause-logged : goal.returns-clause-logged
returns-clause-logged g c =
    let heard = c.in_ok-body.ensures.heard in
    line_logged _ _ _ _ _ _ c.args.line.now _ heard.text _
    (some_line c.args.line.now (sym c.is_empty.ensures ∙ c.if-is_empty.false))
    (heard.extends.items ∙ ap (λ (t : List ℕ). t ++ heard.text) c.reserve.ensures.items)
    c.heard.ensures c.answered.ensures refl c.in_ok-body.ensures.body c.login.ensures
    (tail_is _ _ _ _ c.deref.ensures.value
    (c.len-from.ensures ∙ (c.reserve.new.self.ok.0 ∙ ap (λ (t : List ℕ). length t) c.reserve.ensures.items)))
