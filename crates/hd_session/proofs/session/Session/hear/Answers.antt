use Rattle.std.proofs.Common.{◌∙◌, ◌++◌, ◌∷◌, [], List, ℕ, ap, false, refl, true}
use Rattle.hd_session.proofs.Feeding.{feeds_until}
use Rattle.hd_session.proofs.Hearing.{answers_append, answers_none, line_taken}
use Rattle.hd_session.proofs.Logging.{lines_more, lines_none, nothing_appended, piece_until, piece_whole}
use Rattle.hd_session.proofs.session.Session.hear.Goals as goal

pub answer_line-answered-requires-clause-login : goal.answer_line-answered-requires-clause-login
answer_line-answered-requires-clause-login g c =
    let before = c.loop-used.invariant.heard.2 in
    rw before.works.same (before.known c.requires.login)

pub loop-used-init : goal.loop-used-init
loop-used-init g c =
    rw (← c.self.view_is) (record {
      heard = ([], refl, answers_none _ _ _ _ _, lines_none _ _);
      begun = refl;
      ended = refl;
    })

pub returns-in-Err-clause-fed : goal.returns-in-Err-clause-fed
returns-in-Err-clause-fed g c =
    let before = c.loop-used.invariant.heard in
    feeds_until _ _ _ _ _ _ _ _ _ c.args.self.now _ _ before.0 _ c.line-line.result.now c.in-Err.why
    c.requires.open
    (before.1 ∙ ap (λ (ls : List (List ℕ)). before.0 ++ ls)
    (rw (← c.line-line.ensures) at c.in-Some.ensures.line)) c.begin.ensures refl
    before.2 c.in-Err.ensures.err c.in-Err.ensures.cause

pub returns-in-Err-clause-logged : goal.returns-in-Err-clause-logged
returns-in-Err-clause-logged g c =
    let before = c.loop-used.invariant.heard in
    let none = c.in-Err.ensures.err in
    piece_until _ _ _ _ _ _ _ c.args.self.now _ before.0 _ c.line-line.result.now c.in-Err.why
    (before.1 ∙ ap (λ (ls : List (List ℕ)). before.0 ++ ls)
    (rw (← c.line-line.ensures) at c.in-Some.ensures.line)) refl
    (nothing_appended c.loop-used.out c.answer_line-answered.new.out none.text none.extends.items none.heard.2)
    before.3 c.in-Err.ensures.given_up

pub loop-used-preserved : goal.loop-used-preserved
loop-used-preserved g c =
    let kept = c.loop-used.invariant in
    let before = kept.heard in
    record {
      heard = (
        before.0 ++ c.line-line.result.now ∷ [],
        line_taken _ before.0 _ _ _ before.1
            (rw (c.line-line.ensures, c.begin.ensures, c.split_at.ensures.back) c.in-Some.ensures.line),
        answers_append _ _ _ _ _ _ _ _ before.0 (c.line-line.result.now ∷ []) _ _ _ before.2
            c.in-Ok.ensures.heard,
        lines_more _ _ _ _ _ _ _ _ _ _ before.3 c.in-Ok.ensures.logged,
      );
      begun = rw (c.begin.ensures, c.split_at.ensures.back) (kept.begun ∙ c.in-Some.ensures.rest);
      ended = kept.ended;
    }

pub returns-then-is_too_long-clause-logged : goal.returns-then-is_too_long-clause-logged
returns-then-is_too_long-clause-logged g c =
    let before = c.loop-used.invariant.heard in
    piece_whole _ _ _ _ _ _ c.args.self.now _ before.0 true
    (before.1 ∙ ap (λ (ls : List (List ℕ)). before.0 ++ ls) c.in_default.ensures.no_line) refl before.3
    (rw c.line.ensures at c.unended.ensures)

pub returns-else-is_too_long-clause-logged : goal.returns-else-is_too_long-clause-logged
returns-else-is_too_long-clause-logged g c =
    let before = c.loop-used.invariant.heard in
    piece_whole _ _ _ _ _ _ c.args.self.now _ before.0 false
    (before.1 ∙ ap (λ (ls : List (List ℕ)). before.0 ++ ls) c.in_default.ensures.no_line)
    (c.loop-used.invariant.ended ∙ c.requires.open) before.3
    (rw c.line.ensures at c.unended.ensures)
