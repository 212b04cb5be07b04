use Rattle.std.proofs.Common.{◌≡◌, ◌∙◌, ap, sym, refl, length, arith}
use Rattle.hd_exchange.specs.Works.{Extends}
use Rattle.hd_session.specs.States.{State, digit_after, gaps_after}
use Rattle.hd_session.specs.Trailers.{text_said}
use Rattle.hd_session.proofs.Ends.{finished, kept_so}
use Rattle.hd_session.proofs.Hearing.{answer_of, extends_by}
use Rattle.hd_session.proofs.state.SessionState.answer.Goals as goal

pub returns-clause-answered : goal.returns-clause-answered
returns-clause-answered g c =
    let said = c.in_ok-said.ensures.answer in
    let s = c.args.self.now in
    let view = c.self.view_is in
    let from : c.len-from.result ≡ length c.args.out.now.items = c.len-from.ensures ∙ c.args.out.now.ok.0 in
    let last = c.count.ensures.last ∙ ap (λ (x : State). x.last) view in
    let text = text_said s.last c.args.line.now.has_trailer c.args.line.now.digit c.in_ok-said.said said.1 in
    let out : Extends c.args.out.now c.finish.new.out text =
    extends_by _ _ text (c.finish.ensures.text ∙ finished _ said.1 _ s.last _ _ _ _ _ said.4.items from last)
    (omega (arith, said.4.capacity, c.finish.ensures.capacity)) in (
      said.0,
      text,
      record {
        says = c.in_ok-said.said;
        reply = said.1;
        answer = answer_of _ _ _ _ _ _ _ _ _ _ _ _ _ _ _ (ap (λ (x : State). x.extensions) view)
            (ap (λ (x : State). x.login) view)
            c.line_with-kept.ensures (sym (c.finish.ensures.rest.1 ∙ c.count.ensures.login)) said.2;
        extensions_stay = c.finish.ensures.rest.0
            ∙ (c.count.ensures.extensions ∙ ap (λ (x : State). x.extensions) view);
        spelled = refl;
        last = c.finish.ensures.last ∙ kept_so _ said.1 _ s.last _ _ _ _ _ said.4.items from last;
        digit_is = c.finish.ensures.rest.2
            ∙ (c.count.ensures.digit ∙ ap (λ (x : State). digit_after x.digit c.args.line.now.digit) view);
        gaps_are = c.finish.ensures.rest.3 ∙ (c.count.ensures.gaps
            ∙ ap (λ (x : State). gaps_after x.digit x.gaps c.args.line.now.digit) view);
      },
      said.3,
      out,
      omega (arith, out.len, c.len-from.ensures, c.finish.ensures.short),
    )
