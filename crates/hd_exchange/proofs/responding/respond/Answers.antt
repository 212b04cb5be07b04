use Rattle.std.proofs.Common.{refl, sym, [], append-nil, arith, subst}
use Rattle.hd_message.specs.declared.profile.Profile.{Profile}
use Rattle.hd_exchange.specs.Answers.{IsTextAlone}
use Rattle.hd_exchange.specs.declared.message.Message.TheVariants as OfMessage
use Rattle.hd_exchange.proofs.Answering.{answer_of}
use Rattle.hd_exchange.proofs.responding.respond.Goals as goal

pub returns-in-Session-clause-answer : goal.returns-in-Session-clause-answer
returns-in-Session-clause-answer g c =
    let said = c.answer_alone.ensures in
    let text = rw c.catalogue-in-Session.ensures at said.text in (
      [],
      text.0,
      answer_of _ _ _ _ _ _ _ _ _ _ (OfMessage.Session c.in-Session.message) _ _ _ _ c.catalogue.ensures
          c.seat.ensures
          refl c.in-Session.ensures.message (
            said.said,
            subst (λ (p : Profile). IsTextAlone (g.O.Office.keeps c.args.office.now).contents p c.args.now.now
                c.in-Session.message text.0) c.profile_of-profile.ensures text.1,
            refl,
            said.next,
          ),
      record { turns = sym (append-nil _); shown = tt; same = refl; holds = λ held. held },
      text.2,
      omega arith,
      text.3,
    )
