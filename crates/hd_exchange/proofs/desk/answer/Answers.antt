use Rattle.std.proofs.Common.{◌∙◌, ap, sym, [], append-nil, arith, refl}
use Rattle.hd_journal.specs.Offices.{Keeps}
use Rattle.hd_exchange.proofs.Answering.{answered, refused}
use Rattle.hd_exchange.proofs.desk.answer.Goals as goal

pub returns-in_ok-turn-in-Ok-clause-answer : goal.returns-in_ok-turn-in-Ok-clause-answer
returns-in_ok-turn-in-Ok-clause-answer g c =
    let turn = c.in_ok-turn-in-Ok in
    let here = c.catalogue.ensures ∙ ap (λ (keeps : Keeps). keeps.contents) turn.ensures.same in
    let ask = rw c.in-Ok.is at c.requires.message.ask in (
      _,
      _,
      answered _ _ _ c.args.message.now c.reply_with-reply.result here c.in-Ok.ask c.what_is_asked.result.now
          turn.turn.reply
          c.what_is_asked.ensures c.in-Ok.is ask.of_kind c.reply_with-reply.ensures.reply,
      record {
        turns = turn.ensures.made.turn;
        shown = tt;
        same = turn.ensures.same;
        holds =
            λ _. turn.ensures.holds;
      },
      c.write_reply.ensures.text,
      omega arith,
      c.write_reply.ensures.short,
    )

pub returns-in-Err-clause-answer : goal.returns-in-Err-clause-answer
returns-in-Err-clause-answer g c = (
  [],
  _,
  refused _ _ _ c.args.message.now c.refusal_reply-reply.result c.catalogue-in-Err.ensures c.in-Err.refusal
      c.in-Err.is c.refusal_reply-reply.ensures.reply,
  record { turns = sym (append-nil _); shown = tt; same = refl; holds = λ held. held },
  c.write_reply-in-Err.ensures.text,
  omega arith,
  c.write_reply-in-Err.ensures.short,
)
