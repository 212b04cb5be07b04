use Rattle.std.proofs.Common.{◌≡◌, ◌<◌, ℕ, List, [], ◌∷◌, Result, Ok, Some, IfOk, append-nil, arith}
use Rattle.std.proofs.Common.{refl, sym, ap, ◌∙◌, subst}
use Rattle.hd_rules.specs.declared.replies.Refusal.{Refusal}
use Rattle.hd_catalogue.specs.Contents.{Contents, facts_of, patron_name}
use Rattle.hd_exchange.specs.Deeds.{Looked}
use Rattle.hd_exchange.specs.Extensions.{extensions_lent}
use Rattle.hd_exchange.specs.PatronMessages.{IsAboutNamed}
use Rattle.hd_exchange.specs.PatronReplies.{IsLookReply}
use Rattle.hd_exchange.specs.Seeing.{HasLooked}
use Rattle.hd_exchange.specs.declared.patron_message.PatronAsk.{PatronAsk}
use Rattle.hd_exchange.specs.declared.patron_message.PatronAsk.TheVariants as ask
use Rattle.hd_exchange.specs.declared.patron_message.PatronLook.{PatronLook}
use Rattle.hd_exchange.proofs.Answering.{ended, looked, not_paid, refused_patron}
use Rattle.hd_exchange.proofs.Looking.{has_looked, said_of}
use Rattle.hd_exchange.proofs.patron_answers.answer_patron.Goals as goal

-- a look is about the patron of the catalogue whom the message names
of_look : (k : Contents) (name : List ℕ) (asks : Result PatronAsk Refusal) (look : PatronLook) → asks
    ≡ Ok (ask.Look look)
    → IfOk asks (IsAboutNamed k (Some name))
    → (look.patron < (facts_of k).patrons) × (patron_name k look.patron ≡ Some name)
of_look k name asks look is known =
    let about = subst (λ (a : Result PatronAsk Refusal). IfOk a (IsAboutNamed k (Some name))) is known in
    (about.0, about.1)

pub write_look-requires-clause-looked : goal.write_look-requires-clause-looked
write_look-requires-clause-looked g c =
    let k = (g.O.Office.keeps c.args.office.now).contents in
    let saw = c.in_ok-look-in-Ok-Look.ensures.saw in
    let asked : c.args.message.now.asks ≡ Ok (ask.Look c.in-Ok-Look.look) =
    c.in-Ok-Look.is ∙ ap (λ (a : PatronAsk). let r : Result PatronAsk Refusal = Ok a in r)
    (rw c.in-Ok-Look.is at c.in-Ok-Look.field-0-is) in
    let about = of_look k c.args.message.now.values.patron.now c.args.message.now.asks c.in-Ok-Look.look
    asked c.requires.message.ask in
    subst (λ (seen : Contents). HasLooked seen c.args.message.now.values c.look.new.reader)
    (sym c.catalogue.ensures)
    (has_looked k c.new-reader.result c.look.new.reader saw.0 saw.1 saw.3 c.args.message.now.values
    c.told_password-password.result c.in-Ok-Look.look c.new-reader.ensures.look about.0 about.1)

pub returns-in_ok-look-in-Ok-Look-clause-answer : goal.returns-in_ok-look-in-Ok-Look-clause-answer
returns-in_ok-look-in-Ok-Look-clause-answer g c =
    let k = (g.O.Office.keeps c.args.office.now).contents in
    let e = extensions_lent c.args.extensions in
    let saw = c.in_ok-look-in-Ok-Look.ensures.saw in
    let told = c.write_look.ensures in
    let asked : c.args.message.now.asks ≡ Ok (ask.Look c.in-Ok-Look.look) =
    c.in-Ok-Look.is ∙ ap (λ (a : PatronAsk). let r : Result PatronAsk Refusal = Ok a in r)
    (rw c.in-Ok-Look.is at c.in-Ok-Look.field-0-is) in
    let new = c.look.new.reader in
    let check = c.told_password-password.result in
    let says : IsLookReply k c.args.message.now.values e new.look.patron check told.0 new.items.items
    new.look.question told.1 =
    subst (λ (seen : Contents).
    IsLookReply seen c.args.message.now.values e new.look.patron check told.0 new.items.items
    new.look.question told.1)
    c.catalogue.ensures told.3 in (
      Looked saw.0.turns ∷ [],
      _,
      looked k k e c.args.message.now refl c.in-Ok-Look.look saw.0.turns told.1 asked
          (said_of k c.new-reader.result new saw.0 saw.1 saw.3 c.args.message.now.values e check told.0 told.1
          c.in-Ok-Look.look c.told_password-password.ensures c.new-reader.ensures.look told.2 says),
      record {
        turns = sym (append-nil _);
        shown = (record { book = saw.0; turns_are = refl; legal = saw.1; may_show = saw.2 }, tt);
        same = refl;
        holds = λ held. held;
      },
      told.4,
      omega arith,
      told.5,
    )

pub returns-in-Ok-EndSession-clause-answer : goal.returns-in-Ok-EndSession-clause-answer
returns-in-Ok-EndSession-clause-answer g c =
    let asked : c.args.message.now.asks ≡ Ok ask.EndSession =
    c.in-Ok-EndSession.is ∙ ap (λ (a : PatronAsk). let r : Result PatronAsk Refusal = Ok a in r)
    (rw c.in-Ok-EndSession.is at c.in-Ok-EndSession.field-0-is) in (
      [],
      _,
      ended _ _ _ c.args.message.now c.catalogue-in-Ok-EndSession.ensures c.card_reply-reply.result asked
          c.card_reply-reply.ensures.reply,
      record { turns = sym (append-nil _); shown = tt; same = refl; holds = λ held. held },
      c.write_reply.ensures.text,
      omega arith,
      c.write_reply.ensures.short,
    )

pub returns-in-Ok-TakePayment-clause-answer : goal.returns-in-Ok-TakePayment-clause-answer
returns-in-Ok-TakePayment-clause-answer g c =
    let asked : c.args.message.now.asks ≡ Ok ask.TakePayment =
    c.in-Ok-TakePayment.is
    ∙ ap (λ (a : PatronAsk). let r : Result PatronAsk Refusal = Ok a in r)
    (rw c.in-Ok-TakePayment.is at c.in-Ok-TakePayment.field-0-is) in (
      [],
      _,
      not_paid _ _ _ c.args.message.now c.catalogue-in-Ok-TakePayment.ensures
          c.card_reply-reply-in-Ok-TakePayment.result asked
          c.card_reply-reply-in-Ok-TakePayment.ensures.reply,
      record { turns = sym (append-nil _); shown = tt; same = refl; holds = λ held. held },
      c.write_reply-in-Ok-TakePayment.ensures.text,
      omega arith,
      c.write_reply-in-Ok-TakePayment.ensures.short,
    )

pub returns-in-Err-clause-answer : goal.returns-in-Err-clause-answer
returns-in-Err-clause-answer g c = (
  [],
  _,
  refused_patron _ _ _ c.args.message.now c.catalogue-in-Err.ensures c.in-Err.refusal
      c.refused_patron-reply.result c.in-Err.is
      c.refused_patron-reply.ensures.reply,
  record { turns = sym (append-nil _); shown = tt; same = refl; holds = λ held. held },
  c.write_reply-in-Err.ensures.text,
  omega arith,
  c.write_reply-in-Err.ensures.short,
)
