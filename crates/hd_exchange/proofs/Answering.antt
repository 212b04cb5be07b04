-- What a message is answered.
use Rattle.std.proofs.Common.{◌≡◌, ℕ, Bool, true, false, MatchBool, List, [], ◌∷◌, Option, None, Result, Ok}
use Rattle.std.proofs.Common.{Err, refl, sym, subst}
use Rattle.hd_date.specs.Stamps.{Stamp}
use Rattle.hd_message.specs.Replies.{reply_text}
use Rattle.hd_message.specs.declared.kind.DeskKind.{DeskKind}
use Rattle.hd_message.specs.declared.patron_reply.CardReply.{CardReply}
use Rattle.hd_message.specs.declared.patron_reply.PatronReply.{PatronReply}
use Rattle.hd_message.specs.declared.patron_reply.PatronReply.TheVariants.{SessionEnd, FeePaid}
use Rattle.hd_message.specs.declared.reply.Reply.{Reply}
use Rattle.hd_message.specs.declared.reply.Reply.TheVariants as reply
use Rattle.hd_rules.specs.Journal.{Turn, state_after}
use Rattle.hd_rules.specs.declared.replies.Refusal.{Refusal}
use Rattle.hd_rules.specs.declared.replies.TurnReply.{TurnReply}
use Rattle.hd_rules.specs.declared.replies.TurnReply.TheVariants.{Refused}
use Rattle.hd_rules.specs.declared.turns.Asked.{Asked}
use Rattle.hd_catalogue.specs.Contents.{Contents, facts_of}
use Rattle.hd_rules.specs.Messages.{turn_with_reply, message_of}
use Rattle.hd_rules.specs.declared.ask.Ask.{Ask}
use Rattle.hd_exchange.specs.Answers.{IsAnswer, IsAnswerTo, IsDeskAnswer, IsAnsweredSo, IsPatronAnswer}
use Rattle.hd_exchange.specs.Answers.{IsReplyWith, asked_in}
use Rattle.hd_exchange.specs.Arrivals.{Arrival}
use Rattle.hd_exchange.specs.Asks.{kind_of}
use Rattle.hd_exchange.specs.Cards.{IsCardReply}
use Rattle.hd_exchange.specs.Deeds.{Deed, Looked, Made}
use Rattle.hd_exchange.specs.Extensions.{Extensions}
use Rattle.hd_exchange.specs.Messages.{IsBodyOf}
use Rattle.hd_exchange.specs.PatronReplies.{IsPatronReply, IsRefusedPatron, IsReplyAt}
use Rattle.hd_exchange.specs.Replies.{IsReply}
use Rattle.hd_exchange.specs.Sorting.{IsSortedReply}
use Rattle.hd_exchange.specs.declared.login.Login.{Login}
use Rattle.hd_exchange.specs.declared.message.DeskMessage.{DeskMessage}
use Rattle.hd_exchange.specs.declared.message.Message.{Message}
use Rattle.hd_exchange.specs.declared.patron_message.PatronAsk.{PatronAsk}
use Rattle.hd_exchange.specs.declared.patron_message.PatronAsk.TheVariants as ask
use Rattle.hd_exchange.specs.declared.patron_message.PatronLook.{PatronLook}
use Rattle.hd_exchange.specs.declared.patron_message.PatronMessage.{PatronMessage}
use Rattle.hd_exchange.specs.declared.repeated.RepeatedValues.{RepeatedValues}
use Rattle.hd_exchange.specs.declared.reply_kind.ReplyKind.{ReplyKind}

-- a refusal has no sorter fields
refused_with : (k : Contents) (e : Extensions) (kind : DeskKind) (r : RepeatedValues)
    (asked : Result Asked Refusal)
    (refusal : Refusal) (reply : Reply) → IsReply k kind r asked (Refused refusal) reply
    → IsReplyWith k e kind r asked (Refused refusal) reply
refused_with k e kind r asked refusal reply is = by_profile e.profile.sorter_fields
  where
    by_profile : (on : Bool) → MatchBool on (IsSortedReply k e.patrons kind r asked (Refused refusal) reply)
        (IsReply k kind r asked (Refused refusal) reply)
    by_profile true = is
    by_profile false = is

module _ (k seen : Contents) (e : Extensions) (message : DeskMessage) (reply : Reply) (here : seen ≡ k) where
  -- by the reply to what it asked
  pub answered : (ask : Ask) (asked : Asked) (told : TurnReply) → asked ≡ ask.asked → message.asks ≡ Ok ask
      → kind_of ask.asked ≡ message.kind
      → IsReplyWith seen e (kind_of asked) message.repeated (Ok asked) told reply
      → IsDeskAnswer k e message (reply_text reply) (Made (turn_with_reply (message_of ask) told) ∷ [])
  answered ask asked told same is kind says =
      let at : IsReplyWith k e (kind_of asked) message.repeated (Ok asked) told reply =
      subst (λ (c : Contents). IsReplyWith c e (kind_of asked) message.repeated (Ok asked) told reply) here
      says in
      let of_ask : IsReplyWith k e (kind_of ask.asked) message.repeated (Ok ask.asked) told reply =
      subst (λ (a : Asked). IsReplyWith k e (kind_of a) message.repeated (Ok a) told reply) same at in
      let of_kind : IsReplyWith k e message.kind message.repeated (Ok ask.asked) told reply =
      subst (λ kind. IsReplyWith k e kind message.repeated (Ok ask.asked) told reply) kind of_ask in
      record {
        told = told;
        turn = subst (λ (asks : Result Ask Refusal). IsAnsweredSo asks told
            (Made (turn_with_reply (message_of ask) told) ∷ [])) (sym is) refl;
        reply = reply;
        says =
            subst (λ (asks : Result Ask Refusal). IsReplyWith k e message.kind message.repeated
            (asked_in asks) told reply)
            (sym is) of_kind;
        spelled = refl;
      }

  -- by its refusal beforehand
  pub refused : (refusal : Refusal) → message.asks ≡ Err refusal
      → ((asked : Result Asked Refusal)
      → IsReply seen message.kind message.repeated asked (Refused refusal) reply)
      → IsDeskAnswer k e message (reply_text reply) []
  refused refusal is says = record {
    told = Refused refusal;
    turn = subst (λ (asks : Result Ask Refusal). IsAnsweredSo asks (Refused refusal) []) (sym is)
        (refl, refl);
    reply = reply;
    says =
        subst (λ (c : Contents). IsReplyWith c e message.kind message.repeated (asked_in message.asks)
        (Refused refusal) reply)
        here (refused_with seen e message.kind message.repeated (asked_in message.asks) refusal reply
        (says (asked_in message.asks)));
    spelled = refl;
  }

-- a patron message
module _ (k seen : Contents) (e : Extensions) (message : PatronMessage) (here : seen ≡ k) where
  -- what is said to it, by what it asks
  said_to : (asks : Result PatronAsk Refusal) (did : List Deed) (told : PatronReply) → message.asks ≡ asks
      → IsPatronReply seen message.values e message.kind asks did told
      → IsPatronAnswer k e message (reply_text (reply.Patron told)) did
  said_to asks did told is says = record {
    told = told;
    says =
        subst (λ (x : Result PatronAsk Refusal). IsPatronReply k message.values e message.kind x did told)
        (sym is)
        (subst (λ (c : Contents). IsPatronReply c message.values e message.kind asks did told) here says);
    spelled = refl;
  }

  -- where a look was shown a journal
  pub looked : (look : PatronLook) (shown : List Turn) (told : PatronReply) → message.asks
      ≡ Ok (ask.Look look)
      → IsReplyAt seen message.values e look (state_after (facts_of seen) shown).desk told
      → IsPatronAnswer k e message (reply_text (reply.Patron told)) (Looked shown ∷ [])
  looked look shown told is says = said_to (Ok (ask.Look look)) (Looked shown ∷ []) told is says

  -- at the end of a patron's session, and at a payment
  pub ended : (told : CardReply) → message.asks ≡ Ok ask.EndSession
      → IsCardReply seen message.values None told
      → IsPatronAnswer k e message (reply_text (reply.Patron (SessionEnd told))) []
  ended told is says = said_to (Ok ask.EndSession) [] (SessionEnd told) is says

  pub not_paid : (told : CardReply) → message.asks ≡ Ok ask.TakePayment
      → IsCardReply seen message.values None told
      → IsPatronAnswer k e message (reply_text (reply.Patron (FeePaid told))) []
  not_paid told is says = said_to (Ok ask.TakePayment) [] (FeePaid told) is says

  -- and where it is refused
  pub refused_patron : (refusal : Refusal) (told : PatronReply) → message.asks ≡ Err refusal
      → IsRefusedPatron seen message.values message.kind refusal told
      → IsPatronAnswer k e message (reply_text (reply.Patron told)) []
  refused_patron refusal told is says = said_to (Err refusal) [] told is says

-- the answer to a message is that to its body
pub answer_of : (k seen : Contents) (e : Extensions) (seat at : ℕ) (now : Stamp) (login : Option Login)
    (line : Option (List ℕ))
    (came : Arrival) (body : List ℕ) (message : Message) (says : ReplyKind) (text : List ℕ) (did : List Deed)
    (next : Option Login) → seen ≡ k → at ≡ seat
    → came ≡ record { seat = at; present = now; login = login; line = line }
    → IsBodyOf seen e came body message
    → IsAnswerTo k e now login message says text did next
    → IsAnswer k e seat now login line body says text did next
answer_of k seen e seat at now login line came body message says text did next here there so reads answers =
    record {
      message = message;
      reads =
          subst (λ (s : ℕ). IsBodyOf k e (record { seat = s; present = now; login = login; line = line }) body
          message) there
          (subst (λ (arrival : Arrival). IsBodyOf k e arrival body message) so
          (subst (λ (c : Contents). IsBodyOf c e came body message) here reads));
      answers = answers;
    }
