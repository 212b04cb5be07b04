-- Where nothing extends the standard messages, and where patron messages are off.
use Rattle.std.proofs.Common.{◌≡◌, ℕ, Bool, true, false, MatchBool, List, Option, Result, Ok, Err, refl, sym}
use Rattle.std.proofs.Common.{◌∙◌, subst}
use Rattle.std.specs.Prelude.{⊤}
use Rattle.hd_date.specs.Stamps.{Stamp}
use Rattle.hd_message.specs.PatronReading.{IsReading}
use Rattle.hd_message.specs.declared.patron_reading.Reading.{Reading}
use Rattle.hd_message.specs.declared.patron_reading.Reading.TheVariants as Read
use Rattle.hd_message.specs.declared.request.Request.{Request}
use Rattle.hd_message.specs.declared.request.Request.TheVariants.{Login, Status, Checkout, Checkin, Hold}
use Rattle.hd_message.specs.declared.request.Request.TheVariants.{Renew, Item, Resend, Unsupported}
use Rattle.hd_message.specs.declared.unreadable.Unreadable.{Unreadable}
use Rattle.hd_message.specs.declared.unreadable.Unreadable.TheVariants as unreadable
use Rattle.hd_rules.specs.declared.ask.Ask.{Ask}
use Rattle.hd_rules.specs.declared.replies.Refusal.{Refusal}
use Rattle.hd_rules.specs.declared.replies.TurnReply.{TurnReply}
use Rattle.hd_catalogue.specs.Contents.{Contents}
use Rattle.hd_exchange.specs.Answers.{IsAnswer, IsAnswerTo, IsAnsweredSo, IsTextAlone}
use Rattle.hd_exchange.specs.Arrivals.{Arrival}
use Rattle.hd_exchange.specs.Deeds.{AreTurns, Deed}
use Rattle.hd_exchange.specs.Extensions.{Extensions, no_extensions}
use Rattle.hd_exchange.specs.Messages.{IsBodyOf, IsMessageOfReading, IsMessageRead, IsReadAs}
use Rattle.hd_exchange.specs.StandardAnswers.{IsStandardAnswer, IsStandardAnswerTo, IsStandardText}
use Rattle.hd_exchange.specs.declared.login.Login.{Login as LoggedIn}
use Rattle.hd_exchange.specs.declared.message.Message.{Message}
use Rattle.hd_exchange.specs.declared.message.Message.TheVariants as OfMessage
use Rattle.hd_exchange.specs.declared.message.SessionMessage.{SessionMessage}
use Rattle.hd_exchange.specs.declared.message.SessionMessage.TheVariants as own
use Rattle.hd_exchange.specs.declared.patron_message.PatronMessage.{PatronMessage}
use Rattle.hd_exchange.specs.declared.reply_kind.ReplyKind.{ReplyKind}
use Rattle.hd_exchange.proofs.OneReading.{read_as}

-- what is off isn't on
not_on : (on : Bool) → on ≡ false → on ≡ true → ⊥
not_on on off is = subst (λ (b : Bool). MatchBool b ⊥ ⊤) (sym off ∙ is) tt

-- a standard reading is no patron message
no_patron_read : (k : Contents) (arrival : Arrival) (read : Result Request Unreadable) (m : PatronMessage)
    → IsMessageRead k arrival read (OfMessage.Patron m) → ⊥
no_patron_read k arrival (Ok (Login r)) m is = is
no_patron_read k arrival (Ok Status) m is = is
no_patron_read k arrival (Ok (Checkout r)) m is = is
no_patron_read k arrival (Ok (Checkin r)) m is = is
no_patron_read k arrival (Ok (Hold r)) m is = is
no_patron_read k arrival (Ok (Renew r)) m is = is
no_patron_read k arrival (Ok (Item r)) m is = is
no_patron_read k arrival (Ok Resend) m is = is
no_patron_read k arrival (Ok Unsupported) m is = is
no_patron_read k arrival (Err unreadable.Login) m is = is
no_patron_read k arrival (Err (unreadable.Desk u)) m is = is

-- where they are off there are none
no_patron : (k : Contents) (e : Extensions) (arrival : Arrival) (body : List ℕ) (m : PatronMessage)
    → e.profile.patron_messages ≡ false → IsBodyOf k e arrival body (OfMessage.Patron m) → ⊥
no_patron k e arrival body m off reads = by_reading reads.read reads.reads reads.is
  where
    by_reading : (read : Reading) → IsReading e.profile body read
        → IsMessageOfReading k arrival read (OfMessage.Patron m) → ⊥
    by_reading (Read.Standard read) reads is = no_patron_read k arrival read m is
    by_reading (Read.Patron read) reads is = not_on e.profile.patron_messages off reads.0

-- the turns of a deed
turned : (asks : Result Ask Refusal) (told : TurnReply) (did : List Deed) → IsAnsweredSo asks told did
    → AreTurns did
turned (Err refusal) told did is = subst (λ (d : List Deed). AreTurns d) (sym is.1) tt
turned (Ok ask) told did is = subst (λ (d : List Deed). AreTurns d) (sym is) tt

pub only_turns : (k : Contents) (e : Extensions) (seat : ℕ) (now : Stamp) (login : Option LoggedIn)
    (line : Option (List ℕ))
    (body : List ℕ) (says : ReplyKind) (text : List ℕ) (did : List Deed) (next : Option LoggedIn)
    → e.profile.patron_messages ≡ false → IsAnswer k e seat now login line body says text did next
    → AreTurns did
only_turns k e seat now login line body says text did next off is = by_message is.message is.reads is.answers
  where
    by_message : (message : Message)
        → IsBodyOf k e (record { seat = seat; present = now; login = login; line = line }) body message
        → IsAnswerTo k e now login message says text did next → AreTurns did
    by_message (OfMessage.Session m) reads answers = subst (λ (d : List Deed). AreTurns d) (sym answers.2) tt
    by_message (OfMessage.Desk m) reads answers = turned m.asks answers.1.told did answers.1.turn
    by_message (OfMessage.Patron m) reads answers = absurd (no_patron k e _ body m off reads)

-- The answers that were given before.

standard_text : (k : Contents) (now : Stamp) (m : SessionMessage) (text : List ℕ)
    → IsTextAlone k no_extensions.profile now m text
    → IsStandardText k now m text
standard_text k now (own.Login taken) text is = is
standard_text k now own.Status text is =
    record { status = is.status; date = is.date; institution = is.institution; spelled = is.spelled }
standard_text k now own.Resend text is = is
standard_text k now own.Unsupported text is = is

text_alone : (k : Contents) (now : Stamp) (m : SessionMessage) (text : List ℕ) → IsStandardText k now m text
    → IsTextAlone k no_extensions.profile now m text
text_alone k now (own.Login taken) text is = is
text_alone k now own.Status text is =
    record { status = is.status; date = is.date; institution = is.institution; spelled = is.spelled }
text_alone k now own.Resend text is = is
text_alone k now own.Unsupported text is = is

module _ (k : Contents) (seat : ℕ) (now : Stamp) (login : Option LoggedIn) (line : Option (List ℕ))
    (body : List ℕ)
    (says : ReplyKind) (text : List ℕ) (did : List Deed) (next : Option LoggedIn) where
  abbrev came : Arrival
  came = record { seat = seat; present = now; login = login; line = line }

  as_before : (message : Message) → IsBodyOf k no_extensions came body message
      → IsAnswerTo k no_extensions now login message says text did next
      → IsStandardAnswerTo k now login message says text did next
  as_before (OfMessage.Session m) reads a = (a.0, standard_text k now m text a.1, a.2, a.3)
  as_before (OfMessage.Desk m) reads a = (
    a.0,
    record {
      told = a.1.told;
      turn = a.1.turn;
      reply = a.1.reply;
      says = a.1.says;
      spelled =
          a.1.spelled;
    },
    a.2,
  )
  as_before (OfMessage.Patron m) reads a = absurd (no_patron k no_extensions came body m refl reads)

  by_read : (read : Reading) (message : Message) → IsReading no_extensions.profile body read
      → IsMessageOfReading k came read message
      → IsStandardAnswerTo k now login message says text did next
      → IsStandardAnswer k seat now login line body says text did next
  by_read (Read.Standard read) message reads is answers =
      record {
        message = message;
        read = read;
        reads = read_as k no_extensions.profile body read reads;
        is =
            is;
        answers = answers;
      }
  by_read (Read.Patron read) message reads is answers = absurd (not_on false refl reads.0)

  pub before : IsAnswer k no_extensions seat now login line body says text did next
      → IsStandardAnswer k seat now login line body says text did next
  before is = by_read is.reads.read is.message is.reads.reads is.reads.is
      (as_before is.message is.reads is.answers)

  now_too : (message : Message) → IsStandardAnswerTo k now login message says text did next
      → IsAnswerTo k no_extensions now login message says text did next
  now_too (OfMessage.Session m) a = (a.0, text_alone k now m text a.1, a.2, a.3)
  now_too (OfMessage.Desk m) a = (
    a.0,
    record {
      told = a.1.told;
      turn = a.1.turn;
      reply = a.1.reply;
      says = a.1.says;
      spelled =
          a.1.spelled;
    },
    a.2,
  )
  now_too (OfMessage.Patron m) a = absurd a

  reading : (read : Result Request Unreadable) → IsReadAs body read
      → IsReading no_extensions.profile body (Read.Standard read)
  reading (Ok request) is = (tt, is, tt)
  reading (Err unreadable) is = (tt, tt, is)

  pub since : IsStandardAnswer k seat now login line body says text did next
      → IsAnswer k no_extensions seat now login line body says text did next
  since is = record {
    message = is.message;
    reads = record { read = Read.Standard is.read; reads = reading is.read is.reads; is = is.is };
    answers = now_too is.message is.answers;
  }
