-- What a body is answered where nothing extends the standard messages: what it was before there were
-- extensions.
use Rattle.std.specs.Prelude.{◌≡◌, ℕ, List, [], Option, Result}
use Rattle.hd_date.specs.Stamps.{Prints, Stamp}
use Rattle.hd_message.specs.Replies.{reply_text}
use Rattle.hd_message.specs.declared.reply.Reply.{Reply}
use Rattle.hd_message.specs.declared.reply.Reply.TheVariants as reply
use Rattle.hd_message.specs.declared.reply.StatusReply.{StatusReply}
use Rattle.hd_message.specs.declared.request.Request.{Request}
use Rattle.hd_message.specs.declared.unreadable.Unreadable.{Unreadable}
use Rattle.hd_rules.specs.declared.replies.TurnReply.{TurnReply}
use Rattle.hd_catalogue.specs.Contents.{Contents}
use Rattle.hd_exchange.specs.Answers.{IsAnsweredSo, asked_in, login_alone, login_answer_text, said_alone}
use Rattle.hd_exchange.specs.Deeds.{Deed}
use Rattle.hd_exchange.specs.Messages.{IsMessageRead, IsReadAs}
use Rattle.hd_exchange.specs.Replies.{IsReply}
use Rattle.hd_exchange.specs.declared.login.Login.{Login as LoggedIn}
use Rattle.hd_exchange.specs.declared.message.DeskMessage.{DeskMessage}
use Rattle.hd_exchange.specs.declared.message.Message.{Message}
use Rattle.hd_exchange.specs.declared.message.Message.TheVariants.{Session, Desk, Patron}
use Rattle.hd_exchange.specs.declared.message.SessionMessage.{SessionMessage}
use Rattle.hd_exchange.specs.declared.message.SessionMessage.TheVariants.{Login, Status, Resend, Unsupported}
use Rattle.hd_exchange.specs.declared.reply_kind.ReplyKind.{ReplyKind}
use Rattle.hd_exchange.specs.declared.reply_kind.ReplyKind.TheVariants as said

-- A message that asks something of the desk gets an answer, and the text is that of the standard reply that
-- reports it.
pub record IsStandardDeskAnswer (k : Contents) (message : DeskMessage) (text : List ℕ) (did : List Deed)
    : Type 0 where
  pub told : TurnReply
  pub turn : IsAnsweredSo message.asks told did
  pub reply : Reply
  pub says : IsReply k message.kind message.repeated (asked_in message.asks) told reply
  pub spelled : text ≡ reply_text reply

-- The text is that of the standard reply to a status message.
pub record SaysStandardStatus (k : Contents) (now : Stamp) (text : List ℕ) : Type 0 where
  pub status : StatusReply
  pub date : Prints now status.date.now
  pub institution : status.institution.now ≡ k.institution
  pub spelled : text ≡ reply_text (reply.Status status)

-- the text of the reply to a message that asks nothing of the desk, where it has one
abbrev pub IsStandardText : Contents → Stamp → SessionMessage → List ℕ → Type 0
IsStandardText k now (Login taken) text = text ≡ login_answer_text taken
IsStandardText k now Status text = SaysStandardStatus k now text
IsStandardText k now Resend text = text ≡ []
IsStandardText k now Unsupported text = text ≡ []

module _ (k : Contents) (now : Stamp) (login : Option LoggedIn) where
  -- what is said to a message, and what the office does for it; there are no patron messages
  abbrev pub IsStandardAnswerTo : Message → ReplyKind → List ℕ → List Deed → Option LoggedIn → Type 0
  IsStandardAnswerTo (Session message) says text did next =
      (says ≡ said_alone message)
      × IsStandardText k now message text
      × (did ≡ [])
      × (next ≡ login_alone login message)
  IsStandardAnswerTo (Desk message) says text did next =
      (says ≡ said.Reply) × IsStandardDeskAnswer k message text did × (next ≡ login)
  IsStandardAnswerTo (Patron message) says text did next = ⊥

-- The body is read by the standard profile, and that is its answer.
pub record IsStandardAnswer (k : Contents) (seat : ℕ) (now : Stamp) (login : Option LoggedIn)
    (line : Option (List ℕ)) (body : List ℕ) (says : ReplyKind) (text : List ℕ) (did : List Deed)
    (next : Option LoggedIn) : Type 0 where
  pub message : Message
  pub read : Result Request Unreadable
  pub reads : IsReadAs body read
  pub is : IsMessageRead k (record { seat = seat; present = now; login = login; line = line }) read message
  pub answers : IsStandardAnswerTo k now login message says text did next
