-- What a message is answered, what the office does for it, and as whom its session is then logged in.
use Rattle.std.specs.Prelude.{◌≡◌, ⊤, ℕ, List, [], ◌∷◌, Option, Some, None, Result, Ok, Err, is_some, IsOk}
use Rattle.std.specs.Prelude.{MatchBool, if◌then◌else◌}
use Rattle.hd_date.specs.Stamps.{Prints, Stamp}
use Rattle.hd_message.specs.Replies.{reply_text}
use Rattle.hd_message.specs.declared.kind.DeskKind.{DeskKind}
use Rattle.hd_message.specs.declared.patron_reply.PatronReply.{PatronReply}
use Rattle.hd_message.specs.declared.profile.Profile.{Profile}
use Rattle.hd_message.specs.declared.reply.Reply.{Reply}
use Rattle.hd_message.specs.declared.reply.Reply.TheVariants as reply
use Rattle.hd_message.specs.declared.reply.StatusReply.{StatusReply}
use Rattle.hd_rules.specs.declared.replies.Refusal.{Refusal}
use Rattle.hd_rules.specs.declared.replies.TurnReply.{TurnReply}
use Rattle.hd_rules.specs.declared.replies.TurnReply.TheVariants.{Refused}
use Rattle.hd_rules.specs.declared.turns.Asked.{Asked}
use Rattle.hd_catalogue.specs.Contents.{Contents}
use Rattle.hd_rules.specs.Messages.{turn_with_reply, message_of}
use Rattle.hd_rules.specs.declared.ask.Ask.{Ask}
use Rattle.hd_exchange.specs.Arrivals.{Arrival}
use Rattle.hd_exchange.specs.Deeds.{Deed, Made}
use Rattle.hd_exchange.specs.Extensions.{Extensions}
use Rattle.hd_exchange.specs.Messages.{IsBodyOf}
use Rattle.hd_exchange.specs.PatronReplies.{IsPatronReply}
use Rattle.hd_exchange.specs.Replies.{IsReply}
use Rattle.hd_exchange.specs.Sorting.{IsSortedReply}
use Rattle.hd_exchange.specs.declared.login.Login.{Login as LoggedIn}
use Rattle.hd_exchange.specs.declared.message.DeskMessage.{DeskMessage}
use Rattle.hd_exchange.specs.declared.message.Message.{Message}
use Rattle.hd_exchange.specs.declared.message.Message.TheVariants.{Session, Desk, Patron}
use Rattle.hd_exchange.specs.declared.message.SessionMessage.{SessionMessage}
use Rattle.hd_exchange.specs.declared.message.SessionMessage.TheVariants.{Login, Status, Resend, Unsupported}
use Rattle.hd_exchange.specs.declared.patron_message.PatronAsk.{PatronAsk}
use Rattle.hd_exchange.specs.declared.patron_message.PatronAsk.TheVariants as ask
use Rattle.hd_exchange.specs.declared.patron_message.PatronMessage.{PatronMessage}
use Rattle.hd_exchange.specs.declared.repeated.RepeatedValues.{RepeatedValues}
use Rattle.hd_exchange.specs.declared.reply_kind.ReplyKind.{ReplyKind}
use Rattle.hd_exchange.specs.declared.reply_kind.ReplyKind.TheVariants as said

-- the answer to a message, and what the office does for it: nothing where it is refused beforehand, and else
-- it makes one turn
abbrev pub IsAnsweredSo : Result Ask Refusal → TurnReply → List Deed → Type 0
IsAnsweredSo (Err refusal) told did = (told ≡ Refused refusal) × (did ≡ [])
IsAnsweredSo (Ok ask) told did = did ≡ Made (turn_with_reply (message_of ask) told) ∷ []

-- what it asks, without the seat, the terminal and the line
abbrev pub asked_in : Result Ask Refusal → Result Asked Refusal
asked_in (Ok ask) = Ok ask.asked
asked_in (Err refusal) = Err refusal

-- the reply that reports it: with sorter fields, where they are on
abbrev pub IsReplyWith : Contents → Extensions → DeskKind → RepeatedValues → Result Asked Refusal → TurnReply
    → Reply → Type 0
IsReplyWith k e kind r asked told reply =
    MatchBool e.profile.sorter_fields
    (IsSortedReply k e.patrons kind r asked told reply)
    (IsReply k kind r asked told reply)

-- A message that asks something of the desk gets an answer, and the text is that of the reply that reports
-- it.
pub record IsDeskAnswer (k : Contents) (e : Extensions) (message : DeskMessage) (text : List ℕ)
    (did : List Deed) : Type 0 where
  pub told : TurnReply
  pub turn : IsAnsweredSo message.asks told did
  pub reply : Reply
  pub says : IsReplyWith k e message.kind message.repeated (asked_in message.asks) told reply
  pub spelled : text ≡ reply_text reply

-- What the office does for a patron message, and the text is that of the reply that reports what a look saw.
pub record IsPatronAnswer (k : Contents) (e : Extensions) (message : PatronMessage) (text : List ℕ)
    (did : List Deed) : Type 0 where
  pub told : PatronReply
  pub says : IsPatronReply k message.values e message.kind message.asks did told
  pub spelled : text ≡ reply_text (reply.Patron told)

-- the text of the reply to a login: whether it is taken
abbrev pub login_answer_text : Option LoggedIn → List ℕ
login_answer_text made = reply_text (reply.Login (record { taken = is_some made }))

-- as whom the session is then logged in: as before where the login isn't taken
abbrev pub login_after : Option LoggedIn → Option LoggedIn → Option LoggedIn
login_after login None = login
login_after login (Some made) = Some made

-- the text of the reply to a status message: whether patron messages are read
abbrev pub status_text : Profile → StatusReply → List ℕ
status_text profile status =
    if profile.patron_messages
    then reply_text (reply.StatusWithPatrons status)
    else reply_text (reply.Status status)

-- The text is that of the reply to a status message.
pub record SaysStatus (k : Contents) (profile : Profile) (now : Stamp) (text : List ℕ) : Type 0 where
  pub status : StatusReply
  pub date : Prints now status.date.now
  pub institution : status.institution.now ≡ k.institution
  pub spelled : text ≡ status_text profile status

-- what is said to a message that asks nothing of the desk: one that isn't supported is to be sent again
abbrev pub said_alone : SessionMessage → ReplyKind
said_alone (Login taken) = said.Reply
said_alone Status = said.Reply
said_alone Resend = said.LastReply
said_alone Unsupported = said.SendAgain

-- and as whom its session is then logged in
abbrev pub login_alone : Option LoggedIn → SessionMessage → Option LoggedIn
login_alone login (Login taken) = login_after login taken
login_alone login _ = login

-- and the text of its reply, where it has one
abbrev pub IsTextAlone : Contents → Profile → Stamp → SessionMessage → List ℕ → Type 0
IsTextAlone k profile now (Login taken) text = text ≡ login_answer_text taken
IsTextAlone k profile now Status text = SaysStatus k profile now text
IsTextAlone k profile now _ text = text ≡ []

module _ (k : Contents) (e : Extensions) (now : Stamp) (login : Option LoggedIn) where
  -- what is said to a message, and what the office does for it: nothing where it asks nothing of the office
  abbrev pub IsAnswerTo : Message → ReplyKind → List ℕ → List Deed → Option LoggedIn → Type 0
  IsAnswerTo (Session message) says text did next =
      (says ≡ said_alone message)
      × IsTextAlone k e.profile now message text
      × (did ≡ [])
      × (next ≡ login_alone login message)
  IsAnswerTo (Desk message) says text did next =
      (says ≡ said.Reply) × IsDeskAnswer k e message text did × (next ≡ login)
  IsAnswerTo (Patron message) says text did next =
      (says ≡ said.Reply) × IsPatronAnswer k e message text did × (next ≡ login)

-- The same of the body of a message that comes so, with its line where that carried a sequence digit.
pub record IsAnswer (k : Contents) (e : Extensions) (seat : ℕ) (now : Stamp) (login : Option LoggedIn)
    (line : Option (List ℕ)) (body : List ℕ) (says : ReplyKind) (text : List ℕ) (did : List Deed)
    (next : Option LoggedIn) : Type 0 where
  pub message : Message
  pub reads : IsBodyOf k e (record { seat = seat; present = now; login = login; line = line }) body message
  pub answers : IsAnswerTo k e now login message says text did next

-- a patron message asks for a look
abbrev pub AsksForALook : Result PatronAsk Refusal → Type 0
AsksForALook (Ok (ask.Look look)) = ⊤
AsksForALook _ = ⊥

-- a message asks something of the office: a turn, or a look
abbrev pub AsksSomething : Message → Type 0
AsksSomething (Session message) = ⊥
AsksSomething (Desk message) = IsOk message.asks
AsksSomething (Patron message) = AsksForALook message.asks

-- The message of the body asks something of the office, of a session that is logged in so, at some arrival.
-- A login, a status message, a resend, the end of a patron's session, a payment, and what is refused
-- beforehand ask nothing.
pub record AsksTheOffice (k : Contents) (e : Extensions) (login : Option LoggedIn) (body : List ℕ)
    : Type 0 where
  pub arrival : Arrival
  pub from : arrival.login ≡ login
  pub message : Message
  pub reads : IsBodyOf k e arrival body message
  pub asks : AsksSomething message
