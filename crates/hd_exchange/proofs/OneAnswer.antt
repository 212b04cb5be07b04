-- A body has one answer.
use Rattle.std.proofs.Common.{◌≡◌, ℕ, ℤ, List, [], ◌∷◌, Option, Some, None, Result, Ok, Err, refl, sym, ap}
use Rattle.std.proofs.Common.{◌∙◌, subst}
use Rattle.std.proofs.lemmas.Option.{same_Some}
use Rattle.hd_date.specs.Faults.{IsFirstFault}
use Rattle.hd_date.specs.Stamps.{IsStamp, Prints, Stamp}
use Rattle.hd_date.specs.declared.fault.DateFault.{DateFault}
use Rattle.hd_message.specs.Reading.{IsRequest, IsUnreadable}
use Rattle.hd_message.specs.declared.kind.DeskKind.{DeskKind}
use Rattle.hd_message.specs.PatronReading.{IsPatronMessage, IsUnreadablePatron}
use Rattle.hd_message.specs.declared.patron_kind.PatronKind.{PatronKind}
use Rattle.hd_message.specs.declared.patron_reading.Reading.{Reading}
use Rattle.hd_message.specs.declared.patron_reading.Reading.TheVariants as Read
use Rattle.hd_message.specs.declared.patron_reply.PatronReply.{PatronReply}
use Rattle.hd_message.specs.declared.patron_request.PatronRequest.{PatronRequest}
use Rattle.hd_message.specs.declared.patron_request.UnreadablePatron.{UnreadablePatron}
use Rattle.hd_message.specs.declared.reply.StatusReply.{StatusReply}
use Rattle.hd_message.specs.declared.request.Request.{Request}
use Rattle.hd_message.specs.declared.request.Request.TheVariants.{Login, Status, Checkout, Checkin, Hold}
use Rattle.hd_message.specs.declared.request.Request.TheVariants.{Renew, Item, Resend, Unsupported}
use Rattle.hd_message.specs.declared.unreadable.Unreadable.{Unreadable}
use Rattle.hd_message.specs.declared.unreadable.Unreadable.TheVariants as Unread
use Rattle.hd_rules.specs.declared.replies.Refusal.{Refusal}
use Rattle.hd_rules.specs.declared.replies.TurnReply.{TurnReply}
use Rattle.hd_rules.specs.declared.replies.TurnReply.TheVariants.{Refused}
use Rattle.hd_rules.specs.declared.turns.Asked.{Asked}
use Rattle.hd_catalogue.specs.Contents.{Contents}
use Rattle.hd_rules.specs.Messages.{SeatMessage, turn_with_reply}
use Rattle.hd_rules.specs.declared.ask.Ask.{Ask}
use Rattle.hd_exchange.specs.Answers.{IsAnswer, IsAnswerTo, IsDeskAnswer, IsAnsweredSo, IsPatronAnswer}
use Rattle.hd_exchange.specs.Answers.{IsReplyWith, SaysStatus}
use Rattle.hd_exchange.specs.Answers.{asked_in, login_after, login_answer_text, status_text}
use Rattle.hd_exchange.specs.Arrivals.{Arrival, ask_of}
use Rattle.hd_exchange.specs.Dates.{AreDatesOf, IsReadAs as IsDate, IsReadIfAny, IsStatedAs, PrintsDate}
use Rattle.hd_exchange.specs.Messages.{IsAskedAs, IsMessageOf, IsMessageOfReading, IsMessageRead, IsRequestAs}
use Rattle.hd_exchange.specs.Messages.{IsUnreadableAs, Stated}
use Rattle.hd_exchange.specs.Messages.{asked_by}
use Rattle.hd_exchange.specs.PatronMessages.{IsPatronMessageOf, PatronStated, patron_asked}
use Rattle.hd_exchange.specs.PatronReplies.{IsPatronReply}
use Rattle.hd_exchange.specs.Deeds.{Deed, Made, Looked, messages_of}
use Rattle.hd_exchange.specs.Extensions.{Extensions}
use Rattle.hd_exchange.specs.declared.dates.Dates.{Dates}
use Rattle.hd_exchange.specs.declared.login.Login.{Login as LoggedIn}
use Rattle.hd_exchange.specs.declared.message.DeskMessage.{DeskMessage}
use Rattle.hd_exchange.specs.declared.message.Message.{Message}
use Rattle.hd_exchange.specs.declared.message.Message.TheVariants as OfMessage
use Rattle.hd_exchange.specs.declared.message.SessionMessage.TheVariants as own
use Rattle.hd_exchange.specs.declared.patron_message.PatronAsk.{PatronAsk}
use Rattle.hd_exchange.specs.declared.patron_message.PatronAsk.TheVariants as ask
use Rattle.hd_exchange.specs.declared.patron_message.PatronMessage.{PatronMessage}
use Rattle.hd_exchange.specs.declared.patron_message.PatronValues.{PatronValues}
use Rattle.hd_exchange.specs.declared.reply_kind.ReplyKind.{ReplyKind}
use Rattle.hd_exchange.specs.declared.reply_kind.ReplyKind.TheVariants as said
use Rattle.hd_exchange.proofs.OneReading.{Gist, Asks, Repeats, Reported, Taken, Tells, Unknown, gist, gist_of}
use Rattle.hd_exchange.proofs.OneReading.{gist_read, one_reading, unread}
use Rattle.hd_exchange.proofs.OnePatronReply.{one_patron_text}
use Rattle.hd_exchange.proofs.OneSortedReply.{one_text_with}

-- what an office is asked for a patron message: a look, or nothing
deeds_asked : Result PatronAsk Refusal → List (Option SeatMessage)
deeds_asked (Err refusal) = []
deeds_asked (Ok ask.EndSession) = []
deeds_asked (Ok ask.TakePayment) = []
deeds_asked (Ok (ask.Look look)) = None ∷ []

does_so : (k : Contents) (v : PatronValues) (e : Extensions) (kind : PatronKind)
    (asks : Result PatronAsk Refusal) (did : List Deed)
    (reply : PatronReply) → IsPatronReply k v e kind asks did reply → messages_of did ≡ deeds_asked asks
unfolding deeds_asked
does_so k v e kind (Err refusal) [] reply is = refl
does_so k v e kind (Ok ask.EndSession) [] reply is = refl
does_so k v e kind (Ok ask.TakePayment) [] reply is = refl
does_so k v e kind (Ok (ask.Look look)) (Looked shown ∷ []) reply is = refl
does_so k v e kind _ _ reply is = absurd is

-- two answers of the same deeds are the same
abbrev pub AreOne : List Deed → List Deed → ReplyKind → ReplyKind → List ℕ → List ℕ → Option LoggedIn
    → Option LoggedIn → Type 0
AreOne did did' says says' text text' next next' =
    (messages_of did ≡ messages_of did') × (did ≡ did' → (says ≡ says') × (text ≡ text') × (next ≡ next'))

-- what is told, by what is asked: its deed
abbrev IsToldSo : Arrival → Result Asked Refusal → TurnReply → List Deed → Type 0
IsToldSo arrival (Err refusal) told did = (told ≡ Refused refusal) × (did ≡ [])
IsToldSo arrival (Ok asked) told did =
    (at : LoggedIn) × (arrival.login ≡ Some at)
    × (did ≡ Made (turn_with_reply (ask_of arrival at asked) told) ∷ [])

told_so : (arrival : Arrival) (asked : Result Asked Refusal) (asks : Result Ask Refusal) (told : TurnReply)
    (did : List Deed)
    → IsAskedAs arrival asked asks → IsAnsweredSo asks told did → IsToldSo arrival asked told did
told_so arrival (Err refusal) (Err first) told did is turn = (turn.0 ∙ ap Refused is, turn.1)
told_so arrival (Ok asked) (Ok ask) told did is turn =
    (is.0, is.1, turn ∙ ap (λ (m : SeatMessage). Made (turn_with_reply m told) ∷ []) is.2)
told_so arrival (Err refusal) (Ok ask) told did none turn = absurd none
told_so arrival (Ok asked) (Err first) told did none turn = absurd none

asked_so : (arrival : Arrival) (asked : Result Asked Refusal) (asks : Result Ask Refusal)
    → IsAskedAs arrival asked asks
    → asked_in asks ≡ asked
asked_so arrival (Err refusal) (Err first) is = rw is refl
asked_so arrival (Ok asked) (Ok ask) is =
    ap (λ (m : SeatMessage). let r : Result Asked Refusal = Ok m.message.asked in r) is.2
asked_so arrival (Err refusal) (Ok ask) none = absurd none
asked_so arrival (Ok asked) (Err first) none = absurd none

-- the reply of the first of some deeds, where that is a turn
first_told : TurnReply → List Deed → TurnReply
first_told told [] = told
first_told told (Made turn ∷ rest) = turn.reply
first_told told (Looked shown ∷ rest) = told

one_told : (arrival : Arrival) (asked : Result Asked Refusal) (told told' : TurnReply) (did did' : List Deed)
    → IsToldSo arrival asked told did → IsToldSo arrival asked told' did'
    → (messages_of did ≡ messages_of did') × (did ≡ did' → told ≡ told')
unfolding first_told
one_told arrival (Err refusal) told told' did did' p q =
    (ap (λ (t : List Deed). messages_of t) (p.1 ∙ sym q.1), λ same. p.0 ∙ sym q.0)
one_told arrival (Ok asked) told told' did did' p q =
    let at : p.0 ≡ q.0 = same_Some _ _ (sym p.1 ∙ q.1) in (
      ap (λ (t : List Deed). messages_of t) p.2
          ∙ (ap (λ (l : LoggedIn). messages_of (Made (turn_with_reply (ask_of arrival l asked) told) ∷ [])) at
          ∙ ap (λ (t : List Deed). messages_of t) (sym q.2)),
      λ same. ap (λ (t : List Deed). first_told told t) (sym p.2 ∙ (same ∙ q.2)),
    )

-- two dates of the same values
same_dates : (a b : Dates) → a.transaction ≡ b.transaction → a.printed ≡ b.printed → a.other ≡ b.other → a ≡ b
same_dates a b transaction printed other =
    ap (λ (t : Option Stamp). let d : Dates =
    record { transaction = t; printed = a.printed; other = a.other } in d) transaction
    ∙ (ap (λ (t : List ℕ). let d : Dates =
    record { transaction = b.transaction; printed = t; other = a.other } in d) printed
    ∙ ap (λ (t : Option (Option ℕ)). let d : Dates =
    record { transaction = b.transaction; printed = b.printed; other = t } in d) other)

module _ (print_one : (stamp : Stamp) (text other : List ℕ) → Prints stamp text → Prints stamp other → text
    ≡ other)
    (stamp_one : (text : List ℕ) (offset : ℤ) (s t : Stamp) → IsStamp text offset s → IsStamp text offset t
    → s ≡ t)
    (no_fault : (text : List ℕ) (offset : ℤ) (s : Stamp) (fault : DateFault) → IsStamp text offset s
    → IsFirstFault text offset fault → ⊥)
    (readable : (body : List ℕ) (request : Request) (message : Unreadable) → IsRequest body request
    → IsUnreadable body message → ⊥)
    (readable_patron : (body : List ℕ) (request : PatronRequest) (message : UnreadablePatron)
    → IsPatronMessage body request
    → IsUnreadablePatron body message → ⊥)
  where
    -- a date is read in one way
    one_date : (offset : ℤ) (text : List ℕ) (s t : Option Stamp) → IsDate offset text s → IsDate offset text t
        → s ≡ t
    one_date offset text (Some s) (Some t) p q = ap Some (stamp_one text offset s t p q)
    one_date offset text (Some s) None p q = absurd (no_fault text offset s q.0 p q.1)
    one_date offset text None (Some t) p q = absurd (no_fault text offset t p.0 q p.1)
    one_date offset text None None p q = refl

    one_if_any : (offset : ℤ) (text : Option (List ℕ)) (s t : Option Stamp) → IsReadIfAny offset text s
        → IsReadIfAny offset text t → s ≡ t
    one_if_any offset None s t p q = p ∙ sym q
    one_if_any offset (Some text) s t p q = one_date offset text s t p q

    one_day : (offset : ℤ) (text : List ℕ) (s t : Option (Option ℕ)) → IsStatedAs offset (Some text) s
        → IsStatedAs offset (Some text) t
        → s ≡ t
    one_day offset text (Some (Some s)) (Some (Some t)) p q =
        let same : p.stamp ≡ q.stamp = stamp_one text offset p.stamp q.stamp p.reads q.reads in
        let day : s ≡ t = sym p.day ∙ (ap (λ (x : Stamp). x.day) same ∙ q.day) in
        rw day refl
    one_day offset text (Some (Some s)) None p q = absurd (no_fault text offset p.stamp q.0 p.reads q.1)
    one_day offset text None (Some (Some t)) p q = absurd (no_fault text offset q.stamp p.0 q.reads p.1)
    one_day offset text None None p q = refl
    one_day offset text (Some None) t p q = absurd p
    one_day offset text s (Some None) p q = absurd q

    one_day_if_any : (offset : ℤ) (text : Option (List ℕ)) (s t : Option (Option ℕ))
        → IsStatedAs offset text s → IsStatedAs offset text t
        → s ≡ t
    one_day_if_any offset None s t p q = p ∙ sym q
    one_day_if_any offset (Some text) s t p q = one_day offset text s t p q

    one_printed : (now : Stamp) (s : Option Stamp) (a b : List ℕ) → PrintsDate now s a → PrintsDate now s b
        → a ≡ b
    one_printed now None a b p q = print_one now a b p q
    one_printed now (Some s) a b p q = print_one s a b p q

    one_dates : (offset : ℤ) (now : Stamp) (text other : Option (List ℕ)) (a b : Dates)
        → AreDatesOf offset now text other a
        → AreDatesOf offset now text other b → a ≡ b
    one_dates offset now text other a b p q =
        let transaction : a.transaction
        ≡ b.transaction = one_if_any offset text a.transaction b.transaction p.transaction q.transaction in
        same_dates a b transaction
        (one_printed now b.transaction a.printed b.printed
        (subst (λ (s : Option Stamp). PrintsDate now s a.printed) transaction p.printed) q.printed)
        (one_day_if_any offset other a.other b.other p.other q.other)

    module _ (k : Contents) (e : Extensions) (now : Stamp) (login : Option LoggedIn) where
      -- what a message that comes to this is answered
      abbrev IsAnswered : Arrival → Gist → ReplyKind → List ℕ → List Deed → Option LoggedIn → Type 0
      IsAnswered arrival (Taken taken) says text did next =
          (says ≡ said.Reply) × (text ≡ login_answer_text taken) × (did ≡ [])
          × (next ≡ login_after login taken)
      IsAnswered arrival Reported says text did next =
          (says ≡ said.Reply) × SaysStatus k e.profile now text × (did ≡ []) × (next ≡ login)
      IsAnswered arrival Repeats says text did next =
          (says ≡ said.LastReply) × (text ≡ []) × (did ≡ []) × (next ≡ login)
      IsAnswered arrival Unknown says text did next =
          (says ≡ said.SendAgain) × (text ≡ []) × (did ≡ []) × (next ≡ login)
      IsAnswered arrival (Asks stated) says text did next =
          (says ≡ said.Reply)
          × ((message : DeskMessage) × IsMessageOf k arrival stated message × IsDeskAnswer k e message text
          did)
          × (next ≡ login)
      IsAnswered arrival (Tells stated) says text did next =
          (says ≡ said.Reply)
          × ((message : PatronMessage) × IsPatronMessageOf k arrival stated message × IsPatronAnswer k e
          message text did)
          × (next ≡ login)

      module _ (arrival : Arrival) (says : ReplyKind) (text : List ℕ) (did : List Deed)
          (next : Option LoggedIn) where
        -- a login that is taken so
        taken_so : (taken named : Option LoggedIn) → taken ≡ named
            → IsAnswerTo k e now login (OfMessage.Session (own.Login taken)) says text did next
            → IsAnswered arrival (Taken named) says text did next
        taken_so taken named is a = (
          a.0,
          a.1 ∙ ap (λ (t : Option LoggedIn). login_answer_text t) is,
          a.2,
          a.3
              ∙ ap (λ (t : Option LoggedIn). login_after login t) is,
        )

        of_request : (request : Request) (message : Message) → IsRequestAs k arrival request message
            → IsAnswerTo k e now login message says text did next
            → IsAnswered arrival (gist k request) says text did next
        of_request (Login r) (OfMessage.Session (own.Login taken)) is a = taken_so taken _ is a
        of_request Status (OfMessage.Session own.Status) is a = a
        of_request Resend (OfMessage.Session own.Resend) is a = a
        of_request Unsupported (OfMessage.Session own.Unsupported) is a = a
        of_request (Checkout r) (OfMessage.Desk message) is a = (a.0, (message, is, a.1), a.2)
        of_request (Checkin r) (OfMessage.Desk message) is a = (a.0, (message, is, a.1), a.2)
        of_request (Hold r) (OfMessage.Desk message) is a = (a.0, (message, is, a.1), a.2)
        of_request (Renew r) (OfMessage.Desk message) is a = (a.0, (message, is, a.1), a.2)
        of_request (Item r) (OfMessage.Desk message) is a = (a.0, (message, is, a.1), a.2)
        of_request _ _ none a = absurd none

        of_unread : (unreadable : Unreadable) (message : Message)
            → IsUnreadableAs k arrival unreadable message
            → IsAnswerTo k e now login message says text did next
            → IsAnswered arrival (unread k unreadable) says text did next
        of_unread Unread.Login (OfMessage.Session (own.Login taken)) is a = taken_so taken _ is a
        of_unread (Unread.Desk m) (OfMessage.Desk message) is a = (a.0, (message, is, a.1), a.2)
        of_unread _ _ none a = absurd none

        of_read : (read : Result Request Unreadable) (message : Message)
            → IsMessageRead k arrival read message
            → IsAnswerTo k e now login message says text did next
            → IsAnswered arrival (gist_read k read) says text did next
        of_read (Ok request) message is a = of_request request message is a
        of_read (Err unreadable) message is a = of_unread unreadable message is a

        of_reading : (read : Reading) (message : Message) → IsMessageOfReading k arrival read message
            → IsAnswerTo k e now login message says text did next
            → IsAnswered arrival (gist_of k read) says text did next
        of_reading (Read.Standard read) message is a = of_read read message is a
        of_reading (Read.Patron read) (OfMessage.Patron message) is a = (a.0, (message, is, a.1), a.2)
        of_reading (Read.Patron read) _ none a = absurd none

      -- two status replies
      one_status : (text text' : List ℕ) → SaysStatus k e.profile now text → SaysStatus k e.profile now text'
          → text ≡ text'
      one_status text text' p q =
          let date : p.status.date.now
          ≡ q.status.date.now = print_one now p.status.date.now q.status.date.now p.date q.date in
          let institution : p.status.institution.now ≡ q.status.institution.now = p.institution
          ∙ sym q.institution in
          p.spelled ∙ (same_status p.status q.status date institution ∙ sym q.spelled)
        where
          same_status : (a b : StatusReply) → a.date.now ≡ b.date.now → a.institution.now ≡ b.institution.now
              → status_text e.profile a ≡ status_text e.profile b
          same_status a b date institution = rw (date, institution) refl

      -- two answers to messages of the desk that state the same
      one_desk : (arrival : Arrival) (stated : Stated) (m n : DeskMessage) (text text' : List ℕ)
          (did did' : List Deed)
          → IsMessageOf k arrival stated m → IsMessageOf k arrival stated n → IsDeskAnswer k e m text did
          → IsDeskAnswer k e n text' did'
          → (messages_of did ≡ messages_of did') × (did ≡ did' → text ≡ text')
      one_desk arrival stated m n text text' did did' p q a b =
          let dates : p.dates ≡ q.dates =
          one_dates k.settings.offset arrival.present stated.date stated.other p.dates q.dates p.reads
          q.reads in
          let asked : asked_by arrival.login stated q.dates ≡ asked_by arrival.login stated p.dates =
          ap (λ (d : Dates). asked_by arrival.login stated d) (sym dates) in
          let here = told_so arrival (asked_by arrival.login stated p.dates) m.asks a.told did p.asked
          a.turn in
          let there = told_so arrival (asked_by arrival.login stated q.dates) n.asks b.told did' q.asked
          b.turn in
          let moved : IsToldSo arrival (asked_by arrival.login stated p.dates) b.told did' =
          subst (λ (x : Result Asked Refusal). IsToldSo arrival x b.told did') asked there in
          let one = one_told arrival (asked_by arrival.login stated p.dates) a.told b.told did did' here
          moved in
          let same : asked_in n.asks ≡ asked_in m.asks =
          asked_so arrival (asked_by arrival.login stated q.dates) n.asks q.asked
          ∙ (asked ∙ sym (asked_so arrival (asked_by arrival.login stated p.dates) m.asks p.asked)) in
          let kind : n.kind ≡ m.kind = q.kind ∙ sym p.kind in (
            one.0,
            λ turns.
                a.spelled ∙ (one_text_with k e m.repeated n.repeated (asked_in m.asks)
                (p.date ∙ (ap (λ (d : Dates). d.printed) dates ∙ sym q.date)) (p.patron ∙ sym q.patron)
                (p.copy ∙ sym q.copy)
                (p.title ∙ sym q.title) a.told m.kind a.reply b.reply a.says
                (subst (λ (d : DeskKind). IsReplyWith k e d n.repeated (asked_in m.asks) a.told b.reply) kind
                (subst (λ (x : Result Asked Refusal). IsReplyWith k e n.kind n.repeated x a.told b.reply) same
                (subst (λ (t : TurnReply). IsReplyWith k e n.kind n.repeated (asked_in n.asks) t b.reply)
                (sym (one.1 turns)) b.says)))
                ∙ sym b.spelled),
          )

      -- two answers to patron messages that state the same
      one_told_patron : (arrival : Arrival) (stated : PatronStated) (m n : PatronMessage)
          (text text' : List ℕ) (did did' : List Deed)
          → IsPatronMessageOf k arrival stated m → IsPatronMessageOf k arrival stated n
          → IsPatronAnswer k e m text did
          → IsPatronAnswer k e n text' did'
          → (messages_of did ≡ messages_of did') × (did ≡ did' → text ≡ text')
      one_told_patron arrival stated m n text text' did did' p q a b =
          let dates : p.dates ≡ q.dates =
          one_dates k.settings.offset arrival.present stated.date None p.dates q.dates p.reads q.reads in
          let asks : n.asks ≡ m.asks =
          q.asks ∙ (ap (λ (d : Dates). patron_asked arrival.login stated d) (sym dates) ∙ sym p.asks) in
          let kind : n.kind ≡ m.kind = q.kind ∙ sym p.kind in
          let moved : IsPatronReply k n.values e m.kind m.asks did' b.told =
          subst (λ (d : PatronKind). IsPatronReply k n.values e d m.asks did' b.told) kind
          (subst (λ (x : Result PatronAsk Refusal). IsPatronReply k n.values e n.kind x did' b.told) asks
          b.says) in (
            does_so k m.values e m.kind m.asks did a.told a.says
                ∙ sym (does_so k n.values e m.kind m.asks did' b.told moved),
            λ deeds.
                a.spelled ∙ (one_patron_text k m.values n.values
                (p.date ∙ (ap (λ (d : Dates). d.printed) dates ∙ sym q.date))
                (p.language ∙ sym q.language) (p.patron ∙ sym q.patron) (p.password ∙ sym q.password) e m.kind
                m.asks did a.told
                b.told a.says
                (subst (λ (d : List Deed). IsPatronReply k n.values e m.kind m.asks d b.told) (sym deeds)
                moved)
                ∙ sym b.spelled),
          )

      -- two answers to messages that come to the same
      one_answered : (arrival : Arrival) (g : Gist) (says says' : ReplyKind) (text text' : List ℕ)
          (did did' : List Deed)
          (next next' : Option LoggedIn) → IsAnswered arrival g says text did next
          → IsAnswered arrival g says' text' did' next'
          → AreOne did did' says says' text text' next next'
      one_answered arrival (Taken taken) says says' text text' did did' next next' p q = (
        ap (λ (t : List Deed). messages_of t) (p.2 ∙ sym q.2),
        λ same.
            (p.0 ∙ sym q.0, p.1 ∙ sym q.1, p.3 ∙ sym q.3),
      )
      one_answered arrival Reported says says' text text' did did' next next' p q = (
        ap (λ (t : List Deed). messages_of t) (p.2 ∙ sym q.2),
        λ same.
            (p.0 ∙ sym q.0, one_status text text' p.1 q.1, p.3 ∙ sym q.3),
      )
      one_answered arrival Repeats says says' text text' did did' next next' p q = (
        ap (λ (t : List Deed). messages_of t) (p.2 ∙ sym q.2),
        λ same.
            (p.0 ∙ sym q.0, p.1 ∙ sym q.1, p.3 ∙ sym q.3),
      )
      one_answered arrival Unknown says says' text text' did did' next next' p q = (
        ap (λ (t : List Deed). messages_of t) (p.2 ∙ sym q.2),
        λ same.
            (p.0 ∙ sym q.0, p.1 ∙ sym q.1, p.3 ∙ sym q.3),
      )
      one_answered arrival (Asks stated) says says' text text' did did' next next' p q =
          let one = one_desk arrival stated p.1.0 q.1.0 text text' did did' p.1.1 q.1.1 p.1.2 q.1.2 in
          (one.0, λ same. (p.0 ∙ sym q.0, one.1 same, p.2 ∙ sym q.2))
      one_answered arrival (Tells stated) says says' text text' did did' next next' p q =
          let one = one_told_patron arrival stated p.1.0 q.1.0 text text' did did' p.1.1 q.1.1 p.1.2 q.1.2 in
          (one.0, λ same. (p.0 ∙ sym q.0, one.1 same, p.2 ∙ sym q.2))

    -- two answers to one body
    pub one_answer : (k : Contents) (e : Extensions) (seat : ℕ) (now : Stamp) (login : Option LoggedIn)
        (line : Option (List ℕ)) (body : List ℕ)
        (says says' : ReplyKind) (text text' : List ℕ) (did did' : List Deed) (next next' : Option LoggedIn)
        → IsAnswer k e seat now login line body says text did next
        → IsAnswer k e seat now login line body says' text' did' next'
        → AreOne did did' says says' text text' next next'
    one_answer k e seat now login line body says says' text text' did did' next next' p q =
        let arrival : Arrival = record { seat = seat; present = now; login = login; line = line } in
        let same : gist_of k p.reads.read ≡ gist_of k q.reads.read =
        one_reading k readable readable_patron e.profile body p.reads.read q.reads.read p.reads.reads
        q.reads.reads in
        let here = of_reading k e now login arrival says text did next p.reads.read p.message p.reads.is
        p.answers in
        let there = of_reading k e now login arrival says' text' did' next' q.reads.read q.message q.reads.is
        q.answers in
        one_answered k e now login arrival (gist_of k p.reads.read) says says' text text' did did' next next'
        here
        (subst (λ (g : Gist). IsAnswered k e now login arrival g says' text' did' next') (sym same) there)
