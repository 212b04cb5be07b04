-- What a patron message states, and the message that it is.
use Rattle.std.specs.Prelude.{◌≡◌, ℕ, ◌<◌, ◌≤◌, ⊤, List, [], Option, None, Some, Result, Ok, Err, IfOk, codes}
use Rattle.std.specs.Prelude.{IsSome, length}
use Rattle.std.specs.Option.{ForSome, option_copied, unwrap_or}
use Rattle.hd_message.specs.Lengths.{bytes_of}
use Rattle.hd_message.specs.declared.patron_kind.PatronKind.{PatronKind}
use Rattle.hd_message.specs.declared.patron_kind.PatronKind.TheVariants as Kinds
use Rattle.hd_message.specs.declared.patron_request.CardRequest.{CardRequest}
use Rattle.hd_message.specs.declared.patron_request.PatronRequest.{PatronRequest}
use Rattle.hd_message.specs.declared.patron_request.PatronRequest.TheVariants.{Status, Information}
use Rattle.hd_message.specs.declared.patron_request.PatronRequest.TheVariants.{EndSession, Block, FeePaid}
use Rattle.hd_message.specs.declared.patron_request.PatronRequest.TheVariants.{RenewAll}
use Rattle.hd_message.specs.declared.patron_request.UnreadablePatron.{UnreadablePatron}
use Rattle.hd_rules.specs.declared.replies.Refusal.{Refusal}
use Rattle.hd_rules.specs.declared.replies.Refusal.TheVariants as refusal
use Rattle.hd_catalogue.specs.Contents.{Contents, facts_of, patron_name}
use Rattle.hd_exchange.specs.Arrivals.{Arrival}
use Rattle.hd_exchange.specs.Asks.{need}
use Rattle.hd_exchange.specs.Dates.{AreDatesOf}
use Rattle.hd_exchange.specs.PatronAsks.{end_asks, list_wanted, look_asks, payment_asks}
use Rattle.hd_exchange.specs.declared.dates.Dates.{Dates}
use Rattle.hd_exchange.specs.declared.login.Login.{Login}
use Rattle.hd_exchange.specs.declared.patron_message.PatronAsk.{PatronAsk}
use Rattle.hd_exchange.specs.declared.patron_message.PatronAsk.TheVariants as ask
use Rattle.hd_exchange.specs.declared.patron_message.PatronMessage.{PatronMessage}
use Rattle.hd_exchange.specs.declared.patron_message.PatronQuestion.TheVariants as about
use Rattle.hd_exchange.specs.declared.patron_texts.PatronTexts.{PatronTexts}

-- What a patron message states: its kind, its language, its transaction date, the patron that it names and
-- the password that it gives, as far as it has them; and what it asks, by its dates.
pub record PatronStated : Type 0 where
  pub kind : PatronKind
  pub language : Option (List ℕ)
  pub date : Option (List ℕ)
  pub patron : Option (List ℕ)
  pub password : Option (List ℕ)
  pub asks : Dates → Result PatronAsk Refusal

-- of a message that names a card, nothing but its date and the patron is looked at
abbrev pub card_states : PatronKind → CardRequest → (Dates → Result PatronAsk Refusal) → PatronStated
card_states kind r asks = record {
  kind = kind;
  language = None;
  date = Some r.date.now;
  patron = Some r.patron.now;
  password = None;
  asks = asks;
}

-- what a message that can be read states
abbrev pub request_states : Contents → PatronRequest → PatronStated
request_states k (Status r) = record {
  kind = Kinds.Status;
  language = Some r.language.now;
  date = Some r.date.now;
  patron = Some r.patron.now;
  password = option_copied r.password;
  asks = look_asks k r.patron.now about.Status;
}
request_states k (Information r) = record {
  kind = Kinds.Information;
  language = Some r.language.now;
  date = Some r.date.now;
  patron = Some r.patron.now;
  password = option_copied r.password;
  asks = look_asks k r.patron.now (about.Information (list_wanted r));
}
request_states k (EndSession r) = card_states Kinds.EndSession r end_asks
request_states k (Block r) = card_states Kinds.Block r (look_asks k r.patron.now about.Block)
request_states k (FeePaid r) = card_states Kinds.FeePaid r (payment_asks k r.patron.now)
request_states k (RenewAll r) = card_states Kinds.RenewAll r (look_asks k r.patron.now about.RenewAll)

-- one that can't be read asks for nothing: its reply repeats what could be read of it
abbrev pub unread_states : UnreadablePatron → PatronStated
unread_states m = record {
  kind = m.kind;
  language = option_copied m.language;
  date = option_copied m.date;
  patron = option_copied m.patron;
  password = None;
  asks = λ dates. Err refusal.Unreadable;
}

-- what a patron message states, as it is read
abbrev pub patron_states : Contents → Result PatronRequest UnreadablePatron → PatronStated
patron_states k (Ok request) = request_states k request
patron_states k (Err message) = unread_states message

-- The texts that are read of a message that states this.
pub record AreTextsOf (stated : PatronStated) (texts : PatronTexts) : Type 0 where
  pub kind : texts.kind ≡ stated.kind
  pub language : option_copied texts.language ≡ stated.language
  pub date : option_copied texts.date ≡ stated.date
  pub patron : option_copied texts.patron ≡ stated.patron
  pub password : option_copied texts.password ≡ stated.password

-- what a session asks by it: one that isn't logged in is refused before everything
abbrev pub patron_asked : Option Login → PatronStated → Dates → Result PatronAsk Refusal
patron_asked login stated dates = need login refusal.NotLoggedIn (λ at. stated.asks dates)

-- The message is one that states this: what its reply prints of it, and what it asks, or its first refusal.
pub record IsPatronMessageOf (k : Contents) (arrival : Arrival) (stated : PatronStated)
    (message : PatronMessage) : Type 0 where
  pub kind : message.kind ≡ stated.kind
  pub dates : Dates
  pub reads : AreDatesOf k.settings.offset arrival.present stated.date None dates
  pub date : message.values.date ≡ dates.printed
  pub language : message.values.language.now ≡ unwrap_or stated.language (codes "000")
  pub patron : message.values.patron.now ≡ unwrap_or stated.patron []
  pub password : option_copied message.values.password ≡ stated.password
  pub asks : message.asks ≡ patron_asked arrival.login stated dates

-- a look is about the patron of the catalogue whom the message names, which names one
abbrev pub IsAboutNamed : Contents → Option (List ℕ) → PatronAsk → Type 0
IsAboutNamed k name (ask.Look look) =
    (look.patron < (facts_of k).patrons) × (patron_name k look.patron ≡ name) × IsSome name
IsAboutNamed k name ask.EndSession = ⊤
IsAboutNamed k name ask.TakePayment = ⊤

-- The language has three bytes, where there is one, and the patron no more than a body has.
pub record AreShortTexts (stated : PatronStated) : Type 0 where
  pub language : ForSome stated.language (λ language. length language ≡ 3)
  pub patron : bytes_of stated.patron ≤ 1024

-- What is asked by the message is about its patron, and its reply prints no more of it than it may.
pub record IsPatronAskable (k : Contents) (message : PatronMessage) : Type 0 where
  pub ask : IfOk message.asks (IsAboutNamed k (Some message.values.patron.now))
  pub language : length message.values.language.now ≡ 3
  pub patron : length message.values.patron.now ≤ 1024
