-- What a body is read as: a message asks nothing of the desk (a login, a status message, a resend, or one
-- that isn't supported), or is one ask of it, or is a patron message.
use Rattle.std.specs.Prelude.{◌≡◌, ℕ, ◌+◌, ◌≤◌, ⊤, List, Option, None, Some, Result, Ok, Err, IfOk}
use Rattle.std.specs.Prelude.{if◌then◌else◌}
use Rattle.std.specs.Option.{ForSome, option_copied, option_map}
use Rattle.hd_message.specs.Lengths.{bytes_of}
use Rattle.hd_message.specs.PatronReading.{IsReading}
use Rattle.hd_message.specs.Reading.{IsRequest, IsUnreadable}
use Rattle.hd_message.specs.declared.kind.DeskKind.{DeskKind}
use Rattle.hd_message.specs.declared.kind.DeskKind.TheVariants as kind
use Rattle.hd_message.specs.declared.patron_reading.Reading.{Reading}
use Rattle.hd_message.specs.declared.patron_reading.Reading.TheVariants.{Standard, Patron}
use Rattle.hd_message.specs.declared.request.LoginRequest.{LoginRequest}
use Rattle.hd_message.specs.declared.request.CheckoutRequest.{CheckoutRequest}
use Rattle.hd_message.specs.declared.request.CheckinRequest.{CheckinRequest}
use Rattle.hd_message.specs.declared.request.HoldRequest.{HoldRequest}
use Rattle.hd_message.specs.declared.request.RenewRequest.{RenewRequest}
use Rattle.hd_message.specs.declared.request.ItemRequest.{ItemRequest}
use Rattle.hd_message.specs.declared.request.Request.{Request}
use Rattle.hd_message.specs.declared.request.Request.TheVariants.{Login, Status, Checkout, Checkin, Hold}
use Rattle.hd_message.specs.declared.request.Request.TheVariants.{Renew, Item, Resend, Unsupported}
use Rattle.hd_message.specs.declared.unreadable.Unreadable.{Unreadable}
use Rattle.hd_message.specs.declared.unreadable.Unreadable.TheVariants as unreadable
use Rattle.hd_message.specs.declared.unreadable.UnreadableMessage.{UnreadableMessage}
use Rattle.hd_rules.specs.Facts.{Facts}
use Rattle.hd_rules.specs.declared.replies.Refusal.{Refusal}
use Rattle.hd_rules.specs.declared.replies.Refusal.TheVariants as refusal
use Rattle.hd_rules.specs.declared.turns.Asked.{Asked}
use Rattle.hd_catalogue.specs.Contents.{Contents, facts_of, terminal_number}
use Rattle.hd_rules.specs.Messages.{IsKnownMessage as IsKnownAsk, message_of}
use Rattle.hd_rules.specs.declared.ask.Ask.{Ask}
use Rattle.hd_exchange.specs.Arrivals.{Arrival, IsKnownLogin, ask_of, login_of}
use Rattle.hd_exchange.specs.Asks.{checkin_asks, checkout_asks, item_asks, kind_of, need, renew_asks}
use Rattle.hd_exchange.specs.Dates.{AreDatesOf}
use Rattle.hd_exchange.specs.Extensions.{Extensions}
use Rattle.hd_exchange.specs.HoldAsks.{expiry_text, hold_asks}
use Rattle.hd_exchange.specs.PatronMessages.{IsPatronAskable, IsPatronMessageOf, patron_states}
use Rattle.hd_exchange.specs.declared.dates.Dates.{Dates}
use Rattle.hd_exchange.specs.declared.login.Login.{Login as LoggedIn}
use Rattle.hd_exchange.specs.declared.message.DeskMessage.{DeskMessage}
use Rattle.hd_exchange.specs.declared.message.Message.{Message}
use Rattle.hd_exchange.specs.declared.message.Message.TheVariants as OfMessage
use Rattle.hd_exchange.specs.declared.message.SessionMessage.{SessionMessage}
use Rattle.hd_exchange.specs.declared.message.SessionMessage.TheVariants as own
use Rattle.hd_exchange.specs.declared.repeated.RepeatedValues.{RepeatedValues}
use Rattle.hd_exchange.specs.declared.values.Values.{Values}

-- What a message states that asks something of the desk: its kind, its transaction date, the other date that
-- it may state, the values that its reply repeats, and what it asks at a terminal of a branch, by its dates.
pub record Stated : Type 0 where
  pub kind : DeskKind
  pub date : Option (List ℕ)
  pub other : Option (List ℕ)
  pub patron : Option (List ℕ)
  pub copy : Option (List ℕ)
  pub title : Option (List ℕ)
  pub asks : ℕ → Dates → Result Asked Refusal

module _ (k : Contents) where
  abbrev pub checkout_states : CheckoutRequest → Stated
  checkout_states r = record {
    kind = kind.Checkout;
    date = Some r.date.now;
    other = option_copied r.due;
    patron = Some r.patron.now;
    copy = Some r.copy.now;
    title = None;
    asks = λ own dates. checkout_asks k r dates;
  }

  abbrev pub checkin_states : CheckinRequest → Stated
  checkin_states r = record {
    kind = kind.Checkin;
    date = Some r.date.now;
    other = None;
    patron = None;
    copy = Some r.copy.now;
    title = None;
    asks = λ own dates. checkin_asks k own r dates;
  }

  abbrev pub hold_states : HoldRequest → Stated
  hold_states r = record {
    kind = kind.Hold;
    date = Some r.date.now;
    other = expiry_text r.wishes;
    patron = Some r.patron.now;
    copy = option_copied r.copy;
    title = option_copied r.title;
    asks = λ own dates. hold_asks k own r dates;
  }

  abbrev pub renew_states : RenewRequest → Stated
  renew_states r = record {
    kind = kind.Renew;
    date = Some r.date.now;
    other = None;
    patron = Some r.patron.now;
    copy = Some r.copy.now;
    title = None;
    asks = λ own dates. renew_asks k r dates;
  }

  abbrev pub item_states : ItemRequest → Stated
  item_states r = record {
    kind = kind.Item;
    date = Some r.date.now;
    other = None;
    patron = None;
    copy = Some r.copy.now;
    title = None;
    asks = λ own dates. item_asks k r dates;
  }

-- a message that can't be read asks for nothing: its reply repeats what could be read of it
abbrev pub unreadable_states : UnreadableMessage → Stated
unreadable_states m = record {
  kind = m.kind;
  date = option_copied m.date;
  other = None;
  patron = option_copied m.patron;
  copy = option_copied m.copy;
  title = option_copied m.title;
  asks = λ own dates. Err refusal.Unreadable;
}

-- The values that are read and repeated are those of a message that states this.
pub record AreValuesOf (stated : Stated) (values : Values) : Type 0 where
  pub kind : values.kind ≡ stated.kind
  pub date : option_copied values.date ≡ stated.date
  pub other : option_copied values.other ≡ stated.other
  pub patron : option_copied values.patron ≡ stated.patron
  pub copy : option_copied values.copy ≡ stated.copy
  pub title : option_copied values.title ≡ stated.title

-- how many bytes of a message its reply repeats, without the date
abbrev pub bytes_stated : Stated → ℕ
bytes_stated s = bytes_of s.patron + bytes_of s.copy + bytes_of s.title

-- what a session asks by a message: one that isn't logged in is refused before everything
abbrev pub asked_by : Option LoggedIn → Stated → Dates → Result Asked Refusal
asked_by login stated dates = need login refusal.NotLoggedIn (λ at. stated.asks at.branch dates)

-- what it asks by a message that comes so, or the first refusal
abbrev pub IsAskedAs : Arrival → Result Asked Refusal → Result Ask Refusal → Type 0
IsAskedAs arrival (Err refusal) (Err first) = first ≡ refusal
IsAskedAs arrival (Ok asked) (Ok ask) =
    (at : LoggedIn) × (arrival.login ≡ Some at) × (message_of ask ≡ ask_of arrival at asked)
IsAskedAs _ _ _ = ⊥

-- The message is one that states this: what its reply repeats of it, and what it asks, or its first refusal.
pub record IsMessageOf (k : Contents) (arrival : Arrival) (stated : Stated) (message : DeskMessage)
    : Type 0 where
  pub kind : message.kind ≡ stated.kind
  pub dates : Dates
  pub reads : AreDatesOf k.settings.offset arrival.present stated.date stated.other dates
  pub date : message.repeated.date ≡ dates.printed
  pub patron : option_copied message.repeated.patron ≡ stated.patron
  pub copy : option_copied message.repeated.copy ≡ stated.copy
  pub title : option_copied message.repeated.title ≡ stated.title
  pub asked : IsAskedAs arrival (asked_by arrival.login stated dates) message.asks

-- the same of what is repeated
abbrev pub bytes_repeated : RepeatedValues → ℕ
bytes_repeated r =
    bytes_of (option_copied r.patron) + bytes_of (option_copied r.copy) + bytes_of (option_copied r.title)

-- An ask of a message of this kind: it is one of this seat, and all that it names is the catalogue's.
pub record IsAskAt (k : Facts) (seat : ℕ) (kind : DeskKind) (ask : Ask) : Type 0 where
  pub of_kind : kind_of ask.asked ≡ kind
  pub known : IsKnownAsk k (message_of ask).message
  pub at_seat : ask.seat ≡ seat

-- the terminal that a login names: one with encrypted values names none
abbrev pub login_terminal : Contents → LoginRequest → Option ℕ
login_terminal k r = if r.clear then terminal_number k r.name.now r.password.now else None

-- the login that it makes, at that terminal
abbrev pub login_made : Contents → LoginRequest → Option LoggedIn
login_made k r = option_map (login_of k) (login_terminal k r)

-- the message that a request is
abbrev pub IsRequestAs : Contents → Arrival → Request → Message → Type 0
IsRequestAs k arrival (Login r) (OfMessage.Session (own.Login made)) = made ≡ login_made k r
IsRequestAs k arrival Status (OfMessage.Session own.Status) = ⊤
IsRequestAs k arrival Resend (OfMessage.Session own.Resend) = ⊤
IsRequestAs k arrival Unsupported (OfMessage.Session own.Unsupported) = ⊤
IsRequestAs k arrival (Checkout r) (OfMessage.Desk message) =
    IsMessageOf k arrival (checkout_states k r) message
IsRequestAs k arrival (Checkin r) (OfMessage.Desk message) =
    IsMessageOf k arrival (checkin_states k r) message
IsRequestAs k arrival (Hold r) (OfMessage.Desk message) =
    IsMessageOf k arrival (hold_states k r) message
IsRequestAs k arrival (Renew r) (OfMessage.Desk message) =
    IsMessageOf k arrival (renew_states k r) message
IsRequestAs k arrival (Item r) (OfMessage.Desk message) =
    IsMessageOf k arrival (item_states k r) message
IsRequestAs _ _ _ _ = ⊥

-- the message that can't be read: a login isn't taken
abbrev pub IsUnreadableAs : Contents → Arrival → Unreadable → Message → Type 0
IsUnreadableAs k arrival unreadable.Login (OfMessage.Session (own.Login made)) = made ≡ None
IsUnreadableAs k arrival (unreadable.Desk m) (OfMessage.Desk message) =
    IsMessageOf k arrival (unreadable_states m) message
IsUnreadableAs _ _ _ _ = ⊥

-- a body is read as a request, or as a message that can't be read
abbrev pub IsReadAs : List ℕ → Result Request Unreadable → Type 0
IsReadAs body (Ok request) = IsRequest body request
IsReadAs body (Err unreadable) = IsUnreadable body unreadable

-- and that is this message
abbrev pub IsMessageRead : Contents → Arrival → Result Request Unreadable → Message → Type 0
IsMessageRead k arrival (Ok request) message = IsRequestAs k arrival request message
IsMessageRead k arrival (Err unreadable) message = IsUnreadableAs k arrival unreadable message

-- the message that a body is read as, which may be a patron message
abbrev pub IsMessageOfReading : Contents → Arrival → Reading → Message → Type 0
IsMessageOfReading k arrival (Standard read) message = IsMessageRead k arrival read message
IsMessageOfReading k arrival (Patron read) (OfMessage.Patron message) =
    IsPatronMessageOf k arrival (patron_states k read) message
IsMessageOfReading _ _ _ _ = ⊥

-- With these extensions the body is that of this message.
pub record IsBodyOf (k : Contents) (e : Extensions) (arrival : Arrival) (body : List ℕ) (message : Message)
    : Type 0 where
  pub read : Reading
  pub reads : IsReading e.profile body read
  pub is : IsMessageOfReading k arrival read message

-- What is asked by the message is one of its kind, of this seat, and names things of the catalogue; and its
-- reply repeats no more of it than a body has.
pub record IsAskable (k : Facts) (seat : ℕ) (message : DeskMessage) : Type 0 where
  pub ask : IfOk message.asks (IsAskAt k seat message.kind)
  pub short : bytes_repeated message.repeated ≤ 1024

-- a login that is made is at a terminal of the catalogue
abbrev pub IsKnownOwn : Facts → SessionMessage → Type 0
IsKnownOwn k (own.Login made) = ForSome made (IsKnownLogin k)
IsKnownOwn k _ = ⊤

-- what a message names is the catalogue's
abbrev pub NamesKnownThings : Contents → ℕ → Message → Type 0
NamesKnownThings k seat (OfMessage.Session message) = IsKnownOwn (facts_of k) message
NamesKnownThings k seat (OfMessage.Desk message) = IsAskable (facts_of k) seat message
NamesKnownThings k seat (OfMessage.Patron message) = IsPatronAskable k message
