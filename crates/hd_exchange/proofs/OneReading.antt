-- A body is read in one way.
use Rattle.std.proofs.Common.{◌≡◌, ◌⊎◌, inl, inr, ℕ, Bool, true, false, List, Option, Some, None, Result, Ok}
use Rattle.std.proofs.Common.{Err}
use Rattle.std.proofs.Common.{MatchBool, codes, if◌then◌else◌, take, drop, arith, refl, sym, ap, ◌∙◌, subst}
use Rattle.std.specs.Prelude.{⊤}
use Rattle.std.proofs.lemmas.Option.{same_Some}
use Rattle.std.specs.Option.{option_copied}
use Rattle.std.specs.Str.{bytes_eq}
use Rattle.hd_message.specs.Hold.{AreWishes, AreWishesOf, has_wishes}
use Rattle.hd_message.specs.PatronReading.{HasNoPatronCode, IsPatronMessage, IsReading, IsUnreadablePatron}
use Rattle.hd_message.specs.PatronReading.{StatesPatron}
use Rattle.hd_message.specs.PatronTable.{patron_code, patron_fields, patron_fixed}
use Rattle.hd_message.specs.Reading.{IsMessage, IsRequest, IsUnreadable, IsUnreadableMessage, StatesRequest}
use Rattle.hd_message.specs.Table.{code_of, fields_part, fixed_part, fixed_width}
use Rattle.hd_message.specs.declared.kind.DeskKind.{DeskKind}
use Rattle.hd_message.specs.declared.kind.DeskKind.TheVariants as Desks
use Rattle.hd_message.specs.declared.patron_kind.PatronKind.{PatronKind}
use Rattle.hd_message.specs.declared.patron_kind.PatronKind.TheVariants as Patrons
use Rattle.hd_message.specs.declared.patron_reading.Reading.{Reading}
use Rattle.hd_message.specs.declared.patron_reading.Reading.TheVariants as Read
use Rattle.hd_message.specs.declared.patron_request.PatronRequest.{PatronRequest}
use Rattle.hd_message.specs.declared.patron_request.PatronRequest.TheVariants as Of
use Rattle.hd_message.specs.declared.patron_request.UnreadablePatron.{UnreadablePatron}
use Rattle.hd_message.specs.declared.profile.Profile.{Profile}
use Rattle.hd_message.specs.declared.request.Mode.{Mode}
use Rattle.hd_message.specs.declared.request.Request.{Request}
use Rattle.hd_message.specs.declared.request.Request.TheVariants.{Login, Status, Checkout, Checkin, Hold}
use Rattle.hd_message.specs.declared.request.Request.TheVariants.{Renew, Item, Resend, Unsupported}
use Rattle.hd_message.specs.declared.request.Wishes.{Wishes}
use Rattle.hd_message.specs.declared.unreadable.Unreadable.{Unreadable}
use Rattle.hd_message.specs.declared.unreadable.Unreadable.TheVariants as Unread
use Rattle.hd_message.specs.declared.unreadable.UnreadableMessage.{UnreadableMessage}
use Rattle.hd_catalogue.specs.Contents.{Contents}
use Rattle.hd_exchange.specs.HoldAsks.{expiry_text, pickup_name, wanted_copies}
use Rattle.hd_exchange.specs.Messages.{IsReadAs, Stated, checkin_states, checkout_states, hold_states}
use Rattle.hd_exchange.specs.Messages.{item_states}
use Rattle.hd_exchange.specs.Messages.{login_made, renew_states, unreadable_states}
use Rattle.hd_exchange.specs.PatronMessages.{PatronStated, patron_states, request_states, unread_states}
use Rattle.hd_exchange.specs.declared.login.Login.{Login as LoggedIn}

-- codes as numbers, and the width of a code's fixed part
number : List ℕ → ℕ
number code =
    if bytes_eq code (codes "93") then 0
    else if bytes_eq code (codes "99") then 1
    else if bytes_eq code (codes "11") then 2
    else if bytes_eq code (codes "09") then 3
    else if bytes_eq code (codes "15") then 4
    else if bytes_eq code (codes "29") then 5
    else if bytes_eq code (codes "17") then 6
    else 7

abbrev width : List ℕ → ℕ
width code =
    if bytes_eq code (codes "93") then 4
    else if bytes_eq code (codes "99") then 2
    else if bytes_eq code (codes "11") then 40
    else if bytes_eq code (codes "09") then 39
    else if bytes_eq code (codes "15") then 21
    else if bytes_eq code (codes "29") then 40
    else if bytes_eq code (codes "17") then 20
    else 2

width_is : (body : List ℕ) (r : Request) (p : IsMessage body r) → fixed_width p.kind ≡ width (code_of p.kind)
width_is body r p = grind arith

-- the number of a request's code
abbrev number_of : Request → ℕ
number_of (Login request) = 0
number_of Status = 1
number_of (Checkout request) = 2
number_of (Checkin request) = 3
number_of (Hold request) = 4
number_of (Renew request) = 5
number_of (Item request) = 6
number_of Resend = 7
number_of Unsupported = 8

numbered : (code fixed part : List ℕ) (request : Request) → StatesRequest code fixed part request
    → number code ≡ number_of request
unfolding number
numbered code fixed part (Login request) h = ap number h.0
numbered code fixed part Status h = ap number h
numbered code fixed part (Checkout request) h = ap number h.0
numbered code fixed part (Checkin request) h = ap number h.0
numbered code fixed part (Hold request) h = ap number h.0
numbered code fixed part (Renew request) h = ap number h.0
numbered code fixed part (Item request) h = ap number h.0
numbered code fixed part Resend h = ap number h
numbered code fixed part Unsupported h = absurd h

-- what a message comes to: whom a login takes, that it asks nothing, what is stated to the desk, or what a
-- patron message states
pub data Gist : Type 0 where
  Taken : (made : Option LoggedIn) → Gist
  Reported : Gist
  Repeats : Gist
  Unknown : Gist
  Asks : (stated : Stated) → Gist
  Tells : (stated : PatronStated) → Gist

-- the wishes of a hold message are looked at so
abbrev SameWishes : Option Wishes → Option Wishes → Type 0
SameWishes a b =
    (expiry_text a ≡ expiry_text b) × (pickup_name a ≡ pickup_name b) × (wanted_copies a ≡ wanted_copies b)

one_wishes : (some : Bool) (part : List ℕ) (a b : Option Wishes)
    → MatchBool some (AreWishesOf part a) (a ≡ None)
    → MatchBool some (AreWishesOf part b) (b ≡ None) → SameWishes a b
one_wishes true part (Some a) (Some b) p q = (p.2 ∙ sym q.2, p.1 ∙ sym q.1, same_Some _ _ (sym p.0 ∙ q.0))
one_wishes true part (Some a) None p q = absurd q
one_wishes true part None b p q = absurd p
one_wishes false part a b p q =
    let same : a ≡ b = p ∙ sym q in (
      ap (λ (o : Option Wishes). expiry_text o) same,
      ap (λ (o : Option Wishes). pickup_name o) same,
      ap (λ (o : Option Wishes). wanted_copies o) same,
    )

-- the code of a message that asks something of the desk
desk_code : DeskKind → List ℕ
desk_code Desks.Checkout = codes "11"
desk_code Desks.Checkin = codes "09"
desk_code Desks.Hold = codes "15"
desk_code Desks.Renew = codes "29"
desk_code Desks.Item = codes "17"

-- the kind of such a code
desk_kind : List ℕ → DeskKind
desk_kind code =
    if bytes_eq code (codes "11") then Desks.Checkout
    else if bytes_eq code (codes "09") then Desks.Checkin
    else if bytes_eq code (codes "15") then Desks.Hold
    else if bytes_eq code (codes "29") then Desks.Renew
    else Desks.Item

decoded : (kind : DeskKind) → desk_kind (desk_code kind) ≡ kind
unfolding desk_code desk_kind
decoded Desks.Checkout = refl
decoded Desks.Checkin = refl
decoded Desks.Hold = refl
decoded Desks.Renew = refl
decoded Desks.Item = refl

one_desk_kind : (a b : DeskKind) → desk_code a ≡ desk_code b → a ≡ b
one_desk_kind a b same = sym (decoded a) ∙ ap desk_kind same ∙ decoded b

-- it is that of no login
no_login : (body : List ℕ) (kind : DeskKind) → take 2 body ≡ codes "93" → take 2 body ≡ desk_code kind → ⊥
unfolding number desk_code
no_login body Desks.Checkout p q = absurd (omega (arith, ap number (sym p ∙ q)))
no_login body Desks.Checkin p q = absurd (omega (arith, ap number (sym p ∙ q)))
no_login body Desks.Hold p q = absurd (omega (arith, ap number (sym p ∙ q)))
no_login body Desks.Renew p q = absurd (omega (arith, ap number (sym p ∙ q)))
no_login body Desks.Item p q = absurd (omega (arith, ap number (sym p ∙ q)))

-- and that of an unreadable one
coded : (body : List ℕ) (kind : DeskKind) (m : UnreadableMessage)
    → IsUnreadableMessage body (record m { kind = kind })
    → take 2 body ≡ desk_code kind
unfolding desk_code
coded body Desks.Checkout m p = p.code
coded body Desks.Checkin m p = p.code
coded body Desks.Hold m p = p.code
coded body Desks.Renew m p = p.code
coded body Desks.Item m p = p.code

coded_so : (body : List ℕ) (m : UnreadableMessage) → IsUnreadableMessage body m → take 2 body
    ≡ desk_code m.kind
coded_so body m p = coded body m.kind m p

-- the kinds of patron messages as numbers, and those of their codes
kind_number : PatronKind → ℕ
kind_number Patrons.Status = 0
kind_number Patrons.Information = 1
kind_number Patrons.EndSession = 2
kind_number Patrons.Block = 3
kind_number Patrons.FeePaid = 4
kind_number Patrons.RenewAll = 5

kind_coded : List ℕ → PatronKind
kind_coded code =
    if bytes_eq code (codes "23") then Patrons.Status
    else if bytes_eq code (codes "63") then Patrons.Information
    else if bytes_eq code (codes "35") then Patrons.EndSession
    else if bytes_eq code (codes "01") then Patrons.Block
    else if bytes_eq code (codes "37") then Patrons.FeePaid
    else Patrons.RenewAll

kind_decoded : (kind : PatronKind) → kind_coded (patron_code kind) ≡ kind
unfolding kind_coded
kind_decoded Patrons.Status = refl
kind_decoded Patrons.Information = refl
kind_decoded Patrons.EndSession = refl
kind_decoded Patrons.Block = refl
kind_decoded Patrons.FeePaid = refl
kind_decoded Patrons.RenewAll = refl

one_patron_kind : (a b : PatronKind) → patron_code a ≡ patron_code b → a ≡ b
one_patron_kind a b same = sym (kind_decoded a) ∙ ap kind_coded same ∙ kind_decoded b

-- the number of a patron message's kind
abbrev patron_number_of : PatronRequest → ℕ
patron_number_of (Of.Status request) = 0
patron_number_of (Of.Information request) = 1
patron_number_of (Of.EndSession request) = 2
patron_number_of (Of.Block request) = 3
patron_number_of (Of.FeePaid request) = 4
patron_number_of (Of.RenewAll request) = 5

patron_numbered : (kind : PatronKind) (fixed part : List ℕ) (request : PatronRequest)
    → StatesPatron kind fixed part request
    → kind_number kind ≡ patron_number_of request
unfolding kind_number
patron_numbered kind fixed part (Of.Status request) h = ap kind_number h.0
patron_numbered kind fixed part (Of.Information request) h = ap kind_number h.0
patron_numbered kind fixed part (Of.EndSession request) h = ap kind_number h.0
patron_numbered kind fixed part (Of.Block request) h = ap kind_number h.0
patron_numbered kind fixed part (Of.FeePaid request) h = ap kind_number h.0
patron_numbered kind fixed part (Of.RenewAll request) h = ap kind_number h.0

module _ (k : Contents) where
  -- two patron messages that one text states
  one_patron_stated : (kind : PatronKind) (fixed part : List ℕ) (a b : PatronRequest) → patron_number_of a
      ≡ patron_number_of b
      → StatesPatron kind fixed part a → StatesPatron kind fixed part b → request_states k a
      ≡ request_states k b
  one_patron_stated kind fixed part (Of.Status a) (Of.Status b) same (at, p) (there, q) =
      let language : a.language.now ≡ b.language.now = p.language ∙ sym q.language in
      let date : a.date.now ≡ b.date.now = p.date ∙ sym q.date in
      let patron : a.patron.now ≡ b.patron.now = same_Some _ _ (sym p.patron ∙ q.patron) in
      let password : option_copied a.password ≡ option_copied b.password = p.password ∙ sym q.password in
      rw (language, date, patron, password) refl
  one_patron_stated kind fixed part (Of.Information a) (Of.Information b) same (at, p) (there, q) =
      let language : a.language.now ≡ b.language.now = p.language ∙ sym q.language in
      let date : a.date.now ≡ b.date.now = p.date ∙ sym q.date in
      let summary : a.summary ≡ b.summary = p.summary ∙ sym q.summary in
      let patron : a.patron.now ≡ b.patron.now = same_Some _ _ (sym p.patron ∙ q.patron) in
      let password : option_copied a.password ≡ option_copied b.password = p.password ∙ sym q.password in
      let first : option_copied a.first ≡ option_copied b.first = p.first ∙ sym q.first in
      let last : option_copied a.last ≡ option_copied b.last = p.last ∙ sym q.last in
      rw (language, date, summary, patron, password, first, last) refl
  one_patron_stated kind fixed part (Of.EndSession a) (Of.EndSession b) same (at, p) (there, q) =
      let date : a.date.now ≡ b.date.now = p.date ∙ sym q.date in
      let patron : a.patron.now ≡ b.patron.now = same_Some _ _ (sym p.patron ∙ q.patron) in
      rw (date, patron) refl
  one_patron_stated kind fixed part (Of.Block a) (Of.Block b) same (at, p) (there, q) =
      let date : a.date.now ≡ b.date.now = p.date ∙ sym q.date in
      let patron : a.patron.now ≡ b.patron.now = same_Some _ _ (sym p.patron ∙ q.patron) in
      rw (date, patron) refl
  one_patron_stated kind fixed part (Of.FeePaid a) (Of.FeePaid b) same (at, p) (there, q) =
      let date : a.date.now ≡ b.date.now = p.date ∙ sym q.date in
      let patron : a.patron.now ≡ b.patron.now = same_Some _ _ (sym p.patron ∙ q.patron) in
      rw (date, patron) refl
  one_patron_stated kind fixed part (Of.RenewAll a) (Of.RenewAll b) same (at, p) (there, q) =
      let date : a.date.now ≡ b.date.now = p.date ∙ sym q.date in
      let patron : a.patron.now ≡ b.patron.now = same_Some _ _ (sym p.patron ∙ q.patron) in
      rw (date, patron) refl
  one_patron_stated kind fixed part _ _ same p q = absurd (omega (arith, same))

  one_patron : (body : List ℕ) (a b : PatronRequest) → IsPatronMessage body a → IsPatronMessage body b
      → request_states k a ≡ request_states k b
  one_patron body a b p q =
      let kind : p.kind ≡ q.kind = one_patron_kind p.kind q.kind (sym p.code ∙ q.code) in
      let states : StatesPatron p.kind (patron_fixed p.kind body) (patron_fields p.kind body) b =
      subst (λ (d : PatronKind). StatesPatron d (patron_fixed d body) (patron_fields d body) b) (sym kind)
      q.states in
      let here = patron_numbered p.kind (patron_fixed p.kind body) (patron_fields p.kind body) a p.states in
      let there = patron_numbered p.kind (patron_fixed p.kind body) (patron_fields p.kind body) b states in
      one_patron_stated p.kind (patron_fixed p.kind body) (patron_fields p.kind body) a b (sym here ∙ there)
      p.states states

  -- two that can't be read
  one_unread_patron : (body : List ℕ) (a b : UnreadablePatron) → IsUnreadablePatron body a
      → IsUnreadablePatron body b
      → unread_states a ≡ unread_states b
  one_unread_patron body a b p q =
      let kind : a.kind ≡ b.kind = one_patron_kind a.kind b.kind (sym p.code ∙ q.code) in
      let there : IsUnreadablePatron body (record b { kind = a.kind }) =
      subst (λ (d : PatronKind). IsUnreadablePatron body (record b { kind = d })) (sym kind) q in
      let language : option_copied a.language ≡ option_copied b.language = p.language ∙ sym there.language in
      let date : option_copied a.date ≡ option_copied b.date = p.date ∙ sym there.date in
      let patron : option_copied a.patron ≡ option_copied b.patron = p.patron ∙ sym there.patron in
      rw (kind, language, date, patron) refl

  abbrev pub gist : Request → Gist
  gist (Login r) = Taken (login_made k r)
  gist Status = Reported
  gist (Checkout r) = Asks (checkout_states k r)
  gist (Checkin r) = Asks (checkin_states k r)
  gist (Hold r) = Asks (hold_states k r)
  gist (Renew r) = Asks (renew_states k r)
  gist (Item r) = Asks (item_states k r)
  gist Resend = Repeats
  gist Unsupported = Unknown

  abbrev pub unread : Unreadable → Gist
  unread Unread.Login = Taken None
  unread (Unread.Desk m) = Asks (unreadable_states m)

  abbrev pub gist_read : Result Request Unreadable → Gist
  gist_read (Ok request) = gist request
  gist_read (Err unreadable) = unread unreadable

  -- two requests that one text states
  one_stated : (code fixed part : List ℕ) (a b : Request) → number_of a ≡ number_of b
      → StatesRequest code fixed part a → StatesRequest code fixed part b
      → gist a ≡ gist b
  one_stated code fixed part (Login a) (Login b) same (at, p) (there, q) =
      let clear : a.clear ≡ b.clear = p.clear ∙ sym q.clear in
      let name : a.name.now ≡ b.name.now = same_Some _ _ (sym p.name ∙ q.name) in
      let password : a.password.now ≡ b.password.now = same_Some _ _ (sym p.password ∙ q.password) in
      rw (clear, name, password) refl
  one_stated code fixed part Status Status same p q = refl
  one_stated code fixed part (Checkout a) (Checkout b) same (at, p) (there, q) =
      let renews : a.renews ≡ b.renews = p.renews ∙ sym q.renews in
      let date : a.date.now ≡ b.date.now = p.date ∙ sym q.date in
      let cancels : a.cancels ≡ b.cancels = p.cancels ∙ sym q.cancels in
      let due : option_copied a.due ≡ option_copied b.due = p.due ∙ (rw cancels (sym q.due)) in
      let patron : a.patron.now ≡ b.patron.now = same_Some _ _ (sym p.patron ∙ q.patron) in
      let copy : a.copy.now ≡ b.copy.now = same_Some _ _ (sym p.copy ∙ q.copy) in
      rw (renews, date, cancels, due, patron, copy) refl
  one_stated code fixed part (Checkin a) (Checkin b) same (at, p) (there, q) =
      let date : a.date.now ≡ b.date.now = p.date ∙ sym q.date in
      let cancels : a.cancels ≡ b.cancels = p.cancels ∙ sym q.cancels in
      let branch : option_copied a.branch ≡ option_copied b.branch = p.branch ∙ sym q.branch in
      let copy : a.copy.now ≡ b.copy.now = same_Some _ _ (sym p.copy ∙ q.copy) in
      rw (date, cancels, branch, copy) refl
  one_stated code fixed part (Hold a) (Hold b) same (at, p) (there, q) =
      let mode : a.mode ≡ b.mode = same_Some _ _ (sym p.mode ∙ q.mode) in
      let date : a.date.now ≡ b.date.now = p.date ∙ sym q.date in
      let cancels : a.cancels ≡ b.cancels = p.cancels ∙ sym q.cancels in
      let patron : a.patron.now ≡ b.patron.now = same_Some _ _ (sym p.patron ∙ q.patron) in
      let copy : option_copied a.copy ≡ option_copied b.copy = p.copy ∙ sym q.copy in
      let title : option_copied a.title ≡ option_copied b.title = p.title ∙ sym q.title in
      let theirs : AreWishes part a.mode a.cancels b.wishes =
      subst (λ (m : Mode). AreWishes part m a.cancels b.wishes) (sym mode)
      (subst (λ (c : Bool). AreWishes part b.mode c b.wishes) (sym cancels) q.wishes) in
      let wishes : SameWishes a.wishes b.wishes =
      one_wishes (has_wishes a.mode a.cancels) part a.wishes b.wishes p.wishes theirs in
      rw (mode, date, cancels, patron, copy, title, wishes.0, wishes.1, wishes.2) refl
  one_stated code fixed part (Renew a) (Renew b) same (at, p) (there, q) =
      let date : a.date.now ≡ b.date.now = p.date ∙ sym q.date in
      let cancels : a.cancels ≡ b.cancels = p.cancels ∙ sym q.cancels in
      let patron : a.patron.now ≡ b.patron.now = same_Some _ _ (sym p.patron ∙ q.patron) in
      let copy : a.copy.now ≡ b.copy.now = same_Some _ _ (sym p.copy ∙ q.copy) in
      let title : option_copied a.title ≡ option_copied b.title = p.title ∙ sym q.title in
      rw (date, cancels, patron, copy, title) refl
  one_stated code fixed part (Item a) (Item b) same (at, p) (there, q) =
      let date : a.date.now ≡ b.date.now = p.date ∙ sym q.date in
      let copy : a.copy.now ≡ b.copy.now = same_Some _ _ (sym p.copy ∙ q.copy) in
      rw (date, copy) refl
  one_stated code fixed part Resend Resend same p q = refl
  one_stated code fixed part Unsupported b same p q = absurd p
  one_stated code fixed part a Unsupported same p q = absurd q
  one_stated code fixed part _ _ same p q = absurd (omega (arith, same))

  one_message : (body : List ℕ) (a b : Request) → IsMessage body a → IsMessage body b → gist a ≡ gist b
  one_message body a b p q =
      let code : code_of p.kind ≡ code_of q.kind = sym p.code ∙ q.code in
      let wide : fixed_width p.kind ≡ fixed_width q.kind =
      width_is body a p ∙ (ap (λ (c : List ℕ). width c) code ∙ sym (width_is body b q)) in
      let fixed : fixed_part p.kind body ≡ fixed_part q.kind body = ap (λ (n : ℕ). take n body) wide in
      let part : fields_part p.kind body ≡ fields_part q.kind body = ap (λ (n : ℕ). drop n body) wide in
      let states : StatesRequest (code_of p.kind) (fixed_part p.kind body) (fields_part p.kind body) b =
      subst (λ (c : List ℕ). StatesRequest c (fixed_part p.kind body) (fields_part p.kind body) b) (sym code)
      (subst (λ (f : List ℕ). StatesRequest (code_of q.kind) f (fields_part p.kind body) b) (sym fixed)
      (subst (λ (t : List ℕ). StatesRequest (code_of q.kind) (fixed_part q.kind body) t b) (sym part)
      q.states)) in
      let here = numbered (code_of p.kind) (fixed_part p.kind body) (fields_part p.kind body) a p.states in
      let there = numbered (code_of p.kind) (fixed_part p.kind body) (fields_part p.kind body) b states in
      one_stated (code_of p.kind) (fixed_part p.kind body) (fields_part p.kind body) a b (sym here ∙ there)
      p.states states

  -- a request is a message, or not supported
  abbrev OfKind : List ℕ → Request → Type 0
  OfKind body r = IsMessage body r ⊎ ((r ≡ Unsupported) × IsRequest body Unsupported)

  of_kind : (body : List ℕ) (r : Request) → IsRequest body r → OfKind body r
  of_kind body (Login r) is = inl is
  of_kind body Status is = inl is
  of_kind body (Checkout r) is = inl is
  of_kind body (Checkin r) is = inl is
  of_kind body (Hold r) is = inl is
  of_kind body (Renew r) is = inl is
  of_kind body (Item r) is = inl is
  of_kind body Resend is = inl is
  of_kind body Unsupported is = inr (refl, is)

  one_of_kind : (body : List ℕ) (a b : Request) → OfKind body a → OfKind body b → gist a ≡ gist b
  one_of_kind body a b (inl p) (inl q) = one_message body a b p q
  one_of_kind body a b (inl p) (inr q) = absurd (q.1 p.kind p.code)
  one_of_kind body a b (inr p) (inl q) = absurd (p.1 q.kind q.code)
  one_of_kind body a b (inr p) (inr q) = ap (λ (r : Request). gist r) (p.0 ∙ sym q.0)

  -- two that can't be read
  one_unread : (body : List ℕ) (a b : Unreadable) → IsUnreadable body a → IsUnreadable body b → unread a
      ≡ unread b
  one_unread body Unread.Login Unread.Login p q = refl
  one_unread body Unread.Login (Unread.Desk b) p q = absurd (no_login body b.kind p.0 (coded_so body b q))
  one_unread body (Unread.Desk a) Unread.Login p q = absurd (no_login body a.kind q.0 (coded_so body a p))
  one_unread body (Unread.Desk a) (Unread.Desk b) p q =
      let kind : a.kind ≡ b.kind =
      one_desk_kind a.kind b.kind (sym (coded_so body a p) ∙ coded_so body b q) in
      let there : IsUnreadableMessage body (record b { kind = a.kind }) =
      subst (λ (d : DeskKind). IsUnreadableMessage body (record b { kind = d })) (sym kind) q in
      let date : option_copied a.date ≡ option_copied b.date = p.date ∙ sym there.date in
      let patron : option_copied a.patron ≡ option_copied b.patron = p.patron ∙ sym there.patron in
      let copy : option_copied a.copy ≡ option_copied b.copy = p.copy ∙ sym there.copy in
      let title : option_copied a.title ≡ option_copied b.title = p.title ∙ sym there.title in
      rw (kind, date, patron, copy, title) refl

  -- what a reading comes to
  abbrev pub gist_of : Reading → Gist
  gist_of (Read.Standard read) = gist_read read
  gist_of (Read.Patron read) = Tells (patron_states k read)

  -- a standard reading reads a body
  pub read_as : (profile : Profile) (body : List ℕ) (read : Result Request Unreadable)
      → IsReading profile body (Read.Standard read)
      → IsReadAs body read
  read_as profile body (Ok request) is = is.1
  read_as profile body (Err unreadable) is = is.2

  -- a body that is read as a patron message has a code of one
  record HasCode (body : List ℕ) : Type 0 where
    kind : PatronKind
    code : take 2 body ≡ patron_code kind

  coded_patron : (profile : Profile) (body : List ℕ) (read : Result PatronRequest UnreadablePatron)
      → IsReading profile body (Read.Patron read) → HasCode body
  coded_patron profile body (Ok request) is = record { kind = is.1.kind; code = is.1.code }
  coded_patron profile body (Err message) is = record { kind = message.kind; code = is.2.code }

  apart : (profile : Profile) (body : List ℕ) (a : Result Request Unreadable)
      (b : Result PatronRequest UnreadablePatron)
      → IsReading profile body (Read.Standard a) → IsReading profile body (Read.Patron b) → ⊥
  apart profile body a b p q =
      let has = coded_patron profile body b q in
      let none : HasNoPatronCode body =
      subst (λ (on : Bool). MatchBool on (HasNoPatronCode body) ⊤) q.0 p.0 in
      none has.kind has.code

  module _ (readable : (body : List ℕ) (request : Request) (message : Unreadable) → IsRequest body request
      → IsUnreadable body message → ⊥)
      (readable_patron : (body : List ℕ) (request : PatronRequest) (message : UnreadablePatron)
      → IsPatronMessage body request
      → IsUnreadablePatron body message → ⊥)
    where
      -- two readings of one body come to the same
      one_standard : (body : List ℕ) (a b : Result Request Unreadable) → IsReadAs body a → IsReadAs body b
          → gist_read a ≡ gist_read b
      one_standard body (Ok a) (Ok b) p q = one_of_kind body a b (of_kind body a p) (of_kind body b q)
      one_standard body (Ok a) (Err b) p q = absurd (readable body a b p q)
      one_standard body (Err a) (Ok b) p q = absurd (readable body b a q p)
      one_standard body (Err a) (Err b) p q = one_unread body a b p q

      one_told : (profile : Profile) (body : List ℕ) (a b : Result PatronRequest UnreadablePatron)
          → IsReading profile body (Read.Patron a) → IsReading profile body (Read.Patron b)
          → patron_states k a ≡ patron_states k b
      one_told profile body (Ok a) (Ok b) p q = one_patron body a b p.1 q.1
      one_told profile body (Ok a) (Err b) p q = absurd (readable_patron body a b p.1 q.2)
      one_told profile body (Err a) (Ok b) p q = absurd (readable_patron body b a q.1 p.2)
      one_told profile body (Err a) (Err b) p q = one_unread_patron body a b p.2 q.2

      pub one_reading : (profile : Profile) (body : List ℕ) (a b : Reading) → IsReading profile body a
          → IsReading profile body b
          → gist_of a ≡ gist_of b
      one_reading profile body (Read.Standard a) (Read.Standard b) p q =
          one_standard body a b (read_as profile body a p) (read_as profile body b q)
      one_reading profile body (Read.Standard a) (Read.Patron b) p q = absurd (apart profile body a b p q)
      one_reading profile body (Read.Patron a) (Read.Standard b) p q = absurd (apart profile body b a q p)
      one_reading profile body (Read.Patron a) (Read.Patron b) p q = ap Tells (one_told profile body a b p q)
