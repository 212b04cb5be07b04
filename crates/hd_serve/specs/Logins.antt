-- What the log reports of a login.
use Rattle.std.specs.Prelude.{◌≡◌, ◌⊎◌, ◌<◌, ℕ, List, [], Bool, true, false, Option, Some, None, codes, nat_eq}
use Rattle.std.specs.List.{starts_with}
use Rattle.hd_catalogue.specs.Contents.{Contents, facts_of, terminal_name}
use Rattle.hd_message.specs.declared.request.LoginRequest.{LoginRequest}
use Rattle.hd_message.specs.declared.request.Request.{Request}
use Rattle.hd_message.specs.declared.request.Request.TheVariants as request
use Rattle.hd_message.specs.declared.unreadable.Unreadable.{Unreadable}
use Rattle.hd_message.specs.declared.unreadable.Unreadable.TheVariants as unreadable
use Rattle.hd_message.specs.Reading.{IsRequest, IsUnreadable}
use Rattle.hd_exchange.specs.declared.login.Login.{Login}
use Rattle.hd_log.specs.declared.event.ConnectionEvent.{ConnectionEvent}
use Rattle.hd_log.specs.declared.event.ConnectionEvent.TheVariants.{LoggedIn, NotLoggedIn}
use Rattle.hd_log.specs.declared.event.Refused.{Refused}
use Rattle.hd_log.specs.declared.event.Refused.TheVariants as why

-- a terminal of the catalogue, which has this name
abbrev pub IsNamed : Contents → List ℕ → ℕ → Type 0
IsNamed k name terminal = (terminal < (facts_of k).terminals) × (terminal_name k terminal ≡ Some name)

-- a terminal of the catalogue has this name
abbrev pub HasTerminal : Contents → List ℕ → Type 0
HasTerminal k name = (terminal : ℕ) × IsNamed k name terminal

-- the name of the terminal of a login, if it is one of the catalogue; no name where there is no login
abbrev pub IsNameOf : Contents → Option Login → List ℕ → Type 0
IsNameOf k None name = name ≡ []
IsNameOf k (Some at) name = at.terminal < (facts_of k).terminals → terminal_name k at.terminal ≡ Some name

-- a body is a login's (93)
abbrev pub is_login : List ℕ → Bool
is_login body = starts_with nat_eq body (codes "93")

-- a login with this reply is taken (94, accepted)
abbrev pub is_taken : List ℕ → Bool
is_taken reply = starts_with nat_eq reply (codes "941")

-- why a login isn't taken: its values are encrypted, or no terminal has its name, or one has, with another
-- password
abbrev pub IsReason : Contents → LoginRequest → Refused → Type 0
IsReason k r why.Encrypted = r.clear ≡ false
IsReason k r why.UnknownTerminal = (r.clear ≡ true) × ¬ HasTerminal k r.name.now
IsReason k r why.WrongPassword = (r.clear ≡ true) × HasTerminal k r.name.now
IsReason k r why.Unreadable = ⊥

-- what is reported of a name that a login gave: the name, where it is a terminal's, and else nothing
abbrev pub IsKnownName : Contents → List ℕ → List ℕ → Type 0
IsKnownName k name told = (HasTerminal k name × (told ≡ name)) ⊎ ((¬ HasTerminal k name) × (told ≡ []))

-- the login of a body isn't taken for this reason, or can't be read
abbrev pub IsRefusalFor : Contents → List ℕ → List ℕ → Refused → Type 0
IsRefusalFor k body told why.Unreadable = (told ≡ []) × IsUnreadable body unreadable.Login
IsRefusalFor k body told reason =
    (r : LoginRequest) × IsRequest body (request.Login r) × IsKnownName k r.name.now told × IsReason k r reason

-- the event reports that the login of a body isn't taken
abbrev pub IsRefusal : Contents → List ℕ → ConnectionEvent → Type 0
IsRefusal k body (NotLoggedIn terminal reason) = IsRefusalFor k body terminal.now reason
IsRefusal k body what = ⊥

-- The event of a login's body with this reply, of a session that is logged in so then: taken, with the name of
-- that terminal, where the reply says so; and else refused.
abbrev pub IsLoginEvent : Contents → List ℕ → Option Login → List ℕ → ConnectionEvent → Type 0
IsLoginEvent k body login reply (LoggedIn terminal) =
    (is_login body ≡ true) × (is_taken reply ≡ true) × IsNameOf k login terminal.now
IsLoginEvent k body login reply (NotLoggedIn terminal reason) =
    (is_login body ≡ true) × (is_taken reply ≡ false) × IsRefusalFor k body terminal.now reason
IsLoginEvent k body login reply what = ⊥

-- a request that is no login, and a message that can't be read and is none
abbrev pub IsOtherRequest : Request → Type 0
IsOtherRequest (request.Login r) = ⊥
IsOtherRequest other = Unit {0}

abbrev pub IsOtherUnreadable : Unreadable → Type 0
IsOtherUnreadable unreadable.Login = ⊥
IsOtherUnreadable other = Unit {0}

-- the body is of another message than a login
abbrev pub IsNoLogin : List ℕ → Type 0
IsNoLogin body =
    ((r : Request) × IsRequest body r × IsOtherRequest r)
    ⊎ ((m : Unreadable) × IsUnreadable body m × IsOtherUnreadable m)

-- why no login is reported of a body with this reply
abbrev pub IsOther : List ℕ → List ℕ → Type 0
IsOther body reply = (is_login body ≡ false) ⊎ ((is_taken reply ≡ false) × IsNoLogin body)
