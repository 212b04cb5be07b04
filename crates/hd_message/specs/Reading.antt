-- What a body is read as.
use Rattle.std.specs.Prelude.{◌≡◌, ◌≢◌, ℕ, Bool, true, false, ◌||◌, List, codes, length, take, nat_lt}
use Rattle.std.specs.Option.{option_copied}
use Rattle.hd_message.specs.Hold.{IsHold, is_bad_hold}
use Rattle.hd_message.specs.Requests.{IsCheckin, IsCheckout, IsItem, IsLogin, IsRenew}
use Rattle.hd_message.specs.Table.{code_of, date_at, date_start, fields_part, fixed_part, fixed_width}
use Rattle.hd_message.specs.Table.{lacks_required}
use Rattle.hd_message.specs.Values.{filled_value, first_value}
use Rattle.hd_message.specs.declared.kind.Kind.{Kind}
use Rattle.hd_message.specs.declared.kind.Kind.TheVariants as Kinds
use Rattle.hd_message.specs.declared.kind.DeskKind.TheVariants as Desks
use Rattle.hd_message.specs.declared.request.Request.{Request}
use Rattle.hd_message.specs.declared.request.Request.TheVariants.{Login, Status, Checkout, Checkin, Hold}
use Rattle.hd_message.specs.declared.request.Request.TheVariants.{Renew, Item, Resend, Unsupported}
use Rattle.hd_message.specs.declared.unreadable.Unreadable.{Unreadable}
use Rattle.hd_message.specs.declared.unreadable.Unreadable.TheVariants as Unread
use Rattle.hd_message.specs.declared.unreadable.UnreadableMessage.{UnreadableMessage}

-- whether a message whose fixed part is whole lacks what it must have: a required field, or what a hold
-- must say
abbrev pub is_incomplete : Kind → List ℕ → List ℕ → Bool
is_incomplete (Kinds.Desk Desks.Hold) fixed part =
    lacks_required (Kinds.Desk Desks.Hold) part || is_bad_hold fixed part
is_incomplete kind fixed part = lacks_required kind part

-- whether the body of a message of this kind can't be read: its fixed part is short, or it lacks what it
-- must have
abbrev pub is_unreadable : Kind → List ℕ → Bool
is_unreadable kind body =
    nat_lt (length body) (fixed_width kind)
    || is_incomplete kind (fixed_part kind body) (fields_part kind body)

-- a code, a fixed part with it and the fields state this request
abbrev pub StatesRequest : List ℕ → List ℕ → List ℕ → Request → Type 0
StatesRequest code fixed part (Login login) = (code ≡ codes "93") × IsLogin fixed part login
StatesRequest code fixed part Status = code ≡ codes "99"
StatesRequest code fixed part (Checkout checkout) = (code ≡ codes "11") × IsCheckout fixed part checkout
StatesRequest code fixed part (Checkin checkin) = (code ≡ codes "09") × IsCheckin fixed part checkin
StatesRequest code fixed part (Hold hold) = (code ≡ codes "15") × IsHold fixed part hold
StatesRequest code fixed part (Renew renew) = (code ≡ codes "29") × IsRenew fixed part renew
StatesRequest code fixed part (Item item) = (code ≡ codes "17") × IsItem fixed part item
StatesRequest code fixed part Resend = code ≡ codes "97"
StatesRequest code fixed part Unsupported = ⊥

-- The body is a readable message of some kind, and states the request.
pub record IsMessage (body : List ℕ) (request : Request) : Type 0 where
  pub kind : Kind
  pub code : take 2 body ≡ code_of kind
  pub readable : is_unreadable kind body ≡ false
  pub states : StatesRequest (code_of kind) (fixed_part kind body) (fields_part kind body) request

-- what a body is read as: a message, or nothing that is read where it has no such code
abbrev pub IsRequest : List ℕ → Request → Type 0
IsRequest body Unsupported = (kind : Kind) → take 2 body ≢ code_of kind
IsRequest body request = IsMessage body request

-- The body is an unreadable message of that kind; its refusal prints this date, where the fixed part has it
-- whole, and these values.
pub record IsUnreadableMessage (body : List ℕ) (message : UnreadableMessage) : Type 0 where
  pub code : take 2 body ≡ code_of (Kinds.Desk message.kind)
  pub unreadable : is_unreadable (Kinds.Desk message.kind) body ≡ true
  pub date : option_copied message.date ≡ date_at body (date_start message.kind)
  pub patron : option_copied message.patron
      ≡ first_value (fields_part (Kinds.Desk message.kind) body) (codes "AA")
  pub copy : option_copied message.copy
      ≡ filled_value (fields_part (Kinds.Desk message.kind) body) (codes "AB")
  pub title : option_copied message.title
      ≡ filled_value (fields_part (Kinds.Desk message.kind) body) (codes "AJ")

-- a body that can't be read: a login, or a message that asks something of the desk
abbrev pub IsUnreadable : List ℕ → Unreadable → Type 0
IsUnreadable body Unread.Login = (take 2 body ≡ code_of Kinds.Login) × (is_unreadable Kinds.Login body ≡ true)
IsUnreadable body (Unread.Desk message) = IsUnreadableMessage body message
