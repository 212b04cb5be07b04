-- No body is a request and unreadable.
use Rattle.std.proofs.Common.{◌≡◌, ℕ, true, false, List, take, sym, ap, ◌∙◌}
use Rattle.hd_message.proofs.ReadBackLemmas.{one_kind}
use Rattle.hd_message.specs.Reading.{IsMessage, IsRequest, IsUnreadable, is_unreadable}
use Rattle.hd_message.specs.Table.{code_of}
use Rattle.hd_message.specs.declared.kind.Kind.{Kind}
use Rattle.hd_message.specs.declared.kind.Kind.TheVariants as Kinds
use Rattle.hd_message.specs.declared.request.Request.{Request}
use Rattle.hd_message.specs.declared.request.Request.TheVariants.{Login, Status, Checkout, Checkin, Hold}
use Rattle.hd_message.specs.declared.request.Request.TheVariants.{Renew}
use Rattle.hd_message.specs.declared.request.Request.TheVariants.{Item, Resend, Unsupported}
use Rattle.hd_message.specs.declared.unreadable.Unreadable.{Unreadable}
use Rattle.hd_message.specs.declared.unreadable.Unreadable.TheVariants as Unread

-- no message of that kind that can be read
kind_apart : (body : List ℕ) (request : Request) (kind : Kind) →
    IsMessage body request → take 2 body ≡ code_of kind → is_unreadable kind body ≡ true → ⊥
kind_apart body request kind m code unreadable =
    let same = one_kind m.kind kind (sym m.code ∙ code) in
    let both : false ≡ true = sym m.readable ∙ ap (λ k. is_unreadable k body) same ∙ unreadable in
    cc

message_apart : (body : List ℕ) (request : Request) (message : Unreadable) →
    IsMessage body request → IsUnreadable body message → ⊥
message_apart body request Unread.Login m u = kind_apart body request Kinds.Login m u.0 u.1
message_apart body request (Unread.Desk message) m u =
    kind_apart body request (Kinds.Desk message.kind) m u.code u.unreadable

-- the code of an unreadable message is that of a kind
unsupported_apart : (body : List ℕ) (message : Unreadable) → IsRequest body Unsupported
    → IsUnreadable body message → ⊥
unsupported_apart body Unread.Login h u = h Kinds.Login u.0
unsupported_apart body (Unread.Desk message) h u = h (Kinds.Desk message.kind) u.code

pub request_apart : (body : List ℕ) (request : Request) (message : Unreadable) →
    IsRequest body request → IsUnreadable body message → ⊥
request_apart body (Login r) message h u = message_apart body (Login r) message h u
request_apart body Status message h u = message_apart body Status message h u
request_apart body (Checkout r) message h u = message_apart body (Checkout r) message h u
request_apart body (Checkin r) message h u = message_apart body (Checkin r) message h u
request_apart body (Hold r) message h u = message_apart body (Hold r) message h u
request_apart body (Renew r) message h u = message_apart body (Renew r) message h u
request_apart body (Item r) message h u = message_apart body (Item r) message h u
request_apart body Resend message h u = message_apart body Resend message h u
request_apart body Unsupported message h u = unsupported_apart body message h u
