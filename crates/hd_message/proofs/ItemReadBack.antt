-- A question about a copy is read back.
use Rattle.std.proofs.Common.{◌≡◌, ℕ, ◌||◌, false, Some, List, codes, is_none, length, refl, sym, ap, ◌∙◌}
use Rattle.std.proofs.Common.{arith}
use Rattle.hd_message.proofs.ReadBackLemmas.{apart, kind_of, message_of, some_is, states_of, take_whole}
use Rattle.hd_message.proofs.WrittenLemmas.{written_value}
use Rattle.hd_message.specs.Grammar.{IsReadBack, body_of, fields_text, value_of}
use Rattle.hd_message.specs.WrittenMessages.{HasItemValues, IsItemWritable, ItemValues, StatesItem}
use Rattle.hd_message.specs.WrittenMessages.{item_fields, item_fixed}
use Rattle.hd_message.specs.Reading.{IsMessage, IsRequest, is_incomplete}
use Rattle.hd_message.specs.Requests.{IsItem}
use Rattle.hd_message.specs.Table.{column_of}
use Rattle.hd_message.specs.Values.{first_value}
use Rattle.hd_message.specs.declared.kind.Kind.TheVariants as Kinds
use Rattle.hd_message.specs.declared.kind.DeskKind.TheVariants as Desks
use Rattle.hd_message.specs.declared.request.ItemRequest.{ItemRequest}
use Rattle.hd_message.specs.declared.request.Request.{Request}
use Rattle.hd_message.specs.declared.request.Request.TheVariants.{Login, Status, Checkout, Checkin, Hold}
use Rattle.hd_message.specs.declared.request.Request.TheVariants.{Renew, Item, Resend, Unsupported}

item_width : (v : ItemValues) → IsItemWritable v → length (item_fixed v) ≡ 20
item_width v w = omega (arith, w.date)

item_first : (v : ItemValues) → IsItemWritable v → (code : List ℕ) →
    first_value (fields_text (item_fields v)) code ≡ value_of (item_fields v) code
item_first v w code = written_value code (item_fields v) (
  record { two = refl; begins = refl; plain = w.institution; narrow = tt },
  (record { two = refl; begins = refl; plain = w.copy; narrow = tt }, tt),
)

item_date : (v : ItemValues) → IsItemWritable v → column_of (Kinds.Desk Desks.Item) 0 (item_fixed v) ≡ v.date
item_date v w = take_whole 18 v.date w.date

item_complete : (v : ItemValues) → IsItemWritable v →
    is_incomplete (Kinds.Desk Desks.Item) (item_fixed v) (fields_text (item_fields v)) ≡ false
item_complete v w = ap (λ x. is_none x || false) (item_first v w (codes "AB"))

item_values : (v : ItemValues) → IsItemWritable v → (item : ItemRequest)
    → IsItem (item_fixed v) (fields_text (item_fields v)) item → HasItemValues v item
item_values v w item s = record {
  date = s.date ∙ item_date v w;
  copy = some_is _ _ (sym s.copy ∙ item_first v w (codes "AB"));
}

item_states : (v : ItemValues) → IsItemWritable v → (item : ItemRequest) → HasItemValues v item →
    IsItem (item_fixed v) (fields_text (item_fields v)) item
item_states v w item h = record {
  date = h.date ∙ sym (item_date v w);
  copy = item_first v w (codes "AB") ∙ ap Some (sym h.copy);
}

-- it is read as no request of another kind
item_apart : (v : ItemValues) → IsItemWritable v → (request : Request)
    → IsMessage (body_of (item_fixed v) (item_fields v)) request
    → (Kinds.Desk Desks.Item ≡ kind_of request → ⊥) → ⊥
item_apart v w request h other =
    apart (Kinds.Desk Desks.Item) (item_fixed v) (fields_text (item_fields v)) request
    (item_width v w) refl h other

item_forward : (v : ItemValues) → IsItemWritable v → (request : Request)
    → IsRequest (body_of (item_fixed v) (item_fields v)) request → StatesItem v request
item_forward v w (Login r) h = absurd (item_apart v w (Login r) h (λ e. cc))
item_forward v w Status h = absurd (item_apart v w Status h (λ e. cc))
item_forward v w (Checkout r) h = absurd (item_apart v w (Checkout r) h (λ e. cc))
item_forward v w (Checkin r) h = absurd (item_apart v w (Checkin r) h (λ e. cc))
item_forward v w (Hold r) h = absurd (item_apart v w (Hold r) h (λ e. cc))
item_forward v w (Renew r) h = absurd (item_apart v w (Renew r) h (λ e. cc))
item_forward v w (Item r) h =
    item_values v w r (states_of (Kinds.Desk Desks.Item) (item_fixed v) (fields_text (item_fields v)) (Item r)
    (item_width v w) refl h).1
item_forward v w Resend h = absurd (item_apart v w Resend h (λ e. cc))
item_forward v w Unsupported h = absurd (h (Kinds.Desk Desks.Item) refl)

item_backward : (v : ItemValues) → IsItemWritable v → (request : Request) → StatesItem v request →
    IsRequest (body_of (item_fixed v) (item_fields v)) request
item_backward v w (Login r) h = absurd h
item_backward v w Status h = absurd h
item_backward v w (Checkout r) h = absurd h
item_backward v w (Checkin r) h = absurd h
item_backward v w (Hold r) h = absurd h
item_backward v w (Renew r) h = absurd h
item_backward v w (Item r) h =
    message_of (Kinds.Desk Desks.Item) (item_fixed v) (fields_text (item_fields v)) (Item r)
    (item_width v w) refl (item_complete v w)
    (refl, item_states v w r h)
item_backward v w Resend h = absurd h
item_backward v w Unsupported h = absurd h

pub item_back : (v : ItemValues) → IsItemWritable v
    → IsReadBack (body_of (item_fixed v) (item_fields v)) (StatesItem v)
item_back v w request = (item_forward v w request, item_backward v w request)
