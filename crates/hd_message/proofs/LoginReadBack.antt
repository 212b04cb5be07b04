-- A login is read back.
use Rattle.std.proofs.Common.{◌≡◌, ℕ, ◌||◌, false, Some, List, codes, is_none, length, refl, sym, ap, ◌∙◌}
use Rattle.hd_message.proofs.ReadBackLemmas.{apart, kind_of, message_of, some_is, states_of}
use Rattle.hd_message.proofs.WrittenLemmas.{written_value}
use Rattle.hd_message.specs.Grammar.{IsReadBack, body_of, fields_text, value_of}
use Rattle.hd_message.specs.WrittenMessages.{HasLoginValues, IsLoginWritable, LoginValues, StatesLogin}
use Rattle.hd_message.specs.WrittenMessages.{login_fields, login_fixed}
use Rattle.hd_message.specs.Reading.{IsMessage, IsRequest, is_incomplete}
use Rattle.hd_message.specs.Requests.{IsLogin}
use Rattle.hd_message.specs.Values.{first_value}
use Rattle.hd_message.specs.declared.kind.Kind.TheVariants as Kinds
use Rattle.hd_message.specs.declared.request.LoginRequest.{LoginRequest}
use Rattle.hd_message.specs.declared.request.Request.{Request}
use Rattle.hd_message.specs.declared.request.Request.TheVariants.{Login, Status, Checkout, Checkin, Hold}
use Rattle.hd_message.specs.declared.request.Request.TheVariants.{Renew, Item, Resend, Unsupported}

login_width : (v : LoginValues) → IsLoginWritable v → length (login_fixed v) ≡ 4
login_width v w = refl

login_first : (v : LoginValues) → IsLoginWritable v → (code : List ℕ) →
    first_value (fields_text (login_fields v)) code ≡ value_of (login_fields v) code
login_first v w code = written_value code (login_fields v) (
  record { two = refl; begins = refl; plain = w.name; narrow = tt },
  (record { two = refl; begins = refl; plain = w.password; narrow = tt }, tt),
)

login_complete : (v : LoginValues) → IsLoginWritable v
    → is_incomplete Kinds.Login (login_fixed v) (fields_text (login_fields v)) ≡ false
login_complete v w =
    ap (λ x. is_none x || (is_none (first_value (fields_text (login_fields v)) (codes "CO")) || false))
    (login_first v w (codes "CN"))
    ∙ ap (λ x. is_none x || false) (login_first v w (codes "CO"))

login_values : (v : LoginValues) → IsLoginWritable v → (login : LoginRequest) →
    IsLogin (login_fixed v) (fields_text (login_fields v)) login → HasLoginValues v login
login_values v w login s = record {
  clear = s.clear;
  name = some_is _ _ (sym s.name ∙ login_first v w (codes "CN"));
  password = some_is _ _ (sym s.password ∙ login_first v w (codes "CO"));
}

login_states : (v : LoginValues) → IsLoginWritable v → (login : LoginRequest) → HasLoginValues v login →
    IsLogin (login_fixed v) (fields_text (login_fields v)) login
login_states v w login h = record {
  clear = h.clear;
  name = login_first v w (codes "CN") ∙ ap Some (sym h.name);
  password = login_first v w (codes "CO") ∙ ap Some (sym h.password);
}

-- it is read as no request of another kind
login_apart : (v : LoginValues) → IsLoginWritable v → (request : Request)
    → IsMessage (body_of (login_fixed v) (login_fields v)) request → (Kinds.Login ≡ kind_of request → ⊥) → ⊥
login_apart v w request h other =
    apart Kinds.Login (login_fixed v) (fields_text (login_fields v)) request (login_width v w) refl h other

login_forward : (v : LoginValues) → IsLoginWritable v → (request : Request)
    → IsRequest (body_of (login_fixed v) (login_fields v)) request → StatesLogin v request
login_forward v w (Login r) h =
    login_values v w r (states_of Kinds.Login (login_fixed v) (fields_text (login_fields v)) (Login r)
    (login_width v w) refl h).1
login_forward v w Status h = absurd (login_apart v w Status h (λ e. cc))
login_forward v w (Checkout r) h = absurd (login_apart v w (Checkout r) h (λ e. cc))
login_forward v w (Checkin r) h = absurd (login_apart v w (Checkin r) h (λ e. cc))
login_forward v w (Hold r) h = absurd (login_apart v w (Hold r) h (λ e. cc))
login_forward v w (Renew r) h = absurd (login_apart v w (Renew r) h (λ e. cc))
login_forward v w (Item r) h = absurd (login_apart v w (Item r) h (λ e. cc))
login_forward v w Resend h = absurd (login_apart v w Resend h (λ e. cc))
login_forward v w Unsupported h = absurd (h Kinds.Login refl)

login_backward : (v : LoginValues) → IsLoginWritable v → (request : Request) → StatesLogin v request →
    IsRequest (body_of (login_fixed v) (login_fields v)) request
login_backward v w (Login r) h =
    message_of Kinds.Login (login_fixed v) (fields_text (login_fields v)) (Login r) (login_width v w) refl
    (login_complete v w)
    (refl, login_states v w r h)
login_backward v w Status h = absurd h
login_backward v w (Checkout r) h = absurd h
login_backward v w (Checkin r) h = absurd h
login_backward v w (Hold r) h = absurd h
login_backward v w (Renew r) h = absurd h
login_backward v w (Item r) h = absurd h
login_backward v w Resend h = absurd h
login_backward v w Unsupported h = absurd h

pub login_back : (v : LoginValues) → IsLoginWritable v
    → IsReadBack (body_of (login_fixed v) (login_fields v)) (StatesLogin v)
login_back v w request = (login_forward v w request, login_backward v w request)
