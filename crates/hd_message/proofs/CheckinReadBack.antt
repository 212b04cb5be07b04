-- A checkin is read back.
use Rattle.std.proofs.Common.{◌≡◌, ℕ, ◌||◌, Bool, true, false, Some, List, [], ◌∷◌, ◌++◌, codes, is_none}
use Rattle.std.proofs.Common.{length, refl, sym, ap, ◌∙◌, arith}
use Rattle.std.proofs.Common.{length-append}
use Rattle.std.specs.List.{concat}
use Rattle.hd_message.proofs.ReadBackLemmas.{apart, cancel_is, cancel_writable, kind_of, message_of, some_is}
use Rattle.hd_message.proofs.ReadBackLemmas.{states_of, take_fixed}
use Rattle.hd_message.proofs.WrittenLemmas.{written_value}
use Rattle.hd_message.specs.Fields.{yes_no}
use Rattle.hd_message.specs.Grammar.{IsReadBack, body_of, fields_text, value_of}
use Rattle.hd_message.specs.WrittenMessages.{CheckinValues, HasCheckinValues, IsCheckinWritable}
use Rattle.hd_message.specs.WrittenMessages.{StatesCheckin, checkin_fields}
use Rattle.hd_message.specs.WrittenMessages.{checkin_fixed}
use Rattle.hd_message.specs.Reading.{IsMessage, IsRequest, is_incomplete}
use Rattle.hd_message.specs.Requests.{IsCheckin}
use Rattle.hd_message.specs.Table.{column_of}
use Rattle.hd_message.specs.Values.{first_value, is_yes, unless_empty}
use Rattle.hd_message.specs.declared.kind.Kind.TheVariants as Kinds
use Rattle.hd_message.specs.declared.kind.DeskKind.TheVariants as Desks
use Rattle.hd_message.specs.declared.request.CheckinRequest.{CheckinRequest}
use Rattle.hd_message.specs.declared.request.Request.{Request}
use Rattle.hd_message.specs.declared.request.Request.TheVariants.{Login, Status, Checkout, Checkin, Hold}
use Rattle.hd_message.specs.declared.request.Request.TheVariants.{Renew, Item, Resend, Unsupported}

-- the fixed part of a checkin, column by column
checkin_columns : (no_block : Bool) (date return_date : List ℕ) → length date ≡ 18 → length return_date ≡ 18 →
    let fixed = concat (codes "09" ∷ yes_no no_block ∷ date ∷ return_date ∷ []) in
    (column_of (Kinds.Desk Desks.Checkin) 1 fixed ≡ date) × (length fixed ≡ 39)
checkin_columns true date return_date h g =
    (take_fixed 18 date (return_date ++ []) h, simp length-append (omega (arith, h, g)))
checkin_columns false date return_date h g =
    (take_fixed 18 date (return_date ++ []) h, simp length-append (omega (arith, h, g)))

checkin_width : (v : CheckinValues) → IsCheckinWritable v → length (checkin_fixed v) ≡ 39
checkin_width v w = (checkin_columns v.no_block v.date v.return_date w.date w.return_date).1

checkin_first : (v : CheckinValues) → IsCheckinWritable v → (code : List ℕ) →
    first_value (fields_text (checkin_fields v)) code ≡ value_of (checkin_fields v) code
checkin_first v w code = written_value code (checkin_fields v) (
  record { two = refl; begins = refl; plain = w.branch; narrow = tt },
  (
    record { two = refl; begins = refl; plain = w.institution; narrow = tt },
    (
      record { two = refl; begins = refl; plain = w.copy; narrow = tt },
      (
        record { two = refl; begins = refl; plain = refl; narrow = tt },
        cancel_writable v.cancels,
      ),
    ),
  ),
)

checkin_complete : (v : CheckinValues) → IsCheckinWritable v →
    is_incomplete (Kinds.Desk Desks.Checkin) (checkin_fixed v) (fields_text (checkin_fields v)) ≡ false
checkin_complete v w = ap (λ x. is_none x || false) (checkin_first v w (codes "AB"))

checkin_values : (v : CheckinValues) → IsCheckinWritable v → (checkin : CheckinRequest) →
    IsCheckin (checkin_fixed v) (fields_text (checkin_fields v)) checkin → HasCheckinValues v checkin
checkin_values v w checkin s =
    let columns = checkin_columns v.no_block v.date v.return_date w.date w.return_date in
    record {
      date = s.date ∙ columns.0;
      copy = some_is _ _ (sym s.copy ∙ checkin_first v w (codes "AB"));
      branch = s.branch ∙ ap unless_empty (checkin_first v w (codes "AP"));
      cancels = s.cancels ∙ ap is_yes (checkin_first v w (codes "BI")) ∙ cancel_is v.cancels;
    }

checkin_states : (v : CheckinValues) → IsCheckinWritable v → (checkin : CheckinRequest)
    → HasCheckinValues v checkin → IsCheckin (checkin_fixed v) (fields_text (checkin_fields v)) checkin
checkin_states v w checkin h =
    let columns = checkin_columns v.no_block v.date v.return_date w.date w.return_date in
    record {
      date = h.date ∙ sym columns.0;
      copy = checkin_first v w (codes "AB") ∙ ap Some (sym h.copy);
      branch = h.branch ∙ ap unless_empty (sym (checkin_first v w (codes "AP")));
      cancels = h.cancels ∙ sym (cancel_is v.cancels) ∙ ap is_yes (sym (checkin_first v w (codes "BI")));
    }

-- it is read as no request of another kind
checkin_apart : (v : CheckinValues) → IsCheckinWritable v → (request : Request) →
    IsMessage (body_of (checkin_fixed v) (checkin_fields v)) request →
    (Kinds.Desk Desks.Checkin ≡ kind_of request → ⊥) → ⊥
checkin_apart v w request h other =
    apart (Kinds.Desk Desks.Checkin) (checkin_fixed v) (fields_text (checkin_fields v)) request
    (checkin_width v w) refl h other

checkin_forward : (v : CheckinValues) → IsCheckinWritable v → (request : Request) →
    IsRequest (body_of (checkin_fixed v) (checkin_fields v)) request → StatesCheckin v request
checkin_forward v w (Login r) h = absurd (checkin_apart v w (Login r) h (λ e. cc))
checkin_forward v w Status h = absurd (checkin_apart v w Status h (λ e. cc))
checkin_forward v w (Checkout r) h = absurd (checkin_apart v w (Checkout r) h (λ e. cc))
checkin_forward v w (Checkin r) h =
    checkin_values v w r
    (states_of (Kinds.Desk Desks.Checkin) (checkin_fixed v) (fields_text (checkin_fields v)) (Checkin r)
    (checkin_width v w) refl h).1
checkin_forward v w (Hold r) h = absurd (checkin_apart v w (Hold r) h (λ e. cc))
checkin_forward v w (Renew r) h = absurd (checkin_apart v w (Renew r) h (λ e. cc))
checkin_forward v w (Item r) h = absurd (checkin_apart v w (Item r) h (λ e. cc))
checkin_forward v w Resend h = absurd (checkin_apart v w Resend h (λ e. cc))
checkin_forward v w Unsupported h = absurd (h (Kinds.Desk Desks.Checkin) refl)

checkin_backward : (v : CheckinValues) → IsCheckinWritable v → (request : Request) → StatesCheckin v request →
    IsRequest (body_of (checkin_fixed v) (checkin_fields v)) request
checkin_backward v w (Login r) h = absurd h
checkin_backward v w Status h = absurd h
checkin_backward v w (Checkout r) h = absurd h
checkin_backward v w (Checkin r) h =
    message_of (Kinds.Desk Desks.Checkin) (checkin_fixed v) (fields_text (checkin_fields v)) (Checkin r)
    (checkin_width v w) refl
    (checkin_complete v w) (refl, checkin_states v w r h)
checkin_backward v w (Hold r) h = absurd h
checkin_backward v w (Renew r) h = absurd h
checkin_backward v w (Item r) h = absurd h
checkin_backward v w Resend h = absurd h
checkin_backward v w Unsupported h = absurd h

pub checkin_back : (v : CheckinValues) → IsCheckinWritable v
    → IsReadBack (body_of (checkin_fixed v) (checkin_fields v)) (StatesCheckin v)
checkin_back v w request = (checkin_forward v w request, checkin_backward v w request)
