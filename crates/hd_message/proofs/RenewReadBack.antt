-- A renewal is read back.
use Rattle.std.proofs.Common.{◌≡◌, ℕ, ◌||◌, Bool, true, false, Some, List, [], ◌∷◌, ◌++◌, codes, is_none}
use Rattle.std.proofs.Common.{length, refl, sym, ap, ◌∙◌, arith}
use Rattle.std.proofs.Common.{length-append}
use Rattle.std.specs.List.{concat}
use Rattle.hd_message.proofs.ReadBackLemmas.{apart, cancel_is, cancel_writable, given_kept, given_plain}
use Rattle.hd_message.proofs.ReadBackLemmas.{kind_of, message_of, not_cancel}
use Rattle.hd_message.proofs.ReadBackLemmas.{optional_found, optional_passed, optional_writable, some_is}
use Rattle.hd_message.proofs.ReadBackLemmas.{states_of, take_fixed, wide}
use Rattle.hd_message.proofs.WrittenLemmas.{written_value}
use Rattle.hd_message.specs.Fields.{yes_no}
use Rattle.hd_message.specs.Grammar.{cancel, IsReadBack, body_of, fields_text, value_of}
use Rattle.hd_message.specs.WrittenMessages.{HasRenewValues, IsRenewWritable, RenewValues, StatesRenew}
use Rattle.hd_message.specs.WrittenMessages.{renew_fields, renew_fixed}
use Rattle.hd_message.specs.Reading.{IsMessage, IsRequest, is_incomplete}
use Rattle.hd_message.specs.Requests.{IsRenew}
use Rattle.hd_message.specs.Table.{column_of}
use Rattle.hd_message.specs.Values.{filled_value, first_value, is_yes, unless_empty}
use Rattle.hd_message.specs.declared.kind.Kind.TheVariants as Kinds
use Rattle.hd_message.specs.declared.kind.DeskKind.TheVariants as Desks
use Rattle.hd_message.specs.declared.request.RenewRequest.{RenewRequest}
use Rattle.hd_message.specs.declared.request.Request.{Request}
use Rattle.hd_message.specs.declared.request.Request.TheVariants.{Login, Status, Checkout, Checkin, Hold}
use Rattle.hd_message.specs.declared.request.Request.TheVariants.{Renew, Item, Resend, Unsupported}

-- the fixed part of a renewal, column by column
renew_columns : (third_party no_block : Bool) (date due : List ℕ) → length date ≡ 18 → length due ≡ 18 →
    let fixed = concat (codes "29" ∷ yes_no third_party ∷ yes_no no_block ∷ date ∷ due ∷ []) in
    (column_of (Kinds.Desk Desks.Renew) 2 fixed ≡ date) × (length fixed ≡ 40)
renew_columns true true date due h g =
    (take_fixed 18 date (due ++ []) h, simp length-append (omega (arith, h, g)))
renew_columns true false date due h g =
    (take_fixed 18 date (due ++ []) h, simp length-append (omega (arith, h, g)))
renew_columns false true date due h g =
    (take_fixed 18 date (due ++ []) h, simp length-append (omega (arith, h, g)))
renew_columns false false date due h g =
    (take_fixed 18 date (due ++ []) h, simp length-append (omega (arith, h, g)))

renew_width : (v : RenewValues) → IsRenewWritable v → length (renew_fixed v) ≡ 40
renew_width v w = (renew_columns v.third_party v.no_block v.date v.due w.date w.due).1

renew_first : (v : RenewValues) → IsRenewWritable v → (code : List ℕ) →
    first_value (fields_text (renew_fields v)) code ≡ value_of (renew_fields v) code
renew_first v w code = written_value code (renew_fields v) (
  record { two = refl; begins = refl; plain = w.institution; narrow = tt },
  (
    record { two = refl; begins = refl; plain = w.patron; narrow = tt },
    (
      record { two = refl; begins = refl; plain = w.copy; narrow = tt },
      optional_writable (codes "AJ") v.title _ refl refl (given_plain v.title w.title) (wide v.title)
          (cancel_writable v.cancels),
    ),
  ),
)

renew_title : (v : RenewValues) → IsRenewWritable v
    → filled_value (fields_text (renew_fields v)) (codes "AJ") ≡ v.title
renew_title v w =
    ap unless_empty (renew_first v w (codes "AJ")
    ∙ optional_found (codes "AJ") v.title (cancel v.cancels) refl (not_cancel v.cancels (codes "AJ") refl))
    ∙ given_kept v.title w.title

renew_cancels : (v : RenewValues) → IsRenewWritable v
    → is_yes (first_value (fields_text (renew_fields v)) (codes "BI")) ≡ v.cancels
renew_cancels v w =
    ap is_yes (renew_first v w (codes "BI")
    ∙ optional_passed (codes "AJ") (codes "BI") v.title (cancel v.cancels) refl)
    ∙ cancel_is v.cancels

renew_complete : (v : RenewValues) → IsRenewWritable v →
    is_incomplete (Kinds.Desk Desks.Renew) (renew_fixed v) (fields_text (renew_fields v)) ≡ false
renew_complete v w =
    ap (λ x. is_none x || (is_none (first_value (fields_text (renew_fields v)) (codes "AB")) || false))
    (renew_first v w (codes "AA"))
    ∙ ap (λ x. is_none x || false) (renew_first v w (codes "AB"))

renew_values : (v : RenewValues) → IsRenewWritable v → (renew : RenewRequest) →
    IsRenew (renew_fixed v) (fields_text (renew_fields v)) renew → HasRenewValues v renew
renew_values v w renew s =
    let columns = renew_columns v.third_party v.no_block v.date v.due w.date w.due in
    record {
      date = s.date ∙ columns.0;
      patron = some_is _ _ (sym s.patron ∙ renew_first v w (codes "AA"));
      copy = some_is _ _ (sym s.copy ∙ renew_first v w (codes "AB"));
      title = s.title ∙ renew_title v w;
      cancels = s.cancels ∙ renew_cancels v w;
    }

renew_states : (v : RenewValues) → IsRenewWritable v → (renew : RenewRequest) → HasRenewValues v renew →
    IsRenew (renew_fixed v) (fields_text (renew_fields v)) renew
renew_states v w renew h =
    let columns = renew_columns v.third_party v.no_block v.date v.due w.date w.due in
    record {
      date = h.date ∙ sym columns.0;
      patron = renew_first v w (codes "AA") ∙ ap Some (sym h.patron);
      copy = renew_first v w (codes "AB") ∙ ap Some (sym h.copy);
      title = h.title ∙ sym (renew_title v w);
      cancels = h.cancels ∙ sym (renew_cancels v w);
    }

-- it is read as no request of another kind
renew_apart : (v : RenewValues) → IsRenewWritable v → (request : Request)
    → IsMessage (body_of (renew_fixed v) (renew_fields v)) request
    → (Kinds.Desk Desks.Renew ≡ kind_of request → ⊥) → ⊥
renew_apart v w request h other =
    apart (Kinds.Desk Desks.Renew) (renew_fixed v) (fields_text (renew_fields v)) request
    (renew_width v w) refl h other

renew_forward : (v : RenewValues) → IsRenewWritable v → (request : Request)
    → IsRequest (body_of (renew_fixed v) (renew_fields v)) request → StatesRenew v request
renew_forward v w (Login r) h = absurd (renew_apart v w (Login r) h (λ e. cc))
renew_forward v w Status h = absurd (renew_apart v w Status h (λ e. cc))
renew_forward v w (Checkout r) h = absurd (renew_apart v w (Checkout r) h (λ e. cc))
renew_forward v w (Checkin r) h = absurd (renew_apart v w (Checkin r) h (λ e. cc))
renew_forward v w (Hold r) h = absurd (renew_apart v w (Hold r) h (λ e. cc))
renew_forward v w (Renew r) h =
    renew_values v w r (states_of (Kinds.Desk Desks.Renew) (renew_fixed v) (fields_text (renew_fields v))
    (Renew r) (renew_width v w) refl
    h).1
renew_forward v w (Item r) h = absurd (renew_apart v w (Item r) h (λ e. cc))
renew_forward v w Resend h = absurd (renew_apart v w Resend h (λ e. cc))
renew_forward v w Unsupported h = absurd (h (Kinds.Desk Desks.Renew) refl)

renew_backward : (v : RenewValues) → IsRenewWritable v → (request : Request) → StatesRenew v request →
    IsRequest (body_of (renew_fixed v) (renew_fields v)) request
renew_backward v w (Login r) h = absurd h
renew_backward v w Status h = absurd h
renew_backward v w (Checkout r) h = absurd h
renew_backward v w (Checkin r) h = absurd h
renew_backward v w (Hold r) h = absurd h
renew_backward v w (Renew r) h =
    message_of (Kinds.Desk Desks.Renew) (renew_fixed v) (fields_text (renew_fields v)) (Renew r)
    (renew_width v w) refl (renew_complete v w)
    (refl, renew_states v w r h)
renew_backward v w (Item r) h = absurd h
renew_backward v w Resend h = absurd h
renew_backward v w Unsupported h = absurd h

pub renew_back : (v : RenewValues) → IsRenewWritable v
    → IsReadBack (body_of (renew_fixed v) (renew_fields v)) (StatesRenew v)
renew_back v w request = (renew_forward v w request, renew_backward v w request)
