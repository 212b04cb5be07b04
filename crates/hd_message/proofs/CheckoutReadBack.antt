-- A checkout is read back.
use Rattle.std.proofs.Common.{◌≡◌, ℕ, ◌==◌, ◌||◌, ◌&&◌, not, Bool, true, false, None, Some, List, [], ◌∷◌}
use Rattle.std.proofs.Common.{◌++◌, codes, is_none, length}
use Rattle.std.proofs.Common.{take, drop, refl, sym, ap, ◌∙◌, arith, length-append, if◌then◌else◌}
use Rattle.std.specs.List.{concat}
use Rattle.hd_message.proofs.ReadBackLemmas.{apart, cancel_is, cancel_writable, drop_fixed, kind_of}
use Rattle.hd_message.proofs.ReadBackLemmas.{message_of, some_is, states_of}
use Rattle.hd_message.proofs.ReadBackLemmas.{take_fixed}
use Rattle.hd_message.proofs.WrittenLemmas.{written_value}
use Rattle.hd_message.specs.Fields.{yes_no}
use Rattle.hd_message.specs.Grammar.{IsReadBack, body_of, fields_text, value_of}
use Rattle.hd_message.specs.WrittenMessages.{CheckoutValues, HasCheckoutValues, IsCheckoutWritable}
use Rattle.hd_message.specs.WrittenMessages.{StatesCheckout, checkout_fields}
use Rattle.hd_message.specs.WrittenMessages.{checkout_fixed}
use Rattle.hd_message.specs.Reading.{IsMessage, IsRequest, is_incomplete}
use Rattle.hd_message.specs.Requests.{IsCheckout}
use Rattle.hd_message.specs.Table.{byte_of, column_of}
use Rattle.hd_message.specs.Values.{first_value, is_yes}
use Rattle.hd_message.specs.declared.kind.Kind.TheVariants as Kinds
use Rattle.hd_message.specs.declared.kind.DeskKind.TheVariants as Desks
use Rattle.hd_message.specs.declared.request.CheckoutRequest.{CheckoutRequest}
use Rattle.hd_message.specs.declared.request.Request.{Request}
use Rattle.hd_message.specs.declared.request.Request.TheVariants.{Login, Status, Checkout, Checkin, Hold}
use Rattle.hd_message.specs.declared.request.Request.TheVariants.{Renew, Item, Resend, Unsupported}

-- the fixed part of a checkout, column by column
columns_behind : (date due : List ℕ) → length date ≡ 18 → length due ≡ 18 →
    (take 18 (date ++ (due ++ [])) ≡ date) × (take 18 (drop 18 (date ++ (due ++ []))) ≡ due)
columns_behind date due h g = (
  take_fixed 18 date (due ++ []) h,
  ap (take 18) (drop_fixed 18 date (due ++ []) h) ∙ take_fixed 18 due [] g,
)

checkout_columns : (renews offline : Bool) (date due : List ℕ) → length date ≡ 18 → length due ≡ 18 →
    let fixed = concat (codes "11" ∷ yes_no renews ∷ yes_no offline ∷ date ∷ due ∷ []) in
    ((byte_of (Kinds.Desk Desks.Checkout) 0 fixed == 89) ≡ renews)
    × ((byte_of (Kinds.Desk Desks.Checkout) 1 fixed == 89) ≡ offline)
    × (column_of (Kinds.Desk Desks.Checkout) 2 fixed ≡ date)
    × (column_of (Kinds.Desk Desks.Checkout) 3 fixed ≡ due) × (length fixed ≡ 40)
checkout_columns true true date due h g =
    let behind = columns_behind date due h g in
    (refl, refl, behind.0, behind.1, simp length-append (omega (arith, h, g)))
checkout_columns true false date due h g =
    let behind = columns_behind date due h g in
    (refl, refl, behind.0, behind.1, simp length-append (omega (arith, h, g)))
checkout_columns false true date due h g =
    let behind = columns_behind date due h g in
    (refl, refl, behind.0, behind.1, simp length-append (omega (arith, h, g)))
checkout_columns false false date due h g =
    let behind = columns_behind date due h g in
    (refl, refl, behind.0, behind.1, simp length-append (omega (arith, h, g)))

checkout_width : (v : CheckoutValues) → IsCheckoutWritable v → length (checkout_fixed v) ≡ 40
checkout_width v w = (checkout_columns v.renews v.offline v.date v.due w.date w.due).4

checkout_first : (v : CheckoutValues) → IsCheckoutWritable v → (code : List ℕ) →
    first_value (fields_text (checkout_fields v)) code ≡ value_of (checkout_fields v) code
checkout_first v w code = written_value code (checkout_fields v) (
  record { two = refl; begins = refl; plain = w.institution; narrow = tt },
  (
    record { two = refl; begins = refl; plain = w.patron; narrow = tt },
    (
      record { two = refl; begins = refl; plain = w.copy; narrow = tt },
      (
        record { two = refl; begins = refl; plain = refl; narrow = tt },
        cancel_writable v.cancels,
      ),
    ),
  ),
)

checkout_complete : (v : CheckoutValues) → IsCheckoutWritable v →
    is_incomplete (Kinds.Desk Desks.Checkout) (checkout_fixed v) (fields_text (checkout_fields v)) ≡ false
checkout_complete v w =
    ap (λ x. is_none x || (is_none (first_value (fields_text (checkout_fields v)) (codes "AB")) || false))
    (checkout_first v w (codes "AA"))
    ∙ ap (λ x. is_none x || false) (checkout_first v w (codes "AB"))

checkout_values : (v : CheckoutValues) → IsCheckoutWritable v → (checkout : CheckoutRequest) →
    IsCheckout (checkout_fixed v) (fields_text (checkout_fields v)) checkout → HasCheckoutValues v checkout
checkout_values v w checkout s =
    let columns = checkout_columns v.renews v.offline v.date v.due w.date w.due in
    let cancels : checkout.cancels ≡ v.cancels = s.cancels ∙ ap is_yes (checkout_first v w (codes "BI"))
    ∙ cancel_is v.cancels in
    record {
      renews = s.renews ∙ columns.0;
      date = s.date ∙ columns.2;
      due = s.due
          ∙ ap (λ t. if t && not checkout.cancels then Some
          (column_of (Kinds.Desk Desks.Checkout) 3 (checkout_fixed v)) else None)
          columns.1
          ∙ ap (λ d. if v.offline && not checkout.cancels then Some d else None) columns.3
          ∙ ap (λ c. if v.offline && not c then Some v.due else None) cancels;
      patron = some_is _ _ (sym s.patron ∙ checkout_first v w (codes "AA"));
      copy = some_is _ _ (sym s.copy ∙ checkout_first v w (codes "AB"));
      cancels = cancels;
    }

checkout_states : (v : CheckoutValues) → IsCheckoutWritable v → (checkout : CheckoutRequest)
    → HasCheckoutValues v checkout → IsCheckout (checkout_fixed v) (fields_text (checkout_fields v)) checkout
checkout_states v w checkout h =
    let columns = checkout_columns v.renews v.offline v.date v.due w.date w.due in
    record {
      renews = h.renews ∙ sym columns.0;
      date = h.date ∙ sym columns.2;
      due = h.due
          ∙ ap (λ c. if v.offline && not c then Some v.due else None) (sym h.cancels)
          ∙ ap (λ d. if v.offline && not checkout.cancels then Some d else None) (sym columns.3)
          ∙ ap (λ t. if t && not checkout.cancels then Some
          (column_of (Kinds.Desk Desks.Checkout) 3 (checkout_fixed v)) else None)
          (sym columns.1);
      patron = checkout_first v w (codes "AA") ∙ ap Some (sym h.patron);
      copy = checkout_first v w (codes "AB") ∙ ap Some (sym h.copy);
      cancels = h.cancels ∙ sym (cancel_is v.cancels) ∙ ap is_yes (sym (checkout_first v w (codes "BI")));
    }

-- it is read as no request of another kind
checkout_apart : (v : CheckoutValues) → IsCheckoutWritable v → (request : Request) →
    IsMessage (body_of (checkout_fixed v) (checkout_fields v)) request →
    (Kinds.Desk Desks.Checkout ≡ kind_of request → ⊥) → ⊥
checkout_apart v w request h other =
    apart (Kinds.Desk Desks.Checkout) (checkout_fixed v) (fields_text (checkout_fields v)) request
    (checkout_width v w) refl h other

checkout_forward : (v : CheckoutValues) → IsCheckoutWritable v → (request : Request) →
    IsRequest (body_of (checkout_fixed v) (checkout_fields v)) request → StatesCheckout v request
checkout_forward v w (Login r) h = absurd (checkout_apart v w (Login r) h (λ e. cc))
checkout_forward v w Status h = absurd (checkout_apart v w Status h (λ e. cc))
checkout_forward v w (Checkout r) h =
    checkout_values v w r (states_of (Kinds.Desk Desks.Checkout) (checkout_fixed v)
    (fields_text (checkout_fields v)) (Checkout r)
    (checkout_width v w) refl h).1
checkout_forward v w (Checkin r) h = absurd (checkout_apart v w (Checkin r) h (λ e. cc))
checkout_forward v w (Hold r) h = absurd (checkout_apart v w (Hold r) h (λ e. cc))
checkout_forward v w (Renew r) h = absurd (checkout_apart v w (Renew r) h (λ e. cc))
checkout_forward v w (Item r) h = absurd (checkout_apart v w (Item r) h (λ e. cc))
checkout_forward v w Resend h = absurd (checkout_apart v w Resend h (λ e. cc))
checkout_forward v w Unsupported h = absurd (h (Kinds.Desk Desks.Checkout) refl)

checkout_backward : (v : CheckoutValues) → IsCheckoutWritable v → (request : Request)
    → StatesCheckout v request → IsRequest (body_of (checkout_fixed v) (checkout_fields v)) request
checkout_backward v w (Login r) h = absurd h
checkout_backward v w Status h = absurd h
checkout_backward v w (Checkout r) h =
    message_of (Kinds.Desk Desks.Checkout) (checkout_fixed v) (fields_text (checkout_fields v)) (Checkout r)
    (checkout_width v w) refl
    (checkout_complete v w) (refl, checkout_states v w r h)
checkout_backward v w (Checkin r) h = absurd h
checkout_backward v w (Hold r) h = absurd h
checkout_backward v w (Renew r) h = absurd h
checkout_backward v w (Item r) h = absurd h
checkout_backward v w Resend h = absurd h
checkout_backward v w Unsupported h = absurd h

pub checkout_back : (v : CheckoutValues) → IsCheckoutWritable v →
    IsReadBack (body_of (checkout_fixed v) (checkout_fields v)) (StatesCheckout v)
checkout_back v w request = (checkout_forward v w request, checkout_backward v w request)
