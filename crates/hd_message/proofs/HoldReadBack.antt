-- A hold message is read back.
use Rattle.std.proofs.Common.{◌≡◌, ℕ, ◌≤◌, ◌||◌, ◌&&◌, Bool, true, false, Option, None, Some, IfSome, List}
use Rattle.std.proofs.Common.{[], ◌∷◌, ◌++◌, codes, is_none}
use Rattle.std.proofs.Common.{length, refl, sym, ap, subst, ◌∙◌, arith, MatchBool, if◌then◌else◌}
use Rattle.std.specs.Str.{bytes_eq}
use Rattle.hd_message.proofs.ReadBackLemmas.{apart, cancel_is, cancel_writable, given_kept, given_plain}
use Rattle.hd_message.proofs.ReadBackLemmas.{kind_of, message_of, not_cancel}
use Rattle.hd_message.proofs.ReadBackLemmas.{optional_found, optional_passed, optional_writable, some_is}
use Rattle.hd_message.proofs.ReadBackLemmas.{states_of, take_whole, wide}
use Rattle.hd_message.proofs.WrittenLemmas.{written_value}
use Rattle.hd_message.specs.Grammar.{AreWritable, IsReadBack, body_of, cancel, fields_text, has_bar, optional}
use Rattle.hd_message.specs.Grammar.{value_of}
use Rattle.hd_message.specs.WrittenHolds.{HasHoldValues, HasWishValues, HoldValues, IsExpiry, IsHoldWritable}
use Rattle.hd_message.specs.WrittenHolds.{StatesHold, hold_fields}
use Rattle.hd_message.specs.WrittenHolds.{hold_fixed, mode_byte, named_fields, wanted_text}
use Rattle.hd_message.specs.Hold.{AreWishes, AreWishesOf, IsHold, expiry_of, has_wishes, is_bad_mode}
use Rattle.hd_message.specs.Hold.{is_bad_wish, is_one_copy, mode_of}
use Rattle.hd_message.specs.Hold.{names_nothing, wanted_of}
use Rattle.hd_message.specs.Reading.{IsMessage, IsRequest, is_incomplete}
use Rattle.hd_message.specs.Table.{byte_of, column_of}
use Rattle.hd_message.specs.Values.{filled_value, first_value, is_yes, unless_empty}
use Rattle.hd_message.specs.declared.kind.Kind.TheVariants as Kinds
use Rattle.hd_message.specs.declared.kind.DeskKind.TheVariants as Desks
use Rattle.hd_message.specs.declared.request.Mode.{Mode}
use Rattle.hd_message.specs.declared.request.Mode.TheVariants.{Add, Delete, Change}
use Rattle.hd_message.specs.declared.request.Wanted.{Wanted}
use Rattle.hd_message.specs.declared.request.Wanted.TheVariants.{AnyCopy, OneCopy, AtBranch}
use Rattle.hd_message.specs.declared.request.Wishes.{Wishes}
use Rattle.hd_message.specs.declared.request.HoldRequest.{HoldRequest}
use Rattle.hd_message.specs.declared.request.Request.{Request}
use Rattle.hd_message.specs.declared.request.Request.TheVariants.{Login, Status, Checkout, Checkin, Hold}
use Rattle.hd_message.specs.declared.request.Request.TheVariants.{Renew, Item, Resend, Unsupported}

-- what is written is read as what it says
mode_kept : (mode : Mode) → mode_of (mode_byte mode) ≡ Some mode
mode_kept Add = refl
mode_kept Delete = refl
mode_kept Change = refl

wanted_kept : (wanted : Option Wanted) → wanted_of (wanted_text wanted) ≡ Some wanted
wanted_kept None = refl
wanted_kept (Some AnyCopy) = refl
wanted_kept (Some OneCopy) = refl
wanted_kept (Some AtBranch) = refl

expiry_kept : (value : Option (List ℕ)) → IsExpiry value → expiry_of (unless_empty value) ≡ value
expiry_kept None h = refl
expiry_kept (Some []) h = absurd (omega (arith, h.1))
expiry_kept (Some (b ∷ bytes)) h = ap (λ t. if t then None else Some (b ∷ bytes)) h.2

-- and can be written
expiry_plain : (value : Option (List ℕ)) → IsExpiry value → IfSome value (λ x. has_bar x ≡ false)
expiry_plain None h = tt
expiry_plain (Some x) h = h.0

expiry_narrow : (value : Option (List ℕ)) → IsExpiry value → IfSome value (λ x. length x ≤ 18)
expiry_narrow None h = tt
expiry_narrow (Some x) h = omega (arith, h.1)

wanted_plain : (wanted : Option Wanted) → IfSome (wanted_text wanted) (λ x. has_bar x ≡ false)
wanted_plain None = tt
wanted_plain (Some AnyCopy) = refl
wanted_plain (Some OneCopy) = refl
wanted_plain (Some AtBranch) = refl

wanted_narrow : (wanted : Option Wanted) → IfSome (wanted_text wanted) (λ x. length x ≤ 1)
wanted_narrow None = tt
wanted_narrow (Some AnyCopy) = omega arith
wanted_narrow (Some OneCopy) = omega arith
wanted_narrow (Some AtBranch) = omega arith

named_writable : (v : HoldValues) → IsHoldWritable v → AreWritable (named_fields v)
named_writable v w = (
  record { two = refl; begins = refl; plain = w.institution; narrow = tt },
  (
    record { two = refl; begins = refl; plain = w.patron; narrow = tt },
    optional_writable (codes "AB") v.copy _ refl refl (given_plain v.copy w.copy) (wide v.copy)
        (optional_writable (codes "AJ") v.title _ refl refl (given_plain v.title w.title) (wide v.title)
        (cancel_writable v.cancels)),
  ),
)

hold_writable : (v : HoldValues) → IsHoldWritable v → AreWritable (hold_fields v)
hold_writable v w =
    optional_writable (codes "BW") v.expiry _ refl refl (expiry_plain v.expiry w.expiry)
    (expiry_narrow v.expiry w.expiry)
    (optional_writable (codes "BS") v.pickup _ refl refl (given_plain v.pickup w.pickup) (wide v.pickup)
    (optional_writable (codes "BY") (wanted_text v.wanted) _ refl refl (wanted_plain v.wanted)
    (wanted_narrow v.wanted)
    (named_writable v w)))

-- the first values with each identifier
hold_first : (v : HoldValues) → IsHoldWritable v → (code : List ℕ) →
    first_value (fields_text (hold_fields v)) code ≡ value_of (hold_fields v) code
hold_first v w code = written_value code (hold_fields v) (hold_writable v w)

past_wishes : (v : HoldValues) (code : List ℕ) → bytes_eq (codes "BW") code ≡ false
    → bytes_eq (codes "BS") code ≡ false → bytes_eq (codes "BY") code ≡ false
    → value_of (hold_fields v) code ≡ value_of (named_fields v) code
past_wishes v code bw bs by' =
    optional_passed (codes "BW") code v.expiry (optional (codes "BS") v.pickup
    ++ (optional (codes "BY") (wanted_text v.wanted) ++ named_fields v)) bw
    ∙ optional_passed (codes "BS") code v.pickup
    (optional (codes "BY") (wanted_text v.wanted) ++ named_fields v) bs
    ∙ optional_passed (codes "BY") code (wanted_text v.wanted) (named_fields v) by'

-- no wish stands among the other fields
not_named : (v : HoldValues) (code : List ℕ) → bytes_eq (codes "AO") code ≡ false
    → bytes_eq (codes "AA") code ≡ false → bytes_eq (codes "AB") code ≡ false
    → bytes_eq (codes "AJ") code ≡ false → bytes_eq (codes "BI") code ≡ false
    → value_of (named_fields v) code ≡ None
not_named v code ao aa ab aj bi =
    ap (λ t. if t then Some v.institution else (if bytes_eq (codes "AA") code then Some v.patron else value_of
    (optional (codes "AB") v.copy ++ (optional (codes "AJ") v.title ++ cancel v.cancels)) code)) ao
    ∙ ap (λ t. if t then Some v.patron else value_of
    (optional (codes "AB") v.copy ++ (optional (codes "AJ") v.title ++ cancel v.cancels))
    code) aa
    ∙ optional_passed (codes "AB") code v.copy (optional (codes "AJ") v.title ++ cancel v.cancels) ab
    ∙ optional_passed (codes "AJ") code v.title (cancel v.cancels) aj
    ∙ not_cancel v.cancels code bi

patron_first : (v : HoldValues) → IsHoldWritable v
    → first_value (fields_text (hold_fields v)) (codes "AA") ≡ Some v.patron
patron_first v w = hold_first v w (codes "AA") ∙ past_wishes v (codes "AA") refl refl refl

copy_first : (v : HoldValues) → IsHoldWritable v
    → filled_value (fields_text (hold_fields v)) (codes "AB") ≡ v.copy
copy_first v w =
    ap unless_empty (hold_first v w (codes "AB") ∙ past_wishes v (codes "AB") refl refl refl
    ∙ optional_found (codes "AB") v.copy (optional (codes "AJ") v.title ++ cancel v.cancels) refl
    (optional_passed (codes "AJ") (codes "AB") v.title (cancel v.cancels) refl
    ∙ not_cancel v.cancels (codes "AB") refl))
    ∙ given_kept v.copy w.copy

title_first : (v : HoldValues) → IsHoldWritable v
    → filled_value (fields_text (hold_fields v)) (codes "AJ") ≡ v.title
title_first v w =
    ap unless_empty (hold_first v w (codes "AJ") ∙ past_wishes v (codes "AJ") refl refl refl
    ∙ optional_passed (codes "AB") (codes "AJ") v.copy
    (optional (codes "AJ") v.title ++ cancel v.cancels) refl
    ∙ optional_found (codes "AJ") v.title (cancel v.cancels) refl (not_cancel v.cancels (codes "AJ") refl))
    ∙ given_kept v.title w.title

cancels_first : (v : HoldValues) → IsHoldWritable v
    → is_yes (first_value (fields_text (hold_fields v)) (codes "BI")) ≡ v.cancels
cancels_first v w =
    ap is_yes (hold_first v w (codes "BI") ∙ past_wishes v (codes "BI") refl refl refl
    ∙ optional_passed (codes "AB") (codes "BI") v.copy
    (optional (codes "AJ") v.title ++ cancel v.cancels) refl
    ∙ optional_passed (codes "AJ") (codes "BI") v.title (cancel v.cancels) refl)
    ∙ cancel_is v.cancels

expiry_first : (v : HoldValues) → IsHoldWritable v
    → expiry_of (filled_value (fields_text (hold_fields v)) (codes "BW")) ≡ v.expiry
expiry_first v w =
    let behind =
    optional (codes "BS") v.pickup ++ (optional (codes "BY") (wanted_text v.wanted) ++ named_fields v) in
    let none : value_of behind (codes "BW") ≡ None =
    optional_passed (codes "BS") (codes "BW") v.pickup
    (optional (codes "BY") (wanted_text v.wanted) ++ named_fields v) refl
    ∙ optional_passed (codes "BY") (codes "BW") (wanted_text v.wanted) (named_fields v) refl
    ∙ not_named v (codes "BW") refl refl refl refl refl in
    ap (λ x. expiry_of (unless_empty x))
    (hold_first v w (codes "BW") ∙ optional_found (codes "BW") v.expiry behind refl none)
    ∙ expiry_kept v.expiry w.expiry

pickup_first : (v : HoldValues) → IsHoldWritable v
    → filled_value (fields_text (hold_fields v)) (codes "BS") ≡ v.pickup
pickup_first v w =
    let behind = optional (codes "BY") (wanted_text v.wanted) ++ named_fields v in
    let none : value_of behind (codes "BS") ≡ None =
    optional_passed (codes "BY") (codes "BS") (wanted_text v.wanted) (named_fields v) refl
    ∙ not_named v (codes "BS") refl refl refl refl refl in
    ap unless_empty (hold_first v w (codes "BS") ∙ optional_passed (codes "BW") (codes "BS") v.expiry
    (optional (codes "BS") v.pickup ++ behind) refl ∙ optional_found (codes "BS") v.pickup behind refl none)
    ∙ given_kept v.pickup w.pickup

wanted_first : (v : HoldValues) → IsHoldWritable v
    → wanted_of (first_value (fields_text (hold_fields v)) (codes "BY")) ≡ Some v.wanted
wanted_first v w =
    let behind = optional (codes "BY") (wanted_text v.wanted) ++ named_fields v in
    ap wanted_of (hold_first v w (codes "BY")
    ∙ optional_passed (codes "BW") (codes "BY") v.expiry (optional (codes "BS") v.pickup ++ behind) refl
    ∙ optional_passed (codes "BS") (codes "BY") v.pickup behind refl
    ∙ optional_found (codes "BY") (wanted_text v.wanted) (named_fields v) refl
    (not_named v (codes "BY") refl refl refl refl refl))
    ∙ wanted_kept v.wanted

hold_width : (v : HoldValues) → IsHoldWritable v → length (hold_fixed v) ≡ 21
hold_width v w = omega (arith, w.date)

hold_date : (v : HoldValues) → IsHoldWritable v → column_of (Kinds.Desk Desks.Hold) 1 (hold_fixed v) ≡ v.date
hold_date v w = take_whole 18 v.date w.date

hold_mode : (v : HoldValues) → mode_of (byte_of (Kinds.Desk Desks.Hold) 0 (hold_fixed v)) ≡ Some v.mode
hold_mode v = mode_kept v.mode

hold_complete : (v : HoldValues) → IsHoldWritable v →
    is_incomplete (Kinds.Desk Desks.Hold) (hold_fixed v) (fields_text (hold_fields v)) ≡ false
hold_complete v w =
    let part = fields_text (hold_fields v) in
    let mode = mode_of (byte_of (Kinds.Desk Desks.Hold) 0 (hold_fixed v)) in
    let cancels = is_yes (first_value part (codes "BI")) in
    ap (λ x. (is_none x || false) || (names_nothing part || is_bad_mode part mode cancels)) (patron_first v w)
    ∙ ap (λ x. (is_none x && is_none (filled_value part (codes "AJ"))) || is_bad_mode part mode cancels)
    (copy_first v w)
    ∙ ap (λ x. (is_none v.copy && is_none x) || is_bad_mode part mode cancels) (title_first v w)
    ∙ ap (λ x. x || is_bad_mode part mode cancels) w.named
    ∙ ap (λ m. is_bad_mode part m cancels) (hold_mode v)
    ∙ ap (λ c. is_bad_mode part (Some v.mode) c) (cancels_first v w)
    ∙ ap (λ y. has_wishes v.mode v.cancels && is_bad_wish y (is_none (filled_value part (codes "AB"))))
    (wanted_first v w)
    ∙ ap (λ x. has_wishes v.mode v.cancels && (is_one_copy v.wanted && is_none x)) (copy_first v w)
    ∙ w.one_copy

-- wishes, both ways
match_map : (b : Bool) (P Q R : Type 0) → (P → Q) → MatchBool b P R → MatchBool b Q R
match_map true P Q R f h = f h
match_map false P Q R f h = h

some_mode : (a b : Mode) → Some a ≡ Some b → a ≡ b
some_mode a b h = cc

some_wanted : (a b : Option Wanted) → Some a ≡ Some b → a ≡ b
some_wanted a b h = cc

wishes_values : (v : HoldValues) → IsHoldWritable v → (wishes : Option Wishes)
    → AreWishesOf (fields_text (hold_fields v)) wishes → HasWishValues v wishes
wishes_values v w None h = h
wishes_values v w (Some wishes) h =
    (some_wanted _ _ (sym h.0 ∙ wanted_first v w), h.1 ∙ pickup_first v w, h.2 ∙ expiry_first v w)

wishes_states : (v : HoldValues) → IsHoldWritable v → (wishes : Option Wishes) → HasWishValues v wishes →
    AreWishesOf (fields_text (hold_fields v)) wishes
wishes_states v w None h = h
wishes_states v w (Some wishes) h =
    (wanted_first v w ∙ ap Some (sym h.0), h.1 ∙ sym (pickup_first v w), h.2 ∙ sym (expiry_first v w))

hold_values : (v : HoldValues) → IsHoldWritable v → (hold : HoldRequest)
    → IsHold (hold_fixed v) (fields_text (hold_fields v)) hold → HasHoldValues v hold
hold_values v w hold s =
    let part = fields_text (hold_fields v) in
    let mode : hold.mode ≡ v.mode = some_mode _ _ (sym s.mode ∙ hold_mode v) in
    let cancels : hold.cancels ≡ v.cancels = s.cancels ∙ cancels_first v w in
    let wishes : AreWishes part v.mode v.cancels hold.wishes =
    subst (λ c. AreWishes part v.mode c hold.wishes) cancels
    (subst (λ m. AreWishes part m hold.cancels hold.wishes) mode s.wishes) in
    record {
      mode = mode;
      date = s.date ∙ hold_date v w;
      patron = some_is _ _ (sym s.patron ∙ patron_first v w);
      copy = s.copy ∙ copy_first v w;
      title = s.title ∙ title_first v w;
      cancels = cancels;
      wishes = match_map (has_wishes v.mode v.cancels) (AreWishesOf part hold.wishes)
          (HasWishValues v hold.wishes) (hold.wishes ≡ None)
          (wishes_values v w hold.wishes) wishes;
    }

hold_states : (v : HoldValues) → IsHoldWritable v → (hold : HoldRequest) → HasHoldValues v hold →
    IsHold (hold_fixed v) (fields_text (hold_fields v)) hold
hold_states v w hold h =
    let part = fields_text (hold_fields v) in
    let wishes : AreWishes part v.mode v.cancels hold.wishes =
    match_map (has_wishes v.mode v.cancels) (HasWishValues v hold.wishes) (AreWishesOf part hold.wishes)
    (hold.wishes ≡ None)
    (wishes_states v w hold.wishes) h.wishes in
    record {
      mode = hold_mode v ∙ ap Some (sym h.mode);
      date = h.date ∙ sym (hold_date v w);
      patron = patron_first v w ∙ ap Some (sym h.patron);
      copy = h.copy ∙ sym (copy_first v w);
      title = h.title ∙ sym (title_first v w);
      cancels = h.cancels ∙ sym (cancels_first v w);
      wishes = subst (λ m. AreWishes part m hold.cancels hold.wishes) (sym h.mode)
          (subst (λ c. AreWishes part v.mode c hold.wishes) (sym h.cancels) wishes);
    }

-- it is read as no request of another kind
hold_apart : (v : HoldValues) → IsHoldWritable v → (request : Request)
    → IsMessage (body_of (hold_fixed v) (hold_fields v)) request
    → (Kinds.Desk Desks.Hold ≡ kind_of request → ⊥) → ⊥
hold_apart v w request h other =
    apart (Kinds.Desk Desks.Hold) (hold_fixed v) (fields_text (hold_fields v)) request
    (hold_width v w) refl h other

hold_forward : (v : HoldValues) → IsHoldWritable v → (request : Request)
    → IsRequest (body_of (hold_fixed v) (hold_fields v)) request → StatesHold v request
hold_forward v w (Login r) h = absurd (hold_apart v w (Login r) h (λ e. cc))
hold_forward v w Status h = absurd (hold_apart v w Status h (λ e. cc))
hold_forward v w (Checkout r) h = absurd (hold_apart v w (Checkout r) h (λ e. cc))
hold_forward v w (Checkin r) h = absurd (hold_apart v w (Checkin r) h (λ e. cc))
hold_forward v w (Hold r) h =
    hold_values v w r (states_of (Kinds.Desk Desks.Hold) (hold_fixed v) (fields_text (hold_fields v)) (Hold r)
    (hold_width v w) refl h).1
hold_forward v w (Renew r) h = absurd (hold_apart v w (Renew r) h (λ e. cc))
hold_forward v w (Item r) h = absurd (hold_apart v w (Item r) h (λ e. cc))
hold_forward v w Resend h = absurd (hold_apart v w Resend h (λ e. cc))
hold_forward v w Unsupported h = absurd (h (Kinds.Desk Desks.Hold) refl)

hold_backward : (v : HoldValues) → IsHoldWritable v → (request : Request) → StatesHold v request →
    IsRequest (body_of (hold_fixed v) (hold_fields v)) request
hold_backward v w (Login r) h = absurd h
hold_backward v w Status h = absurd h
hold_backward v w (Checkout r) h = absurd h
hold_backward v w (Checkin r) h = absurd h
hold_backward v w (Hold r) h =
    message_of (Kinds.Desk Desks.Hold) (hold_fixed v) (fields_text (hold_fields v)) (Hold r)
    (hold_width v w) refl (hold_complete v w)
    (refl, hold_states v w r h)
hold_backward v w (Renew r) h = absurd h
hold_backward v w (Item r) h = absurd h
hold_backward v w Resend h = absurd h
hold_backward v w Unsupported h = absurd h

pub hold_back : (v : HoldValues) → IsHoldWritable v
    → IsReadBack (body_of (hold_fixed v) (hold_fields v)) (StatesHold v)
hold_back v w request = (hold_forward v w request, hold_backward v w request)
