-- The values that a reply repeats lie side by side in the body of their message.
use Rattle.std.proofs.Common.{◌≡◌, ℕ, zero, suc, ◌+◌, ◌-◌, ◌≤◌, ◌==◌, cond, Bool, true, false, Option, None}
use Rattle.std.proofs.Common.{Some, List, [], ◌∷◌, codes}
use Rattle.std.proofs.Common.{length, take, refl, sym, ap, subst, ◌∙◌, arith, length-drop, if◌then◌else◌}
use Rattle.std.proofs.lemmas.List.{length-take}
use Rattle.std.proofs.lemmas.Slice.Eq.{bytes_eq-Decides}
use Rattle.std.specs.List.{find}
use Rattle.std.specs.Option.{option_map}
use Rattle.std.specs.Str.{bytes_eq}
use Rattle.hd_field.specs.Fields.{Occurrence, fields_at, fields_of, has_code, value_end}
use Rattle.hd_field.specs.declared.occurrences.TheConstants.{BAR}
use Rattle.hd_message.specs.Lengths.{bytes_of}
use Rattle.hd_message.specs.Reading.{IsMessage, IsRequest, IsUnreadable}
use Rattle.hd_message.specs.PatronReading.{IsPatronMessage, IsUnreadablePatron}
use Rattle.hd_message.specs.PatronTable.{patron_fields, patron_width}
use Rattle.hd_message.specs.Repeated.{patron_bytes, readable_bytes, repeated_bytes, unreadable_patron_bytes}
use Rattle.hd_message.specs.Table.{fields_part, fixed_width}
use Rattle.hd_message.specs.Values.{first_value, unless_empty}
use Rattle.hd_message.specs.declared.kind.Kind.{Kind}
use Rattle.hd_message.specs.declared.kind.Kind.TheVariants as Kinds
use Rattle.hd_message.specs.declared.request.Request.{Request}
use Rattle.hd_message.specs.declared.request.Request.TheVariants.{Login, Status, Checkout, Checkin, Hold}
use Rattle.hd_message.specs.declared.request.Request.TheVariants.{Renew, Item, Resend, Unsupported}
use Rattle.hd_message.specs.declared.patron_kind.PatronKind.{PatronKind}
use Rattle.hd_message.specs.declared.patron_request.PatronRequest.{PatronRequest}
use Rattle.hd_message.specs.declared.patron_request.PatronRequest.TheVariants as Patrons
use Rattle.hd_message.specs.declared.patron_request.UnreadablePatron.{UnreadablePatron}
use Rattle.hd_message.specs.declared.unreadable.Unreadable.{Unreadable}
use Rattle.hd_message.specs.declared.unreadable.Unreadable.TheVariants as Unread

-- the bytes of all values
abbrev all_bytes : List Occurrence → ℕ
all_bytes [] = 0
all_bytes (o ∷ os) = length o.value + all_bytes os

-- the bytes of the first value with an identifier
abbrev first_bytes : List ℕ → List Occurrence → ℕ
first_bytes code os = bytes_of (option_map (λ (o : Occurrence). o.value) (find (has_code code) os))

-- of one field, whose identifier is at most one of three
abbrev bytes_where : Bool → Occurrence → ℕ → ℕ
bytes_where found o later = if found then length o.value else later

first_step : (found : Bool) (o : Occurrence) (os : List Occurrence) (code : List ℕ) →
    bytes_of (option_map (λ (x : Occurrence). x.value) (cond found (Some o) (find (has_code code) os)))
    ≡ bytes_where found o (first_bytes code os)
first_step true o os code = refl
first_step false o os code = refl

three_step : (a b c : Bool) (o : Occurrence) (x y z n : ℕ) → (a ≡ true → b ≡ false)
    → (a ≡ true → c ≡ false) → (b ≡ true → c ≡ false) → x + y + z ≤ n
    → bytes_where a o x + bytes_where b o y + bytes_where c o z ≤ length o.value + n
three_step true true c o x y z n ab ac bc h = absurd (cc (ab refl))
three_step true false true o x y z n ab ac bc h = absurd (cc (ac refl))
three_step true false false o x y z n ab ac bc h = omega (arith, h)
three_step false true true o x y z n ab ac bc h = absurd (cc (bc refl))
three_step false true false o x y z n ab ac bc h = omega (arith, h)
three_step false false true o x y z n ab ac bc h = omega (arith, h)
three_step false false false o x y z n ab ac bc h = omega (arith, h)

-- a text is one of two only where they are one
one_text : (text a b : List ℕ) → bytes_eq a b ≡ false → bytes_eq text a ≡ true → bytes_eq text b ≡ false
one_text text a b apart same =
    let is : text ≡ a = (bytes_eq-Decides text a).0 same in
    subst (λ t. bytes_eq t b ≡ false) (sym is) apart

-- the first values with three identifiers are values of three fields
three_values : (a b c : List ℕ) (os : List Occurrence) → bytes_eq a b ≡ false → bytes_eq a c ≡ false
    → bytes_eq b c ≡ false → first_bytes a os + first_bytes b os + first_bytes c os ≤ all_bytes os
three_values a b c [] ab ac bc = omega arith
three_values a b c (o ∷ os) ab ac bc =
    omega (
      arith,
      first_step (has_code a o) o os a,
      first_step (has_code b o) o os b,
      first_step (has_code c o) o os c,
      three_step (has_code a o) (has_code b o) (has_code c o) o _ _ _ _ (one_text o.code a b ab)
          (one_text o.code a c ac)
          (one_text o.code b c bc) (three_values a b c os ab ac bc),
    )

-- each value has bytes of its own
one_more : (test : Bool) (o : Occurrence) (past behind : List Occurrence) (end n : ℕ) → length o.value ≤ end
    → length o.value ≤ n → all_bytes past ≤ suc n → all_bytes behind ≤ suc n - suc end
    → all_bytes (if test then past else o ∷ behind) ≤ suc (suc n)
one_more true o past behind end n e v p h = omega (arith, p)
one_more false o past behind end n e v p h = omega (arith, h)

own_bytes : (skip at : ℕ) (bytes : List ℕ) → all_bytes (fields_at skip at bytes) ≤ length bytes - skip
unfolding fields_at
own_bytes skip at [] = omega arith
own_bytes (suc skip) at (b ∷ bytes) = omega (arith, own_bytes skip (at + 1) bytes)
own_bytes zero at (b ∷ []) = omega arith
own_bytes zero at (b ∷ c ∷ bytes) =
    let end = value_end (b ∷ c ∷ []) bytes in
    let value : length (take end bytes) ≤ end = omega (arith, length-take end bytes) in
    let within : length (take end bytes) ≤ length bytes = omega (arith, length-take end bytes) in
    let past : all_bytes (fields_at 0 (at + 1) (c ∷ bytes)) ≤ suc (length bytes) =
    omega (arith, own_bytes 0 (at + 1) (c ∷ bytes)) in
    let all : all_bytes (if b == BAR then fields_at 0 (at + 1) (c ∷ bytes) else record
    { code = b ∷ c ∷ []; value = take end bytes; at = at + 2 } ∷ fields_at (suc end) (at + 1) (c ∷ bytes))
    ≤ suc (suc (length bytes)) =
    one_more (b == BAR) _ _ _ end (length bytes) value within past
    (own_bytes (suc end) (at + 1) (c ∷ bytes)) in
    omega (arith, all)

-- the patron, the copy and the title of a part
part_values : (kind : Kind) (body : List ℕ) →
    let part = fields_part kind body in
    bytes_of (first_value part (codes "AA")) + bytes_of (first_value part (codes "AB"))
    + bytes_of (first_value part (codes "AJ"))
    ≤ length body
part_values kind body =
    let part = fields_part kind body in
    omega (
      arith,
      three_values (codes "AA") (codes "AB") (codes "AJ") (fields_of part) refl refl refl,
      own_bytes 0 0 part,
      length-drop (fixed_width kind) body,
    )

-- an empty value that counts as absent has no bytes either
filled_bytes : (value : Option (List ℕ)) → bytes_of (unless_empty value) ≡ bytes_of value
filled_bytes None = refl
filled_bytes (Some []) = refl
filled_bytes (Some (b ∷ bytes)) = refl

-- a value that is there
given_bytes : (found : Option (List ℕ)) (value : List ℕ) → found ≡ Some value → bytes_of found ≡ length value
given_bytes found value h = ap bytes_of h

-- a request
message_bytes : (body : List ℕ) (request : Request) → IsMessage body request
    → repeated_bytes request ≤ length body
message_bytes body (Login r) m = omega arith
message_bytes body Status m = omega arith
message_bytes body (Checkout r) m =
    let s = m.states.1 in
    omega
    (arith, given_bytes _ r.patron.now s.patron, given_bytes _ r.copy.now s.copy, part_values m.kind body)
message_bytes body (Checkin r) m =
    let s = m.states.1 in
    omega (arith, given_bytes _ r.copy.now s.copy, part_values m.kind body)
message_bytes body (Hold r) m =
    let s = m.states.1 in
    let part = fields_part m.kind body in
    omega (
      arith,
      given_bytes _ r.patron.now s.patron,
      ap bytes_of s.copy ∙ filled_bytes (first_value part (codes "AB")),
      ap bytes_of s.title ∙ filled_bytes (first_value part (codes "AJ")),
      part_values m.kind body,
    )
message_bytes body (Renew r) m =
    let s = m.states.1 in
    omega
    (arith, given_bytes _ r.patron.now s.patron, given_bytes _ r.copy.now s.copy, part_values m.kind body)
message_bytes body (Item r) m =
    let s = m.states.1 in
    omega (arith, given_bytes _ r.copy.now s.copy, part_values m.kind body)
message_bytes body Resend m = omega arith
message_bytes body Unsupported m = omega arith

pub request_bytes : (body : List ℕ) (request : Request) → IsRequest body request
    → repeated_bytes request ≤ length body
request_bytes body (Login r) h = message_bytes body (Login r) h
request_bytes body Status h = message_bytes body Status h
request_bytes body (Checkout r) h = message_bytes body (Checkout r) h
request_bytes body (Checkin r) h = message_bytes body (Checkin r) h
request_bytes body (Hold r) h = message_bytes body (Hold r) h
request_bytes body (Renew r) h = message_bytes body (Renew r) h
request_bytes body (Item r) h = message_bytes body (Item r) h
request_bytes body Resend h = message_bytes body Resend h
request_bytes body Unsupported h = omega arith

-- a message that can't be read
pub unreadable_bytes : (body : List ℕ) (message : Unreadable) → IsUnreadable body message
    → readable_bytes message ≤ length body
unreadable_bytes body Unread.Login u = omega arith
unreadable_bytes body (Unread.Desk message) u =
    let part = fields_part (Kinds.Desk message.kind) body in
    omega (
      arith,
      ap bytes_of u.patron,
      ap bytes_of u.copy ∙ filled_bytes (first_value part (codes "AB")),
      ap bytes_of u.title ∙ filled_bytes (first_value part (codes "AJ")),
      part_values (Kinds.Desk message.kind) body,
    )

-- the patron of a patron message
patron_value : (kind : PatronKind) (body : List ℕ)
    → bytes_of (first_value (patron_fields kind body) (codes "AA")) ≤ length body
patron_value kind body =
    let part = patron_fields kind body in
    omega (
      arith,
      three_values (codes "AA") (codes "AB") (codes "AJ") (fields_of part) refl refl refl,
      own_bytes 0 0 part,
      length-drop (patron_width kind) body,
    )

pub patron_request_bytes : (body : List ℕ) (request : PatronRequest) → IsPatronMessage body request
    → patron_bytes request ≤ length body
patron_request_bytes body (Patrons.Status r) m =
    omega (arith, given_bytes _ r.patron.now m.states.1.patron, patron_value m.kind body)
patron_request_bytes body (Patrons.Information r) m =
    omega (arith, given_bytes _ r.patron.now m.states.1.patron, patron_value m.kind body)
patron_request_bytes body (Patrons.EndSession r) m =
    omega (arith, given_bytes _ r.patron.now m.states.1.patron, patron_value m.kind body)
patron_request_bytes body (Patrons.Block r) m =
    omega (arith, given_bytes _ r.patron.now m.states.1.patron, patron_value m.kind body)
patron_request_bytes body (Patrons.FeePaid r) m =
    omega (arith, given_bytes _ r.patron.now m.states.1.patron, patron_value m.kind body)
patron_request_bytes body (Patrons.RenewAll r) m =
    omega (arith, given_bytes _ r.patron.now m.states.1.patron, patron_value m.kind body)

pub unreadable_patron_fits : (body : List ℕ) (message : UnreadablePatron) → IsUnreadablePatron body message →
    unreadable_patron_bytes message ≤ length body
unreadable_patron_fits body message u = omega (arith, ap bytes_of u.patron, patron_value message.kind body)
