-- The texts of a patron message are as short as its body, and its language has three bytes.
use Rattle.std.proofs.Common.{◌≡◌, ℕ, ◌≤◌, ◌||◌, Bool, true, false, List, Option, Some, None, Result, Ok, Err}
use Rattle.std.proofs.Common.{codes}
use Rattle.std.proofs.Common.{arith, refl, sym, ap, ◌∙◌, length, drop, nat_lt, slice_range, subst}
use Rattle.std.proofs.Common.{if◌then◌else◌}
use Rattle.std.proofs.lemmas.List.{length-drop, length-take-le}
use Rattle.std.proofs.lemmas.Option.{same_Some}
use Rattle.std.specs.Option.{ForSome}
use Rattle.hd_message.specs.Lengths.{bytes_of}
use Rattle.hd_message.specs.PatronReading.{IsPatronMessage, IsReading, IsUnreadablePatron, StatesPatron}
use Rattle.hd_message.specs.PatronReading.{is_unreadable_patron}
use Rattle.hd_message.specs.PatronTable.{has_language, language_in, patron_fields, patron_fixed, patron_width}
use Rattle.hd_message.specs.Repeated.{patron_bytes, unreadable_patron_bytes}
use Rattle.hd_message.specs.Values.{lacks}
use Rattle.hd_message.specs.declared.patron_kind.PatronKind.{PatronKind}
use Rattle.hd_message.specs.declared.patron_reading.Reading.TheVariants as Read
use Rattle.hd_message.specs.declared.patron_request.PatronRequest.{PatronRequest}
use Rattle.hd_message.specs.declared.patron_request.PatronRequest.TheVariants as Of
use Rattle.hd_message.specs.declared.patron_request.UnreadablePatron.{UnreadablePatron}
use Rattle.hd_message.specs.declared.profile.Profile.{Profile}
use Rattle.hd_catalogue.specs.Contents.{Contents}
use Rattle.hd_exchange.specs.PatronMessages.{AreShortTexts, patron_states, request_states}

-- a slice of three bytes of a text that has them
three : (xs : List ℕ) → 5 ≤ length xs → length (slice_range xs 2 5) ≡ 3
three xs long = length-take-le 3 (drop 2 xs) (omega (arith, length-drop 2 xs, long))

-- what holds of a value, and where there is none
for_some : (P : List ℕ → Type 0) (a : List ℕ) → P a → ForSome (Some a) P
for_some P a h = λ x same. subst P (same_Some _ _ same) h

for_none : (P : List ℕ → Type 0) → ForSome None P
for_none P = λ x same. absurd
    (let none : (let o : Option (List ℕ) = None in o ≡ Some x) = same in let never : ⊥ = cc in never)

-- the fixed part of a message that can be read is whole
whole : (kind : PatronKind) (body : List ℕ) → is_unreadable_patron kind body ≡ false
    → patron_width kind ≤ length body
whole kind body readable = by_tests (nat_lt (length body) (patron_width kind)) refl readable
  where
    by_tests : (short : Bool) → nat_lt (length body) (patron_width kind) ≡ short
        → (short || lacks (patron_fields kind body) (codes "AA")) ≡ false → patron_width kind ≤ length body
    by_tests true is read = absurd (let never : true ≡ false = read in cc)
    by_tests false is read = grind arith

module _ (body : List ℕ) (kind : PatronKind) (readable : is_unreadable_patron kind body ≡ false) where
  language_of : (width : ℕ) → patron_width kind ≡ width → 5 ≤ width → (language : List ℕ)
      → language ≡ slice_range (patron_fixed kind body) 2 5 → length language ≡ 3
  language_of width is long language at =
      let here : patron_width kind ≤ length body = whole kind body readable in
      let fixed : length (patron_fixed kind body)
      ≡ patron_width kind = length-take-le (patron_width kind) body here in
      ap (λ (l : List ℕ). length l) at ∙ three (patron_fixed kind body) (omega (arith, fixed, is, long))

  request_language : (k : Contents) (request : PatronRequest)
      → StatesPatron kind (patron_fixed kind body) (patron_fields kind body) request
      → ForSome (request_states k request).language (λ language. length language ≡ 3)
  request_language k (Of.Status r) states =
      for_some (λ language. length language ≡ 3) r.language.now
      (language_of 23 (ap (λ (d : PatronKind). patron_width d) states.0) (omega arith) r.language.now
      states.1.language)
  request_language k (Of.Information r) states =
      for_some (λ language. length language ≡ 3) r.language.now
      (language_of 33 (ap (λ (d : PatronKind). patron_width d) states.0) (omega arith) r.language.now
      states.1.language)
  request_language k (Of.EndSession r) states = for_none (λ language. length language ≡ 3)
  request_language k (Of.Block r) states = for_none (λ language. length language ≡ 3)
  request_language k (Of.FeePaid r) states = for_none (λ language. length language ≡ 3)
  request_language k (Of.RenewAll r) states = for_none (λ language. length language ≡ 3)

request_patron : (k : Contents) (request : PatronRequest) → patron_bytes request ≤ 1024
    → bytes_of (request_states k request).patron ≤ 1024
request_patron k (Of.Status r) few = few
request_patron k (Of.Information r) few = few
request_patron k (Of.EndSession r) few = few
request_patron k (Of.Block r) few = few
request_patron k (Of.FeePaid r) few = few
request_patron k (Of.RenewAll r) few = few

unread_language : (kind : PatronKind) (body : List ℕ)
    → ForSome (language_in kind body) (λ language. length language ≡ 3)
unread_language kind body = by_tests (has_language kind) (nat_lt (length body) 5) refl
  where
    by_tests : (has short : Bool) → nat_lt (length body) 5 ≡ short
        → ForSome (if has then (if short then None else Some (slice_range body 2 5)) else None)
        (λ language. length language ≡ 3)
    by_tests false short is = for_none (λ language. length language ≡ 3)
    by_tests true true is = for_none (λ language. length language ≡ 3)
    by_tests true false is =
        let long : 5 ≤ length body = grind arith in
        for_some (λ language. length language ≡ 3) (slice_range body 2 5) (three body long)

pub short_texts : (k : Contents) (profile : Profile) (body : List ℕ)
    (read : Result PatronRequest UnreadablePatron)
    → ((request : PatronRequest) → IsPatronMessage body request → patron_bytes request ≤ length body)
    → ((message : UnreadablePatron) → IsUnreadablePatron body message
    → unreadable_patron_bytes message ≤ length body)
    → length body ≤ 1024 → IsReading profile body (Read.Patron read) → AreShortTexts (patron_states k read)
short_texts k profile body (Ok request) fits unread short is = record {
  language = request_language body is.1.kind is.1.readable k request is.1.states;
  patron = request_patron k request (let few = fits request is.1 in omega (arith, few, short));
}
short_texts k profile body (Err message) fits unread short is = record {
  language =
      subst (λ (l : Option (List ℕ)). ForSome l (λ language. length language ≡ 3)) (sym is.2.language)
      (unread_language message.kind body);
  patron = let few = unread message is.2 in omega (arith, few, short);
}
