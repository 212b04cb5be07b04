-- Each part of a reply's head is of its class.
use Rattle.std.proofs.Common.{◌≡◌, ℕ, ◌+◌, ◌%◌, ◌<◌, ◌≤◌, ◌^◌, true, List, [], ◌∷◌, ◌++◌, length, refl}
use Rattle.std.proofs.Common.{arith, All, IsTrue, codes, decimal, lit<, lit≤}
use Rattle.std.specs.List.{list_all, AllPass}
use Rattle.std.specs.Char.{is_ascii_digit}
use Rattle.std.proofs.lemmas.Grind.{common_steps}
use Rattle.std.proofs.lemmas.List.Elements.{All-cons, All-nil, All-append}
use Rattle.std.proofs.lemmas.List.Sums.{AllPass-from_list_all}
use Rattle.std.proofs.lemmas.Fmt.{decimal_by_steps}
use Rattle.httparse.specs.Grammar.{Field, IsField, is_token_byte, is_value_byte, IsResponseHead}
use Rattle.hd_http.specs.declared.reply.Status.{Status}
use Rattle.hd_http.specs.declared.reply.Status.TheVariants.{Ok, Accepted, BadRequest, Forbidden, NotFound, OnlyRead}
use Rattle.hd_http.specs.declared.reply.Status.TheVariants.{OnlyPosted, TooLarge, FieldsTooLarge, Unavailable}
use Rattle.hd_http.specs.declared.reply.Media.{Media}
use Rattle.hd_http.specs.declared.reply.Media.TheVariants.{Html, Json, Metrics, Plain}
use Rattle.hd_http.specs.Replies.{media_text}
use Rattle.hd_http.specs.Heads.{field, digits_of, phrase_of, allow_of, policy_field, fixed_fields, head_of}

-- a byte of a value, as a fact
abbrev Fine : ℕ → Type 0
Fine b = IsTrue (is_value_byte b)

digit_is_fine : (b : ℕ) → 48 ≤ b → b ≤ 57 → is_value_byte b ≡ true
digit_is_fine b low high = grind (arith, common_steps)

decimal_is_fine : (n : ℕ) → n < 2 ^ 64 → All Fine (decimal n)
decimal_is_fine n small =
    let P : ℕ → List ℕ → Type 0 = λ n ds. All Fine ds in
    decimal_by_steps P
    (λ n one. All-cons Fine (48 + n) [] (digit_is_fine (48 + n) (omega arith) (omega arith)) (All-nil Fine))
    (λ n ds more front. All-append Fine ds ((48 + n % 10) ∷ []) front
    (All-cons Fine (48 + n % 10) [] (digit_is_fine (48 + n % 10) (omega arith) (omega arith)) (All-nil Fine)))
    n small

-- a field whose name and value are known, and one whose name is
plain_field : (name value : List ℕ) → 0 < length name → list_all is_token_byte name ≡ true
    → list_all is_value_byte (32 ∷ value) ≡ true → IsField (field name value)
plain_field name value some token fine = record {
  name = (some, AllPass-from_list_all is_token_byte name token);
  raw = AllPass-from_list_all is_value_byte (32 ∷ value) fine;
}

named_field : (name value : List ℕ) → 0 < length name → list_all is_token_byte name ≡ true
    → All Fine value → IsField (field name value)
named_field name value some token fine = record {
  name = (some, AllPass-from_list_all is_token_byte name token);
  raw = All-cons Fine 32 value refl fine;
}

length_field : (n : ℕ) → n < 2 ^ 64 → IsField (field (codes "Content-Length") (decimal n))
unfolding is_token_byte
length_field n small = named_field (codes "Content-Length") (decimal n) (lit< tt) refl
    (decimal_is_fine n small)

is_policy_field : (policy : List ℕ) → AllPass is_value_byte policy → IsField (policy_field policy)
unfolding is_token_byte
is_policy_field policy fine = named_field (codes "Content-Security-Policy") policy (lit< tt) refl fine

type_field : (m : Media) → IsField (field (codes "Content-Type") (media_text m))
unfolding is_token_byte
type_field Html = plain_field (codes "Content-Type") (media_text Html) (lit< tt) refl refl
type_field Json = plain_field (codes "Content-Type") (media_text Json) (lit< tt) refl refl
type_field Metrics = plain_field (codes "Content-Type") (media_text Metrics) (lit< tt) refl refl
type_field Plain = plain_field (codes "Content-Type") (media_text Plain) (lit< tt) refl refl

allow_field : (methods : List ℕ) → list_all is_value_byte (32 ∷ methods) ≡ true
    → All IsField (field (codes "Allow") methods ∷ [])
unfolding is_token_byte
allow_field methods fine =
    All-cons IsField (field (codes "Allow") methods) []
    (plain_field (codes "Allow") methods (lit< tt) refl fine) (All-nil IsField)

allow_fields : (status : Status) → All IsField (allow_of status)
allow_fields Ok = All-nil IsField
allow_fields Accepted = All-nil IsField
allow_fields BadRequest = All-nil IsField
allow_fields Forbidden = All-nil IsField
allow_fields NotFound = All-nil IsField
allow_fields OnlyRead = allow_field (codes "GET, HEAD") refl
allow_fields OnlyPosted = allow_field (codes "POST") refl
allow_fields TooLarge = All-nil IsField
allow_fields FieldsTooLarge = All-nil IsField
allow_fields Unavailable = All-nil IsField

abbrev cache : Field
cache = field (codes "Cache-Control") (codes "no-store")

abbrev sniffing : Field
sniffing = field (codes "X-Content-Type-Options") (codes "nosniff")

abbrev referrer : Field
referrer = field (codes "Referrer-Policy") (codes "no-referrer")

abbrev closing : Field
closing = field (codes "Connection") (codes "close")

are_fixed_fields : All IsField fixed_fields
unfolding is_token_byte
are_fixed_fields =
    All-cons IsField cache (sniffing ∷ referrer ∷ closing ∷ [])
    (plain_field (codes "Cache-Control") (codes "no-store") (lit< tt) refl refl)
    (All-cons IsField sniffing (referrer ∷ closing ∷ [])
    (plain_field (codes "X-Content-Type-Options") (codes "nosniff") (lit< tt) refl refl)
    (All-cons IsField referrer (closing ∷ [])
    (plain_field (codes "Referrer-Policy") (codes "no-referrer") (lit< tt) refl refl)
    (All-cons IsField closing [] (plain_field (codes "Connection") (codes "close") (lit< tt) refl refl)
    (All-nil IsField))))

head_digits : (status : Status) → (length (digits_of status) ≡ 3) × AllPass is_ascii_digit (digits_of status)
head_digits Ok = (refl, AllPass-from_list_all is_ascii_digit (codes "200") refl)
head_digits Accepted = (refl, AllPass-from_list_all is_ascii_digit (codes "202") refl)
head_digits BadRequest = (refl, AllPass-from_list_all is_ascii_digit (codes "400") refl)
head_digits Forbidden = (refl, AllPass-from_list_all is_ascii_digit (codes "403") refl)
head_digits NotFound = (refl, AllPass-from_list_all is_ascii_digit (codes "404") refl)
head_digits OnlyRead = (refl, AllPass-from_list_all is_ascii_digit (codes "405") refl)
head_digits OnlyPosted = (refl, AllPass-from_list_all is_ascii_digit (codes "405") refl)
head_digits TooLarge = (refl, AllPass-from_list_all is_ascii_digit (codes "413") refl)
head_digits FieldsTooLarge = (refl, AllPass-from_list_all is_ascii_digit (codes "431") refl)
head_digits Unavailable = (refl, AllPass-from_list_all is_ascii_digit (codes "503") refl)

head_phrase : (status : Status) → AllPass is_value_byte (phrase_of status)
head_phrase Ok = AllPass-from_list_all is_value_byte (phrase_of Ok) refl
head_phrase Accepted = AllPass-from_list_all is_value_byte (phrase_of Accepted) refl
head_phrase BadRequest = AllPass-from_list_all is_value_byte (phrase_of BadRequest) refl
head_phrase Forbidden = AllPass-from_list_all is_value_byte (phrase_of Forbidden) refl
head_phrase NotFound = AllPass-from_list_all is_value_byte (phrase_of NotFound) refl
head_phrase OnlyRead = AllPass-from_list_all is_value_byte (phrase_of OnlyRead) refl
head_phrase OnlyPosted = AllPass-from_list_all is_value_byte (phrase_of OnlyPosted) refl
head_phrase TooLarge = AllPass-from_list_all is_value_byte (phrase_of TooLarge) refl
head_phrase FieldsTooLarge = AllPass-from_list_all is_value_byte (phrase_of FieldsTooLarge) refl
head_phrase Unavailable = AllPass-from_list_all is_value_byte (phrase_of Unavailable) refl

-- each part of the head is of its class
pub whole_head : (policy : List ℕ) (status : Status) (media : Media) (len : ℕ) → AllPass is_value_byte policy
    → len < 2 ^ 64 → IsResponseHead (head_of policy status media len)
unfolding head_of
whole_head policy status media len fine small = record {
  minor = lit≤ tt;
  digits = head_digits status;
  reason = head_phrase status;
  fields = All-cons IsField (field (codes "Content-Type") (media_text media))
      (field (codes "Content-Length") (decimal len)
      ∷ (allow_of status ++ (policy_field policy ∷ fixed_fields)))
      (type_field media)
      (All-cons IsField (field (codes "Content-Length") (decimal len))
      (allow_of status ++ (policy_field policy ∷ fixed_fields)) (length_field len small)
      (All-append IsField (allow_of status) (policy_field policy ∷ fixed_fields) (allow_fields status)
      (All-cons IsField (policy_field policy) fixed_fields (is_policy_field policy fine) are_fixed_fields)));
}
