-- A request by which a question is asked is read.
use Rattle.std.proofs.Common.{◌≡◌, ◌∙◌, ◌+◌, ◌%◌, ◌<◌, ◌^◌, ◌||◌, ap, refl, sym, arith, true, false, Bool}
use Rattle.std.proofs.Common.{ℕ, decimal}
use Rattle.std.proofs.Common.{List, [], ◌∷◌, ◌++◌, length, All, IsTrue, append_assoc, append-nil, codes}
use Rattle.std.proofs.Common.{lit<, lit≤}
use Rattle.std.specs.List.{list_all, AllPass}
use Rattle.std.proofs.lemmas.Bool.{agree_below, agree_below_at}
use Rattle.std.proofs.lemmas.Grind.{common_steps}
use Rattle.std.proofs.lemmas.Fmt.{decimal_by_steps}
use Rattle.std.proofs.lemmas.List.Elements.{All-cons, All-head, All-nil, All-tail, All-weaker}
use Rattle.std.proofs.lemmas.List.Folds.{list_all-append}
use Rattle.std.proofs.lemmas.List.Sums.{AllPass-from_list_all}
use Rattle.std.proofs.lemmas.Str.Ascii.{IsAscii-from_all}
use Rattle.std.proofs.lemmas.Str.{IsUtf8-from_ascii}
use Rattle.percent_encoding.specs.AsciiSet.{should_percent_encode}
use Rattle.percent_encoding.specs.Percent.{percent_encode}
use Rattle.percent_encoding.proofs.AsciiSetLemmas.{ascii_from_kept}
use Rattle.percent_encoding.proofs.OnLiterals.{percent_encoding_on_literals}
use Rattle.percent_encoding.proofs.PercentLemmas.{All-percent_encode, IsEscapeByte}
use Rattle.httparse.specs.Grammar.{Field, IsField, ReadsRequest, is_token_byte, is_uri_byte, is_value_byte}
use Rattle.httparse.specs.Grammar.{print_request}
use Rattle.hd_lists.specs.declared.asking.TheConstants.{ESCAPED}
use Rattle.hd_lists.specs.declared.list.KeyKind.{KeyKind}
use Rattle.hd_lists.specs.declared.list.KeyKind.TheVariants as by
use Rattle.hd_lists.specs.declared.question.Key.{Key}
use Rattle.hd_lists.specs.declared.question.Key.TheVariants.{Name, Day, Number, Whole, Most}
use Rattle.hd_lists.specs.declared.question.Question.{Question}
use Rattle.hd_lists.specs.Asking.{IsOf, IsProper, rest_text, query_text, target_text}
use Rattle.hd_lists.specs.Lists.{folder_of, key_of, part_of}
use Rattle.hd_lists.proofs.Sound.{are_plain, is_plain, sound}
use Rattle.hd_lists.specs.Requests.{field, head_of, request_text}

plain_digit : (m : ℕ) → m < 10 → is_plain (48 + m) ≡ true
plain_digit m small = grind (arith, common_steps)

plain_number : (n : ℕ) → n < 2 ^ 64 → are_plain (decimal n) ≡ true
plain_number = decimal_by_steps (λ m ds. are_plain ds ≡ true)
    (λ m small. let one = plain_digit m small in rw one refl)
    (λ m ds many all. let one = plain_digit (m % 10) (omega arith) in
    list_all-append _ ds ((48 + m % 10) ∷ []) ∙ rw (all, one) refl)

plain_both : (front rest : List ℕ) → are_plain front ≡ true → are_plain rest ≡ true
    → are_plain (front ++ rest) ≡ true
plain_both front rest one other = list_all-append _ front rest ∙ rw (one, other) refl

kept_or_not : agree_below (λ b. should_percent_encode ESCAPED b || is_plain b) (λ b. true) 128 ≡ true
unfolding percent_encoding_on_literals
kept_or_not = refl

plain_kept : (b : ℕ) → should_percent_encode ESCAPED b ≡ false → is_plain b ≡ true
plain_kept b kept =
    ap (λ (t : Bool). t || is_plain b) (sym kept)
    ∙ agree_below_at (λ b. should_percent_encode ESCAPED b || is_plain b) (λ b. true) 128 b kept_or_not
    (ascii_from_kept ESCAPED b kept)

plain_escape : (b : ℕ) → IsEscapeByte b → is_plain b ≡ true
plain_escape b escape = grind (arith, common_steps)

plain_all : (bytes : List ℕ) → All (λ b. is_plain b ≡ true) bytes → are_plain bytes ≡ true
plain_all [] all = refl
plain_all (b ∷ bytes) all =
    let one = All-head (λ b. is_plain b ≡ true) b bytes all in
    let more = plain_all bytes (All-tail (λ b. is_plain b ≡ true) b bytes all) in
    rw (one, more) refl

plain_escaped : (bytes : List ℕ) → are_plain (percent_encode ESCAPED bytes) ≡ true
plain_escaped bytes =
    plain_all _ (All-percent_encode (λ b. is_plain b ≡ true) ESCAPED bytes plain_kept plain_escape)

-- the rest of a target, after the folder, is plain
plain_rest : (part : List ℕ) → are_plain part ≡ true → (kind : KeyKind) (key : Key (List ℕ)) (after : ℕ)
    → IsOf kind key after → are_plain (rest_text key part ++ query_text key after) ≡ true
plain_rest part fine (by.Name k) (Name name) after fits =
    plain_both (rest_text (Name name) part) (query_text (Name name) after)
    (plain_both (percent_encode ESCAPED name) part (plain_escaped name) fine)
    (plain_number after (omega (arith, fits.1)))
plain_rest part fine by.Day (Day day) after fits =
    plain_both (percent_encode ESCAPED day) _ (plain_escaped day) (plain_number after (omega (arith, fits.1)))
plain_rest part fine by.Number (Number number) after fits =
    plain_both (rest_text (Number number) part) []
    (plain_both (decimal number) part (plain_number number (omega (arith, fits.0))) fine) refl
plain_rest part fine by.Whole Whole after fits = plain_number after (omega (arith, fits))
plain_rest part fine by.Most (Most most) after fits =
    plain_both (decimal after) _ (plain_number after (omega (arith, fits.2)))
    (plain_number most (omega (arith, fits.1)))
plain_rest part fine kind key after fits = absurd fits

plain_target : (q : Question (List ℕ)) → IsProper q → are_plain (target_text q) ≡ true
plain_target q proper =
    plain_both (folder_of q.list) _ (sound q.list).5
    (plain_rest (part_of q.list) (sound q.list).6 (key_of q.list) q.key q.after proper)

plain_field : (name value : List ℕ) → 0 < length name → list_all is_token_byte name ≡ true
    → list_all is_value_byte (32 ∷ value) ≡ true → IsField (field name value)
plain_field name value some token fine = record {
  name = (some, AllPass-from_list_all is_token_byte name token);
  raw = AllPass-from_list_all is_value_byte (32 ∷ value) fine;
}

abbrev host : Field
host = field (codes "Host") (codes "holddesk")

abbrev closing : Field
closing = field (codes "Connection") (codes "close")

fields_read : All IsField (host ∷ closing ∷ [])
unfolding is_token_byte
fields_read =
    All-cons IsField host (closing ∷ []) (plain_field (codes "Host") (codes "holddesk") (lit< tt) refl refl)
    (All-cons IsField closing [] (plain_field (codes "Connection") (codes "close") (lit< tt) refl refl)
    (All-nil IsField))

method_read : (0 < 3) × AllPass is_token_byte (codes "GET")
unfolding is_token_byte
method_read = (lit< tt, AllPass-from_list_all is_token_byte (codes "GET") refl)

pieces : (g t v e s : List ℕ) → g ++ (t ++ (v ++ (e ++ s))) ≡ ((((g ++ t) ++ v) ++ e) ++ s) ++ []
pieces g t v e s = simp (append_assoc, append-nil)

printed : (q : Question (List ℕ)) → request_text q ≡ print_request (head_of q) ++ []
unfolding print_request
printed q =
    pieces (codes "GET ") (target_text q) (codes " HTTP/1.1") (codes "\r\n")
    (codes "Host: holddesk\r\nConnection: close\r\n\r\n")

uri_byte : (b : ℕ) → IsTrue (is_plain b) → IsTrue (is_uri_byte b)
uri_byte b plain = grind (arith, common_steps)

small_byte : (b : ℕ) → IsTrue (is_plain b) → b < 128
small_byte b plain = grind (arith, common_steps)

pub is_read : (q : Question (List ℕ)) → IsProper q → ReadsRequest (request_text q) (head_of q) []
is_read q proper =
    let plain = AllPass-from_list_all is_plain (target_text q) (plain_target q proper) in (
      record {
        method = method_read;
        target = (
          omega arith,
          All-weaker (λ b. IsTrue (is_plain b)) (λ b. IsTrue (is_uri_byte b)) uri_byte
              (target_text q) plain,
        );
        target_text = IsUtf8-from_ascii (target_text q)
            (IsAscii-from_all (target_text q)
            (All-weaker (λ b. IsTrue (is_plain b)) (λ b. b < 128) small_byte (target_text q) plain));
        minor = lit≤ tt;
        fields = fields_read;
      },
      printed q,
    )
