-- The reading of a line is the one that the function computes.
use Rattle.std.proofs.Common.{◌≡◌, ℕ, ◌+◌, ◌-◌, ◌%◌, ◌&&◌, ◌==◌, ◌<◌, ◌≤◌, ⊎_elim, Bool, true, false, cond}
use Rattle.std.proofs.Common.{List, [], ◌∷◌, ◌++◌, Option}
use Rattle.std.proofs.Common.{None, Some, codes, drop, get_or, length, nat_eq, nat_lt, not, sum, take, refl}
use Rattle.std.proofs.Common.{sym, ap, ◌∙◌, append_assoc}
use Rattle.std.proofs.Common.{arith}
use Rattle.std.specs.Char.{digit_value, is_ascii_digit}
use Rattle.std.specs.List.{ends_with, list_all}
use Rattle.std.specs.Str.Parse.{AllDigits, digits_value}
use Rattle.std.proofs.lemmas.Bool.{cases_lt, false_from_ne_true, and_parts, and_from}
use Rattle.std.proofs.lemmas.Bool.Decides.{Decides-eqb, Decides-ltb}
use Rattle.std.proofs.lemmas.Grind.{common_steps}
use Rattle.std.proofs.lemmas.List.{append-nil, drop_at, get_or-append-add, get_or_past, length-append}
use Rattle.std.proofs.lemmas.List.{length-drop, length-take}
use Rattle.std.proofs.lemmas.List.{take-append-drop, take_at, take_more}
use Rattle.std.proofs.Math.Seq.{take-append-add, take-length}
use Rattle.std.proofs.lemmas.Slice.Eq.{bytes_eq-Decides}
use Rattle.hd_guard.specs.Sequence.{Carries, EndsInSequence, sequence}
use Rattle.hd_guard.specs.Trailer.{EndsInCheck}
use Rattle.hd_guard.specs.Reading.{IsGuarded, Reading, PlainLine, CheckedLine, WrongLine, read_before}
use Rattle.hd_guard.specs.Reading.{read_line}

-- a text that passes the test of its end has that end
ends_true : (text ending : List ℕ) → ends_with nat_eq text ending ≡ true
    → text ≡ take (length text - length ending) text ++ ending
ends_true text ending h =
    let n = length text - length ending in
    let same : ending ≡ drop n text = (bytes_eq-Decides ending (drop n text)).0 h in
    sym (take-append-drop n text) ∙ ap (λ xs. take n text ++ xs) (sym same)

ends_of : (front ending : List ℕ) → ends_with nat_eq (front ++ ending) ending ≡ true
ends_of front ending =
    let n = length (front ++ ending) - length ending in
    let len : length front ≡ n = omega (arith, length-append front ending) in
    (bytes_eq-Decides ending (drop n (front ++ ending))).1 (sym (drop_at front ending n len))

-- the test of the digits
digits_true : (digits : List ℕ) → list_all (λ c. nat_lt (digit_value c) 16) digits ≡ true
    → AllDigits 16 digits
digits_true [] h = tt
digits_true (c ∷ cs) h =
    let both = and_parts (nat_lt (digit_value c) 16) (list_all (λ c. nat_lt (digit_value c) 16) cs) h in
    ((Decides-ltb (digit_value c) 16).0 both.0, digits_true cs both.1)

digits_of : (digits : List ℕ) → AllDigits 16 digits → list_all (λ c. nat_lt (digit_value c) 16) digits ≡ true
digits_of [] h = refl
digits_of (c ∷ cs) h =
    and_from (nat_lt (digit_value c) 16) (list_all (λ c. nat_lt (digit_value c) 16) cs)
    ((Decides-ltb (digit_value c) 16).1 h.0)
    (digits_of cs h.1)

-- the test of a sequence digit
digit_true : (c : ℕ) → is_ascii_digit c ≡ true → (48 ≤ c) × (c ≤ 57)
digit_true c h = grind (arith, common_steps)

digit_of : (d : ℕ) → d < 10 → is_ascii_digit (48 + d) ≡ true
digit_of d h = grind (arith, common_steps)

-- the readings by what the tests say
abbrev by_tests : Bool → Bool → Reading → Reading → Reading
by_tests t u checked plain = cond (not t) plain (cond u checked WrongLine)

abbrev of_parts : List ℕ → List ℕ → List ℕ → Reading
of_parts line summed digits =
    by_tests (ends_with nat_eq summed (codes "AZ") && list_all (λ c. nat_lt (digit_value c) 16) digits)
    ((sum summed + digits_value 16 digits) % 65536 == 0) (read_before (take (length summed - 2) summed))
    (PlainLine line)

abbrev before_parts : List ℕ → ℕ → Reading
before_parts before end =
    let digit = get_or before (end + 2) 0 in
    cond (ends_with nat_eq (take (end + 2) before) (codes "AY") && is_ascii_digit digit)
    (CheckedLine (take end before) (Some (digit - 48)))
    (CheckedLine before None)

-- a text that passes the tests of a sequence digit ends in one
ends_in_digit : (before : List ℕ) →
    let end = length before - 3 in
    (ends_with nat_eq (take (end + 2) before) (codes "AY") && is_ascii_digit (get_or before (end + 2) 0))
    ≡ true → EndsInSequence before
ends_in_digit before h =
    let end = length before - 3 in
    let text : List ℕ = take (end + 2) before in
    let front : List ℕ = take (length text - 2) text in
    let c : ℕ = get_or before (end + 2) 0 in
    let both = and_parts (ends_with nat_eq text (codes "AY")) (is_ascii_digit c) h in
    let split : text ≡ front ++ codes "AY" = ends_true text (codes "AY") both.0 in
    let digit = digit_true c both.1 in
    let inside : end + 2 < length before =
    ⊎_elim (λ l. l) (λ (past : length before ≤ end + 2).
    absurd (omega (arith, digit.0, get_or_past before (end + 2) 0 past)))
    (cases_lt (end + 2) (length before)) in
    let all : take (end + 2 + 1) before ≡ before =
    ap (λ n. take n before) (omega arith) ∙ take-length before in
    let last : before ≡ text ++ c ∷ [] = sym all ∙ take_more before (end + 2) 0 inside in
    let code : c ≡ 48 + (c - 48) = omega (arith, digit.0) in
    let whole : before ≡ front ++ (codes "AY" ++ (48 + (c - 48)) ∷ []) =
    last ∙ ap (λ xs. xs ++ c ∷ []) split ∙ append_assoc front (codes "AY") (c ∷ [])
    ∙ ap (λ n. front ++ (codes "AY" ++ n ∷ [])) code in
    (front, c - 48, omega (arith, digit.1), whole)

-- what the text before a check number carries is read of it
carried_is_read : (before body : List ℕ) (seq : Option ℕ) → Carries before body seq
    → CheckedLine body seq ≡ read_before before
carried_is_read before body None h =
    let end = length before - 3 in
    let same : body ≡ before = sym (h.split ∙ append-nil body) in
    let test =
    false_from_ne_true
    (ends_with nat_eq (take (end + 2) before) (codes "AY") && is_ascii_digit (get_or before (end + 2) 0))
    (λ yes. h.none (ends_in_digit before yes)) in
    ap (λ xs. CheckedLine xs None) same
    ∙ sym (ap (λ t. cond t (CheckedLine (take end before) (Some (get_or before (end + 2) 0 - 48)))
    (CheckedLine before None)) test)
carried_is_read before body (Some d) h =
    let text : List ℕ = body ++ sequence (Some d) in
    let n = length body in
    let end : n ≡ length text - 3 = omega (arith, length-append body (sequence (Some d))) in
    let letters : take (n + 2) text ≡ body ++ codes "AY" = take-append-add body (sequence (Some d)) 2 in
    let digit : get_or text (n + 2) 0 ≡ 48 + d = get_or-append-add body (sequence (Some d)) 2 0 in
    let first : ends_with nat_eq (take (n + 2) text) (codes "AY") ≡ true =
    ap (λ xs. ends_with nat_eq xs (codes "AY")) letters ∙ ends_of body (codes "AY") in
    let second : is_ascii_digit (get_or text (n + 2) 0) ≡ true =
    ap is_ascii_digit digit ∙ digit_of d h.digit in
    let test = and_from (ends_with nat_eq (take (n + 2) text) (codes "AY"))
    (is_ascii_digit (get_or text (n + 2) 0)) first second in
    let value : get_or text (n + 2) 0 - 48 ≡ d = omega (arith, digit) in
    let read : before_parts text n ≡ CheckedLine body (Some d) =
    ap (λ t. cond t (CheckedLine (take n text) (Some (get_or text (n + 2) 0 - 48))) (CheckedLine text None))
    test
    ∙ ap (λ xs. CheckedLine xs (Some (get_or text (n + 2) 0 - 48))) (take_at body (sequence (Some d)) n refl)
    ∙ ap (λ m. CheckedLine body (Some m)) value in
    sym (ap read_before h.split ∙ ap (before_parts text) (sym end) ∙ read)

-- the reading of a line that ends in a check number
of_check : (line before : List ℕ) (number : ℕ) (h : EndsInCheck line before number) (u : Bool)
    → ((sum (before ++ codes "AZ") + number) % 65536 == 0) ≡ u →
    read_line line ≡ cond u (read_before before) WrongLine
of_check line before number h u test =
    let n = length line - 4 in
    let all : List ℕ = before ++ codes "AZ" in
    let len : length all ≡ n = omega (arith, ap length h.split, h.four, length-append all h.digits) in
    let summed : take n line ≡ all = ap (take n) h.split ∙ take_at all h.digits n len in
    let digits : drop n line ≡ h.digits = ap (drop n) h.split ∙ drop_at all h.digits n len in
    let front : take (length all - 2) all ≡ before =
    take_at before (codes "AZ") (length all - 2) (omega (arith, length-append before (codes "AZ"))) in
    let first =
    and_from (ends_with nat_eq all (codes "AZ")) (list_all (λ c. nat_lt (digit_value c) 16) h.digits)
    (ends_of before (codes "AZ"))
    (digits_of h.digits h.hexadecimal) in
    let second : ((sum all + digits_value 16 h.digits) % 65536 == 0) ≡ u =
    ap (λ m. (sum all + m) % 65536 == 0) (sym h.value) ∙ test in
    ap (λ xs. of_parts line xs (drop n line)) summed ∙ ap (of_parts line all) digits
    ∙ ap (λ t. by_tests t ((sum all + digits_value 16 h.digits) % 65536 == 0)
    (read_before (take (length all - 2) all)) (PlainLine line))
    first
    ∙ ap (λ v. by_tests true v (read_before (take (length all - 2) all)) (PlainLine line)) second
    ∙ ap (λ xs. by_tests true u (read_before xs) (PlainLine line)) front

-- a line that passes the tests of a check number ends in one
ends_in_check : (line : List ℕ) →
    let summed = take (length line - 4) line in
    let digits = drop (length line - 4) line in
    (ends_with nat_eq summed (codes "AZ") && list_all (λ c. nat_lt (digit_value c) 16) digits) ≡ true →
    EndsInCheck line (take (length summed - 2) summed) (digits_value 16 digits)
ends_in_check line h =
    let n = length line - 4 in
    let summed : List ℕ = take n line in
    let digits : List ℕ = drop n line in
    let front : List ℕ = take (length summed - 2) summed in
    let both = and_parts (ends_with nat_eq summed (codes "AZ"))
    (list_all (λ c. nat_lt (digit_value c) 16) digits) h in
    let split : summed ≡ front ++ codes "AZ" = ends_true summed (codes "AZ") both.0 in
    let whole : line ≡ front ++ codes "AZ" ++ digits =
    sym (take-append-drop n line) ∙ ap (λ xs. xs ++ digits) split in
    let len : length summed ≡ length front + 2 = ap length split ∙ length-append front (codes "AZ") in
    let four : length digits ≡ 4 = omega (arith, length-drop n line, length-take n line, len) in
    record {
      digits = digits;
      split = whole;
      four = four;
      hexadecimal = digits_true digits both.1;
      value = refl;
    }

-- the reading that holds of a line is the one that is computed
pub is_read : (line : List ℕ) (a : Reading) → IsGuarded line a → a ≡ read_line line
is_read line (PlainLine body) h =
    let n = length line - 4 in
    let summed : List ℕ = take n line in
    let digits : List ℕ = drop n line in
    let test =
    false_from_ne_true
    (ends_with nat_eq summed (codes "AZ") && list_all (λ c. nat_lt (digit_value c) 16) digits)
    (λ yes. h.1 (take (length summed - 2) summed) (digits_value 16 digits) (ends_in_check line yes)) in
    ap PlainLine h.0
    ∙ sym (ap
    (λ t. by_tests t ((sum summed + digits_value 16 digits) % 65536 == 0)
    (read_before (take (length summed - 2) summed))
    (PlainLine line)) test)
is_read line (CheckedLine body seq) h =
    let right = (Decides-eqb ((sum (h.0 ++ codes "AZ") + h.1.number) % 65536) 0).1 h.1.right in
    carried_is_read h.0 body seq h.2 ∙ sym (of_check line h.0 h.1.number h.1.ends true right)
is_read line WrongLine h =
    let wrong =
    false_from_ne_true ((sum (h.0 ++ codes "AZ") + h.1) % 65536 == 0)
    (λ yes. h.3 ((Decides-eqb ((sum (h.0 ++ codes "AZ") + h.1) % 65536) 0).0 yes)) in
    sym (of_check line h.0 h.1 h.2 false wrong)
