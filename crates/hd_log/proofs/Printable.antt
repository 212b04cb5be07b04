-- What holds of escapes.
use Rattle.std.proofs.Common.{◌≡◌, ℕ, ◌+◌, ◌*◌, ◌/◌, ◌%◌, ◌<◌, ◌≤◌, ◌^◌, Bool, true, false, List, []}
use Rattle.std.proofs.Common.{◌∷◌, ◌++◌}
use Rattle.std.proofs.Common.{append_assoc, refl, ap, sym, ◌∙◌, arith, suc, All, ◌==◌, if◌then◌else◌}
use Rattle.std.proofs.lemmas.Fmt.{decimal_by_steps}
use Rattle.std.specs.Fmt.{decimal}
use Rattle.std.proofs.lemmas.Grind.{common_steps}
use Rattle.std.proofs.lemmas.List.Elements.{All-cons, All-nil, All-append}
use Rattle.hd_log.specs.Escapes.{IsPrintable, escape, escaped, hex_digit, hex_value, is_plain, unescaped_from}

pub hex_value-hex_digit : (n : ℕ) → n < 16 → hex_value (hex_digit n) ≡ n
hex_value-hex_digit n small = grind (arith, common_steps)

last_digit : (n : ℕ) → hex_value (hex_digit n) ≡ n % 16
last_digit n = grind (arith, common_steps)

-- a plain byte is no \
not_escaping : (b : ℕ) → is_plain b ≡ true → (b == 92) ≡ false
not_escaping b plain = grind (arith, common_steps)

two_digits : (b : ℕ) → b < 256
    → 16 * hex_value (hex_digit (b / 16)) + hex_value (hex_digit b) ≡ b
two_digits b small =
    rw (hex_value-hex_digit (b / 16) (omega arith), last_digit b) (omega arith)

read_one : (b : ℕ) (rest : List ℕ) (p : Bool) → is_plain b ≡ p → b < 256
    → unescaped_from 0 0 ((if p then b ∷ [] else 92 ∷ 120 ∷ hex_digit (b / 16) ∷ hex_digit b ∷ []) ++ rest)
    ≡ b ∷ unescaped_from 0 0 rest
read_one b rest true is small = rw (not_escaping b is) refl
read_one b rest false is small = ap (λ n. n ∷ unescaped_from 0 0 rest) (two_digits b small)

-- what an escape says is read
unescaped-escape : (b : ℕ) (rest : List ℕ) → b < 256
    → unescaped_from 0 0 (escape b ++ rest) ≡ b ∷ unescaped_from 0 0 rest
unfolding escape
unescaped-escape b rest small = read_one b rest (is_plain b) refl small

first_small : (b : ℕ) (bytes : List ℕ) → All (λ b. b < 256) (b ∷ bytes) → b < 256
first_small b bytes small = small 0 0 (omega arith)

rest_small : (b : ℕ) (bytes : List ℕ) → All (λ b. b < 256) (b ∷ bytes) → All (λ b. b < 256) bytes
rest_small b bytes small = λ k d within. small (suc k) d (omega arith)

-- the bytes can be had back
pub unescaped-escaped : (bytes : List ℕ) → All (λ b. b < 256) bytes
    → unescaped_from 0 0 (escaped bytes) ≡ bytes
unescaped-escaped [] small = refl
unescaped-escaped (b ∷ bytes) small =
    unescaped-escape b (escaped bytes) (first_small b bytes small)
    ∙ ap (λ (rest : List ℕ). b ∷ rest) (unescaped-escaped bytes (rest_small b bytes small))

-- a digit in base 16 is printable
printable_digit : (n : ℕ) → IsPrintable (hex_digit n)
printable_digit n = record { low = grind (arith, common_steps); high = grind (arith, common_steps) }

printable_plain : (b : ℕ) → is_plain b ≡ true → IsPrintable b
printable_plain b plain = record { low = grind (arith, common_steps); high = grind (arith, common_steps) }

-- a number is printable that is within the bounds
pub printable : (b : ℕ) → 32 ≤ b → b < 127 → IsPrintable b
printable b low high = record { low = low; high = high }

printable_one : (b : ℕ) (p : Bool) → is_plain b ≡ p
    → All IsPrintable (if p then b ∷ [] else 92 ∷ 120 ∷ hex_digit (b / 16) ∷ hex_digit b ∷ [])
printable_one b true is = All-cons IsPrintable b [] (printable_plain b is) (All-nil IsPrintable)
printable_one b false is =
    All-cons IsPrintable 92 (120 ∷ hex_digit (b / 16) ∷ hex_digit b ∷ [])
    (printable 92 (omega arith) (omega arith))
    (All-cons IsPrintable 120 (hex_digit (b / 16) ∷ hex_digit b ∷ [])
    (printable 120 (omega arith) (omega arith))
    (All-cons IsPrintable (hex_digit (b / 16)) (hex_digit b ∷ []) (printable_digit (b / 16))
    (All-cons IsPrintable (hex_digit b) [] (printable_digit b) (All-nil IsPrintable))))

printable_escape : (b : ℕ) → All IsPrintable (escape b)
unfolding escape
printable_escape b = printable_one b (is_plain b) refl

-- each byte that is written is printable
pub printable_escaped : (bytes : List ℕ) → All IsPrintable (escaped bytes)
printable_escaped [] = All-nil IsPrintable
printable_escaped (b ∷ bytes) =
    All-append IsPrintable (escape b) (escaped bytes) (printable_escape b) (printable_escaped bytes)

-- plain bytes stand for themselves
plain_one : (b : ℕ) (p : Bool) → is_plain b ≡ p → p ≡ true
    → (if p then b ∷ [] else 92 ∷ 120 ∷ hex_digit (b / 16) ∷ hex_digit b ∷ []) ≡ b ∷ []
plain_one b true is plain = refl
plain_one b false is plain = cc

plain_escape : (b : ℕ) → is_plain b ≡ true → escape b ≡ b ∷ []
unfolding escape
plain_escape b plain = plain_one b (is_plain b) refl plain

pub escaped_append : (s t : List ℕ) → escaped (s ++ t) ≡ escaped s ++ escaped t
escaped_append [] t = refl
escaped_append (b ∷ s) t =
    ap (λ (l : List ℕ). escape b ++ l) (escaped_append s t)
    ∙ sym (append_assoc (escape b) (escaped s) (escaped t))

pub plain_digit : (n : ℕ) → n < 10 → escaped ((48 + n) ∷ []) ≡ (48 + n) ∷ []
plain_digit n small =
    ap (λ (l : List ℕ). l ++ []) (plain_escape (48 + n) (grind (arith, common_steps)))

digits_more : (n : ℕ) (ds : List ℕ) → 10 ≤ n → escaped ds ≡ ds
    → escaped (ds ++ ((48 + n % 10) ∷ [])) ≡ ds ++ ((48 + n % 10) ∷ [])
digits_more n ds many same =
    escaped_append ds ((48 + n % 10) ∷ [])
    ∙ ap (λ (l : List ℕ). l ++ escaped ((48 + n % 10) ∷ [])) same
    ∙ ap (λ (l : List ℕ). ds ++ l) (plain_digit (n % 10) (omega arith))

-- the digits of a number stand for themselves
pub escaped_decimal : (n : ℕ) → n < 2 ^ 64 → escaped (decimal n) ≡ decimal n
escaped_decimal n small = decimal_by_steps (λ m ds. escaped ds ≡ ds) plain_digit digits_more n small
