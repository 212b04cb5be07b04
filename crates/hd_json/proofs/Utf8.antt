-- What is told is UTF-8.
use Rattle.std.proofs.Common.{◌≡◌, ℕ, ◌/◌, ◌%◌, ◌<◌, ◌≤◌, Bool, true, false, List, [], ◌∷◌, ◌++◌, refl}
use Rattle.std.proofs.Common.{sym, ap₂, subst, arith, zero, suc, inl, inr, All, IsUtf8, if◌then◌else◌, length}
use Rattle.std.proofs.Common.{get_or, append-nil}
use Rattle.std.specs.List.{flat_map, join_by}
use Rattle.std.specs.Str.{encode_utf8_all, all_scalars, is_utf8}
use Rattle.std.specs.Char.{encode_utf8, IsScalar}
use Rattle.std.proofs.lemmas.Bool.{and_parts, cases_lt}
use Rattle.std.proofs.lemmas.Fmt.{IsAscii-decimal}
use Rattle.std.proofs.lemmas.Grind.{common_steps, flat_map-append}
use Rattle.std.proofs.lemmas.List.Elements.{All-head, All-tail}
use Rattle.std.proofs.lemmas.Str.{IsUtf8-append, IsUtf8-nil, IsUtf8-encode, IsUtf8-from_ascii}
use Rattle.std.proofs.lemmas.Str.{IsUtf8-from_is_utf8, encode_ascii, inside_one}
use Rattle.hd_json.specs.Laws.{ArraysAreUtf8, IsByte, AreBytes, IsTold, IsToldMember}
use Rattle.hd_json.specs.Texts.{Member, Value, Nothing, Number, Text, array_text, object_text, member_text}
use Rattle.hd_json.specs.Texts.{value_text, quoted, escape, is_itself, hex_digit}

-- a byte of ASCII, and what follows it
ascii_then : (b : ℕ) (rest : List ℕ) → b < 128 → IsUtf8 rest → IsUtf8 (b ∷ rest)
ascii_then b rest low = IsUtf8-append (b ∷ []) rest (IsUtf8-from_ascii (b ∷ []) alone)
  where
    alone : (i : ℕ) → get_or (b ∷ []) i 0 < 128
    alone zero = low
    alone (suc i) = omega arith

digit_low : (n : ℕ) → n < 16 → hex_digit n < 128
digit_low n small = grind (arith, common_steps)

escaped_one : (h l : ℕ) → h < 128 → l < 128 → IsUtf8 (92 ∷ 117 ∷ 48 ∷ 48 ∷ h ∷ l ∷ [])
escaped_one h l high low =
    ascii_then 92 _ (omega arith) (ascii_then 117 _ (omega arith)
    (ascii_then 48 _ (omega arith) (ascii_then 48 _ (omega arith)
    (ascii_then h _ high (ascii_then l _ low IsUtf8-nil)))))

-- what a byte is told as is UTF-8, where the byte is escaped or is ASCII
told_one : (u : Bool) (b : ℕ) (p : Bool) → is_itself u b ≡ p → (is_itself u b ≡ true → b < 128) → b < 256
    → IsUtf8 (if p then b ∷ [] else 92 ∷ 117 ∷ 48 ∷ 48 ∷ hex_digit (b / 16) ∷ hex_digit (b % 16) ∷ [])
told_one u b true is low small = ascii_then b [] (low is) IsUtf8-nil
told_one u b false is low small =
    escaped_one _ _ (digit_low (b / 16) (omega arith)) (digit_low (b % 16) (omega arith))

told_byte : (u : Bool) (b : ℕ) → (is_itself u b ≡ true → b < 128) → b < 256 → IsUtf8 (escape u b)
unfolding escape
told_byte u b low small = told_one u b (is_itself u b) refl low small

-- in Latin-1
standing_low : (b : ℕ) → is_itself false b ≡ true → b < 128
standing_low b is = grind (arith, common_steps)

latin_1 : (bytes : List ℕ) → AreBytes bytes → IsUtf8 (flat_map (escape false) bytes)
latin_1 [] small = IsUtf8-nil
latin_1 (b ∷ bytes) small =
    IsUtf8-append _ _ (told_byte false b (standing_low b) (All-head IsByte b bytes small))
    (latin_1 bytes (All-tail IsByte b bytes small))

-- in UTF-8: a byte above 0x7F stands for itself, and so does a character that has such bytes
stands_high : (b : ℕ) → 128 ≤ b → is_itself true b ≡ true
stands_high b high = grind (arith, common_steps)

escape_high : (b : ℕ) → 128 ≤ b → escape true b ≡ b ∷ []
unfolding escape
escape_high b high = rw (stands_high b high) refl

all_high : (bytes : List ℕ) → ((k : ℕ) → k < length bytes → 128 ≤ get_or bytes k 0)
    → flat_map (escape true) bytes ≡ bytes
all_high [] high = refl
all_high (b ∷ bytes) high =
    ap₂ (λ (a b : List ℕ). a ++ b) (escape_high b (high 0 (omega arith)))
    (all_high bytes (λ k below. high (suc k) (omega arith)))

character : (c : ℕ) → IsScalar c → IsUtf8 (flat_map (escape true) (encode_utf8 c))
character c scalar = elim (cases_lt c 128) [
  | inl low ↦ rw (encode_ascii c low, append-nil) (told_byte true c (λ _. low) (omega arith))
  | inr wide ↦
      let high : (k : ℕ) → k < length (encode_utf8 c) → 128 ≤ get_or (encode_utf8 c) k 0 =
      λ k below. elim (cases_lt (get_or (encode_utf8 c) k 0) 128) [
        | inl low ↦
            absurd (omega (arith, inside_one c [] (encode_utf8 c) k (sym (append-nil _)) below low))
        | inr high ↦ high
      ] in
      subst IsUtf8 (sym (all_high (encode_utf8 c) high)) (IsUtf8-encode c scalar)
]

characters : (cs : List ℕ) → all_scalars cs ≡ true → IsUtf8 (flat_map (escape true) (encode_utf8_all cs))
characters [] scalars = IsUtf8-nil
characters (c ∷ cs) scalars =
    let parts = and_parts _ _ scalars in
    subst IsUtf8 (sym (flat_map-append (escape true) (encode_utf8 c) (encode_utf8_all cs)))
    (IsUtf8-append _ _ (character c parts.0) (characters cs parts.1))

utf8 : (bytes : List ℕ) → IsUtf8 bytes → IsUtf8 (flat_map (escape true) bytes)
utf8 bytes is = subst (λ text. IsUtf8 (flat_map (escape true) text)) is.1.1 (characters is.0 is.1.0)

-- a string
told_as : (u : Bool) (bytes : List ℕ) → is_utf8 bytes ≡ u → AreBytes bytes
    → IsUtf8 (flat_map (escape u) bytes)
told_as true bytes is small = utf8 bytes (IsUtf8-from_is_utf8 bytes is)
told_as false bytes is small = latin_1 bytes small

string : (bytes : List ℕ) → AreBytes bytes → IsUtf8 (quoted bytes)
string bytes small =
    ascii_then 34 _ (omega arith) (IsUtf8-append _ _ (told_as (is_utf8 bytes) bytes refl small)
    (ascii_then 34 [] (omega arith) IsUtf8-nil))

-- what a member holds
held : (v : Value) → IsTold v → IsUtf8 (value_text v)
held Nothing told =
    ascii_then 110 _ (omega arith) (ascii_then 117 _ (omega arith)
    (ascii_then 108 _ (omega arith) (ascii_then 108 _ (omega arith) IsUtf8-nil)))
held (Number n) told = IsUtf8-from_ascii _ (IsAscii-decimal n told)
held (Text bytes) told = string bytes told

member : (m : Member) → IsToldMember m → IsUtf8 (member_text m)
unfolding member_text
member m is = IsUtf8-append _ _ (string m.name is.0) (ascii_then 58 _ (omega arith) (held m.value is.1))

-- pieces, and commas between them
module _ {X : Type 0} (f : X → List ℕ) where
  abbrev IsTextOf : X → Type 0
  IsTextOf x = IsUtf8 (f x)

  later : (xs : List X) → All IsTextOf xs → IsUtf8 (flat_map (λ x. (44 ∷ []) ++ f x) xs)
  later [] all = IsUtf8-nil
  later (x ∷ xs) all = IsUtf8-append _ _ (ascii_then 44 _ (omega arith) (All-head IsTextOf x xs all))
      (later xs (All-tail IsTextOf x xs all))

  joined : (xs : List X) → All IsTextOf xs → IsUtf8 (join_by f (44 ∷ []) xs)
  joined [] all = IsUtf8-nil
  joined (x ∷ xs) all =
      IsUtf8-append _ _ (All-head IsTextOf x xs all) (later xs (All-tail IsTextOf x xs all))

object : (ms : List Member) → All IsToldMember ms → IsUtf8 (object_text ms)
unfolding object_text
object ms all = ascii_then 123 _ (omega arith) (IsUtf8-append _ _
    (joined member_text ms (λ k d within. member _ (all k d within)))
    (ascii_then 125 [] (omega arith) IsUtf8-nil))

pub arrays_are_utf8 : ArraysAreUtf8
unfolding array_text
arrays_are_utf8 rows all = ascii_then 91 _ (omega arith) (IsUtf8-append _ _
    (joined object_text rows (λ k d within. object _ (all k d within)))
    (ascii_then 93 [] (omega arith) IsUtf8-nil))
