-- The session's number at the beginning of a line.
use Rattle.std.proofs.Common.{◌≡◌, ◌∙◌, ◌⊎◌, inl, inr, ⊎_elim, ◌+◌, ◌/◌, ◌%◌, ◌<◌, ◌≤◌, ℕ, zero, suc, List}
use Rattle.std.proofs.Common.{[], ◌∷◌, ◌++◌, Contains}
use Rattle.std.proofs.Common.{decimal, drop, get_or, length, length-append, ap, append_assoc, arith, refl}
use Rattle.std.proofs.Common.{subst, sym}
use Rattle.std.proofs.lemmas.Bool.{cases_lt}
use Rattle.std.proofs.lemmas.Fmt.{decimal_digit, decimal_step}
use Rattle.hd_replay.specs.Inputs.{IsLineOf, IsSessionNumber, InputMessage}
use Rattle.hd_replay.proofs.Lining.{first_alone, stands_there}

-- a number of two digits
decimal_two : (n : ℕ) → 10 ≤ n → n < 100 → decimal n ≡ (48 + n / 10) ∷ (48 + n % 10) ∷ []
decimal_two n large small =
    let tens : n / 10 < 10 = omega (arith, large, small) in
    decimal_step n large (omega (arith, small))
    ∙ ap (λ (t : List ℕ). t ++ (48 + n % 10) ∷ []) (decimal_digit (n / 10) tens)

-- how a session's number is written: with one digit, or with two
abbrev pub HasDigits : ℕ → List ℕ → Type 0
HasDigits n digits =
    ((n < 10) × (length digits ≡ 1) × (get_or digits 0 0 ≡ 48 + n))
    ⊎ ((10 ≤ n) × (length digits ≡ 2) × (get_or digits 0 0 ≡ 48 + n / 10) × (get_or digits 1 0 ≡ 48 + n % 10))

pub digits_of : (n : ℕ) (digits : List ℕ) → IsSessionNumber n → decimal n ≡ digits → HasDigits n digits
digits_of n digits is same =
    let few = is.1 in
    ⊎_elim
    (λ one. subst (HasDigits n) (sym (decimal_digit n one) ∙ same) (inl (one, refl, refl)))
    (λ two. subst (HasDigits n) (sym (decimal_two n two (omega (arith, few))) ∙ same)
    (inr (two, refl, refl, refl)))
    (cases_lt n 10)

-- and what is written so is the number
pub number_of_digits : (n : ℕ) (digits : List ℕ) → n < 100 → HasDigits n digits → decimal n ≡ digits
number_of_digits n digits few (inl (one, len, first)) =
    decimal_digit n one ∙ (ap (λ (d : ℕ). d ∷ []) (sym first) ∙ sym (one_byte digits len))
  where
    one_byte : (d : List ℕ) → length d ≡ 1 → d ≡ get_or d 0 0 ∷ []
    one_byte [] len = absurd (omega (arith, len))
    one_byte (a ∷ []) len = refl
    one_byte (a ∷ b ∷ c) len = absurd (omega (arith, len))
number_of_digits n digits few (inr (two, len, first, second)) =
    decimal_two n two few ∙ (ap (λ (d : ℕ). d ∷ (48 + n % 10) ∷ []) (sym first)
    ∙ (ap (λ (d : ℕ). get_or digits 0 0 ∷ d ∷ []) (sym second) ∙ sym (two_bytes digits len)))
  where
    two_bytes : (d : List ℕ) → length d ≡ 2 → d ≡ get_or d 0 0 ∷ get_or d 1 0 ∷ []
    two_bytes [] len = absurd (omega (arith, len))
    two_bytes (a ∷ []) len = absurd (omega (arith, len))
    two_bytes (a ∷ b ∷ []) len = refl
    two_bytes (a ∷ b ∷ c ∷ d) len = absurd (omega (arith, len))

-- no blank stands in it
pub no_blank : (n : ℕ) → IsSessionNumber n → Contains (decimal n) 32 → ⊥
no_blank n is there =
    ⊎_elim
    (λ one. in_one n one (subst (λ (d : List ℕ). Contains d 32) (decimal_digit n one) there))
    (λ two. in_two n (subst (λ (d : List ℕ). Contains d 32)
    (decimal_two n two (let few = is.1 in omega (arith, few))) there))
    (cases_lt n 10)
  where
    in_one : (n : ℕ) → n < 10 → Contains ((48 + n) ∷ []) 32 → ⊥
    in_one n small (zero, within, same) = omega (arith, same)
    in_one n small (suc i, within, same) = omega (arith, within)

    in_two : (n : ℕ) → Contains ((48 + n / 10) ∷ (48 + n % 10) ∷ []) 32 → ⊥
    in_two n (zero, within, same) = omega (arith, same)
    in_two n (suc zero, within, same) = omega (arith, same)
    in_two n (suc (suc i), within, same) = omega (arith, within)

-- a line without a blank is no message's
pub without_blank : (line : List ℕ) (message : InputMessage) → (Contains line 32 → ⊥) → IsLineOf line message
    → ⊥
without_blank line message none is =
    none (subst (λ (l : List ℕ). Contains l 32) (sym is.1)
    (stands_there 32 (decimal message.session) message.text))

-- nor is one whose first part is no session's number
pub without_number : (line front behind : List ℕ) (message : InputMessage) → line ≡ front ++ 32 ∷ behind
    → (Contains front 32 → ⊥) →
    ((n : ℕ) → IsSessionNumber n → decimal n ≡ front → ⊥) → IsLineOf line message → ⊥
without_number line front behind message split first none is =
    none message.session is.0
    (first_alone 32 (decimal message.session) front message.text behind (no_blank message.session is.0) first
    (sym is.1 ∙ split)).0

-- what a line has behind its blank, with the carriage return behind the line
pub behind_blank : (front behind text : List ℕ) → front ++ 32 ∷ behind ≡ text ++ 13 ∷ [] →
    (message : List ℕ) × (behind ≡ message ++ 13 ∷ []) × (text ≡ front ++ 32 ∷ message)
behind_blank [] behind [] same = let other : 32 ≡ 13 = ap (λ (t : List ℕ). get_or t 0 0) same in
    absurd (omega (arith, other))
behind_blank [] behind (t ∷ text) same =
    (text, ap (drop 1) same, ap (λ (b : ℕ). b ∷ text) (sym (ap (λ (t : List ℕ). get_or t 0 0) same)))
behind_blank (f ∷ front) behind [] same = let none : length (front ++ 32 ∷ behind) ≡ 0 =
    ap (λ (t : List ℕ). length (drop 1 t)) same in let both = length-append front (32 ∷ behind) in
    absurd (omega (arith, none, both))
behind_blank (f ∷ front) behind (t ∷ text) same =
    let later = behind_blank front behind text (ap (drop 1) same) in (
      later.0,
      later.1,
      ap (λ (l : List ℕ). t ∷ l) later.2
          ∙ ap (λ (b : ℕ). b ∷ front ++ 32 ∷ later.0) (sym (ap (λ (t : List ℕ). get_or t 0 0) same)),
    )

-- a line that isn't a message's with a carriage return isn't one without
pub no_message : (line text : List ℕ) → line ≡ text ++ 13 ∷ []
    → ((message : InputMessage) → IsLineOf line message → ⊥) → (message : InputMessage) →
    IsLineOf text message → ⊥
no_message line text whole none message is =
    none (record { session = message.session; text = message.text ++ 13 ∷ [] }) (
      is.0,
      whole ∙ (ap (λ (t : List ℕ). t ++ 13 ∷ []) is.1
          ∙ append_assoc (decimal message.session) (32 ∷ message.text) (13 ∷ [])),
    )
