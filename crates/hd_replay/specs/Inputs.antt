-- The lines of an input.
use Rattle.std.specs.Prelude.{◌≡◌, ℕ, ◌+◌, ◌<◌, ◌≤◌, List, [], ◌∷◌, ◌++◌, All, Contains, drop, flat_map}
use Rattle.std.specs.Prelude.{length, decimal}

-- A text's lines: its parts that this byte ends, in order; and the rest, which nothing ends.
pub record AreLines (end : ℕ) (text : List ℕ) (lines : List (List ℕ)) (rest : List ℕ) : Type 0 where
  pub whole : text ≡ flat_map (λ line. line ++ end ∷ []) lines ++ rest
  pub plain : All (λ line. ¬ Contains line end) lines
  pub unended : ¬ Contains rest end

-- Of a text from a place on, the first line is ended by the byte at another place.
pub record EndsFirst (end : ℕ) (text : List ℕ) (from at : ℕ) : Type 0 where
  pub first : List ℕ
  pub split : drop from text ≡ first ++ end ∷ drop (at + 1) text
  pub plain : ¬ Contains first end
  pub place : at ≡ from + length first
  pub within : at < length text

-- the lines of an input that has come to its end: the rest is one too, where it isn't empty
abbrev pub with_rest : List (List ℕ) → List ℕ → List (List ℕ)
with_rest lines [] = lines
with_rest lines (byte ∷ rest) = lines ++ (byte ∷ rest) ∷ []

-- A message of an input: the number of its session, and its text.
pub record InputMessage : Type 0 where
  pub session : ℕ
  pub text : List ℕ

-- sessions are numbered from 1 to 64
abbrev pub IsSessionNumber : ℕ → Type 0
IsSessionNumber number = (1 ≤ number) × (number ≤ 64)

abbrev pub HasSession : InputMessage → Type 0
HasSession message = IsSessionNumber message.session

-- the line of a message: the number of its session, a blank (32), and its text
abbrev pub line_of : InputMessage → List ℕ
line_of message = decimal message.session ++ 32 ∷ message.text

-- a line is that of a message of a session
abbrev pub IsLineOf : List ℕ → InputMessage → Type 0
IsLineOf line message = HasSession message × (line ≡ line_of message)
