-- Sequence digits.
use Rattle.std.specs.Prelude.{◌≡◌, ℕ, ◌+◌, ◌%◌, ◌<◌, List, [], ◌∷◌, ◌++◌, Option, None, Some, IfNone, IfSome}
use Rattle.std.specs.Prelude.{codes}

-- the digit that follows another: 9 is followed by 0
abbrev pub next_digit : ℕ → ℕ
next_digit d = (d + 1) % 10

-- the text of a sequence digit, where there is one
abbrev pub sequence : Option ℕ → List ℕ
sequence None = []
sequence (Some d) = codes "AY" ++ (48 + d) ∷ []

-- a text ends in that of a sequence digit
abbrev pub EndsInSequence : List ℕ → Type 0
EndsInSequence text = (front : List ℕ) × (d : ℕ) × (d < 10) × (text ≡ front ++ sequence (Some d))

-- A text is a body with this sequence digit at its end, or the body alone where it ends in none.
pub record Carries (text body : List ℕ) (seq : Option ℕ) : Type 0 where
  pub split : text ≡ body ++ sequence seq
  pub digit : IfSome seq (λ d. d < 10)
  pub none : IfNone seq (¬ EndsInSequence text)
