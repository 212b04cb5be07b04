-- What is read and written.
use Rattle.std.specs.Prelude.{◌≡◌, ℕ, ◌<◌, List, Option, length, take}

-- The bytes of the input and of the output, before and after, as far as the reader and the writer tell them.
pub record Streams : Type 0 where
  pub from : Option (List ℕ)
  pub from' : Option (List ℕ)
  pub to : Option (List ℕ)
  pub to' : Option (List ℕ)

-- those of a reader and of a writer
abbrev pub streams : Option (List ℕ) → Option (List ℕ) → Option (List ℕ) → Option (List ℕ) → Streams
streams from from' to to' = record { from = from; from' = from'; to = to; to' = to' }

-- a beginning of a text, but not all of it
abbrev pub IsCutShort : List ℕ → List ℕ → Type 0
IsCutShort text part = (n : ℕ) × (n < length text) × (part ≡ take n text)
