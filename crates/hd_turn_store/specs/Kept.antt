-- What is kept of a turn, and of the journal that it belongs to.
use Rattle.std.specs.Prelude.{◌≡◌, ◌⊎◌, ℕ, pos, List, [], ◌∷◌, Option}
use Rattle.hd_turn_store.specs.Words.{Blob, Int, Row, Text, Value, or_null}

-- a turn; a day is empty where there is none
pub record KeptTurn : Type 0 where
  pub seat : ℕ
  pub terminal : List ℕ
  pub day : List ℕ
  pub act : List ℕ
  pub patron : Option (List ℕ)
  pub copy : Option (List ℕ)
  pub title : Option (List ℕ)
  pub branch : Option (List ℕ)
  pub admits : Option (List ℕ)
  pub until : Option (List ℕ)
  pub line : Option (List ℕ)
  pub outcome : List ℕ
  pub number : Option ℕ
  pub reply : List ℕ

-- the format of a journal, and the digest of its catalogue file
pub record Head : Type 0 where
  pub format : ℕ
  pub catalogue : List ℕ

-- the format that is written; in the one before, the column of the reply had a text
abbrev pub new_format : ℕ
new_format = 2

-- both are read
abbrev pub IsKnownFormat : ℕ → Type 0
IsKnownFormat format = (format ≡ new_format) ⊎ (format ≡ 1)

-- the head of a journal that is begun
abbrev pub new_head : List ℕ → Head
new_head digest = record { format = new_format; catalogue = digest }

abbrev pub number_cell : ℕ → Value
number_cell n = Int (pos n)

-- the values of a turn, in the order of their columns
unfoldable pub cells : KeptTurn → Row
cells k =
    Int (pos k.seat) ∷ Text k.terminal ∷ Text k.day ∷ Text k.act ∷ or_null Text k.patron
    ∷ or_null Text k.copy
    ∷ or_null Text k.title ∷ or_null Text k.branch ∷ or_null Text k.admits
    ∷ or_null Text k.until
    ∷ or_null Blob k.line ∷ Text k.outcome ∷ or_null number_cell k.number ∷ Blob k.reply ∷ []

-- the values of a journal's head
abbrev pub head_cells : Head → Row
head_cells h = Int (pos h.format) ∷ Blob h.catalogue ∷ []

-- how many turns are read at a time
unfoldable pub piece : ℕ
piece = 1024
