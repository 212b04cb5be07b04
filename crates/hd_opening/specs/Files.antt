-- Opening files: what one says, and the first bad line of the others.
use Rattle.std.specs.Prelude.{◌≡◌, ℕ, ◌+◌, ◌<◌, ◌≤◌, ◌⊎◌, All, Result, Ok, Err, List, [], ◌∷◌, ◌++◌}
use Rattle.std.specs.Prelude.{map, length, codes, decimal}
use Rattle.hex.specs.Hex.{encode_lower}
use Rattle.hd_rules.specs.declared.rows.OpeningRow.{OpeningRow}
use Rattle.hd_catalogue.specs.Contents.{Contents, OpeningRows}
use Rattle.hd_rules.specs.declared.limits.TheConstants.{MOST_GIVEN}
use Rattle.hd_opening.specs.Limits.{IsInLimits}
use Rattle.hd_opening.specs.Lines.{first_said, row_said}
use Rattle.hd_opening.specs.Pieces.{AreLines, behind_bars}
use Rattle.hd_opening.specs.declared.cause.OpeningFault.{OpeningFault}
use Rattle.hd_opening.specs.declared.cause.OpeningCause.{OpeningCause}
use Rattle.hd_opening.specs.declared.cause.OpeningCause.TheVariants.{Memory}

-- each of these lines says the row in its place
abbrev pub SayRows : Contents → ℕ → List (List ℕ) → List OpeningRow → Type 0
SayRows k last lines rows = map (row_said k last) lines ≡ map Ok rows

-- A file with these lines tells this: its first line the last number, each line after it a row.
pub record Tells (k : Contents) (digest : List ℕ) (all : List (List ℕ)) (told : OpeningRows) : Type 0 where
  pub first : List ℕ
  pub more : List (List ℕ)
  pub whole : all ≡ first ∷ more
  pub last : first_said digest first ≡ Ok told.last
  pub rows : SayRows k told.last more told.rows

-- the cause that is named is the line's own, or it is out of memory at a line that says a row
abbrev pub Names : Result OpeningRow OpeningCause → OpeningCause → Type 0
Names said named = (said ≡ Err named) ⊎ ((named ≡ Memory) × ((row : OpeningRow) × (said ≡ Ok row)))

-- the first line is bad
abbrev pub IsFirstLineBad : List ℕ → List (List ℕ) → OpeningFault → Type 0
IsFirstLineBad digest all fault =
    (first : List ℕ) × (more : List (List ℕ)) × (all ≡ first ∷ more) × (fault.line ≡ 1)
    × (first_said digest first ≡ Err fault.cause)

-- The lines before say rows, and this one doesn't.
pub record IsRowBad (k : Contents) (digest : List ℕ) (all : List (List ℕ)) (fault : OpeningFault) :
    Type 0 where
  pub first : List ℕ
  pub last : ℕ
  pub before : List (List ℕ)
  pub line : List ℕ
  pub after : List (List ℕ)
  pub rows : List OpeningRow
  pub whole : all ≡ first ∷ before ++ line ∷ after
  pub heads : first_said digest first ≡ Ok last
  pub earlier : SayRows k last before rows
  pub counted : fault.line ≡ length before + 2
  pub here : Names (row_said k last line) fault.cause

-- The fault is of the first bad line, and names its first cause.
abbrev pub IsFirstBad : Contents → List ℕ → List (List ℕ) → OpeningFault → Type 0
IsFirstBad k digest all fault = IsFirstLineBad digest all fault ⊎ IsRowBad k digest all fault

-- the first line of an opening file
abbrev pub heading_line : List ℕ → ℕ → List ℕ
heading_line digest last =
    codes "H" ++ behind_bars (codes "opening" ∷ codes "1" ∷ decimal last ∷ encode_lower digest ∷ [])

-- The text of an opening: its first line, and a line for each row, in order.
abbrev pub IsOpeningText : Contents → List ℕ → OpeningRows → List ℕ → Type 0
IsOpeningText k digest told text =
    (lines : List ℕ) × AreLines k told.rows lines × (text ≡ heading_line digest told.last ++ 10 ∷ lines)

-- The digest is of 32 bytes, the last number is one that may be given before, and each row lies within its
-- limits: then a line can say each.
abbrev pub IsDigest : List ℕ → Type 0
IsDigest digest = (length digest ≡ 32) × All (λ byte. byte < 256) digest

abbrev pub AreInLimits : OpeningRows → Type 0
AreInLimits told = (told.last ≤ MOST_GIVEN) × All (IsInLimits told.last) told.rows
