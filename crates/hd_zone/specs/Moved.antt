-- A catalogue that goes by another offset than its file says.
use Rattle.std.specs.Prelude.{◌≡◌, ℕ, ℤ, List, [], ◌∷◌, codes, ⊤}
use Rattle.hd_catalogue.specs.Contents.{Contents}
use Rattle.hd_catalogue.specs.Files.{IsAccepted, IsFirstBad}
use Rattle.hd_catalogue.specs.Text.{values_of}
use Rattle.hd_zone.specs.declared.fault.ReadFault.{ReadFault}
use Rattle.hd_zone.specs.declared.fault.ReadFault.TheVariants.{Catalogue, Memory, NotMoved}

-- what a catalogue says, with another offset and all else the same
abbrev pub with_offset : Contents → ℤ → Contents
with_offset k offset = record k { settings = record k.settings { offset = offset } }

-- The catalogue says what a file with these lines says, but for the offset, which is this.
abbrev pub IsReadAt : List (List ℕ) → ℤ → Contents → Type 0
IsReadAt all offset k = (told : Contents) × IsAccepted all told × (k ≡ with_offset told offset)

-- why there is none: the file is refused, or memory was wanting, or what was written isn't read as that
abbrev pub IsFaultOf : List (List ℕ) → ReadFault → Type 0
IsFaultOf all (Catalogue fault) = IsFirstBad all fault
IsFaultOf all Memory = ⊤
IsFaultOf all NotMoved = ⊤

-- Two first lines have the same values but for the offset.
pub record SaysSame (one other : List ℕ) : Type 0 where
  pub version : List ℕ
  pub institution : List ℕ
  pub offset : List ℕ
  pub another : List ℕ
  pub limit : List ℕ
  pub first : values_of one ≡ codes "H" ∷ version ∷ institution ∷ offset ∷ limit ∷ []
  pub second : values_of other ≡ codes "H" ∷ version ∷ institution ∷ another ∷ limit ∷ []

-- The lines of a text are another's but for the offset in the first.
pub record IsMoved (all moved : List (List ℕ)) : Type 0 where
  pub first : List ℕ
  pub other : List ℕ
  pub more : List (List ℕ)
  pub whole : all ≡ first ∷ more
  pub changed : moved ≡ other ∷ more
  pub same : SaysSame first other
