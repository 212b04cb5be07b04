-- Catalogue files: which are accepted, and the first bad line of the others.
use Rattle.std.specs.Prelude.{◌≡◌, ℕ, ◌+◌, ◌⊎◌, Option, None, Some, List, [], ◌∷◌, ◌++◌, fold, length}
use Rattle.std.specs.Str.Lines.{lines}
use Rattle.hd_catalogue.specs.Contents.{Contents}
use Rattle.hd_catalogue.specs.Lines.{first_contents, header_cause, line_cause, with_line}
use Rattle.hd_catalogue.specs.declared.cause.CatFault.{CatFault}
use Rattle.hd_catalogue.specs.declared.cause.Cause.{Cause}
use Rattle.hd_catalogue.specs.declared.cause.Cause.TheVariants.{Memory}

-- the lines of a file, without their ends; an empty file is one empty line
abbrev pub lines_of : List ℕ → List (List ℕ)
lines_of [] = [] ∷ []
lines_of (byte ∷ bytes) = lines (byte ∷ bytes)

-- what a first line and those after it say, one after another
abbrev pub contents_of : List ℕ → List (List ℕ) → Contents
contents_of first more = fold with_line (first_contents first) more

-- why a line is refused after the lines before it, None where it passes
abbrev pub cause_of : List (List ℕ) → List ℕ → Option Cause
cause_of [] line = header_cause line
cause_of (first ∷ more) line = line_cause (contents_of first more) line

-- each line passes after what the lines before it define
abbrev pub EachPasses : List (List ℕ) → Type 0
EachPasses all =
    (before : List (List ℕ)) (line : List ℕ) (after : List (List ℕ)) → all ≡ before ++ line ∷ after
    → cause_of before line ≡ None

-- A file with these lines is accepted, and its catalogue says this.
pub record IsAccepted (all : List (List ℕ)) (k : Contents) : Type 0 where
  pub first : List ℕ
  pub more : List (List ℕ)
  pub whole : all ≡ first ∷ more
  pub passes : EachPasses all
  pub says : k ≡ contents_of first more

-- The fault is of the first line that doesn't pass and names
-- its cause; or the memory for a line that passes was wanting.
pub record IsFirstBad (all : List (List ℕ)) (fault : CatFault) : Type 0 where
  pub before : List (List ℕ)
  pub line : List ℕ
  pub after : List (List ℕ)
  pub whole : all ≡ before ++ line ∷ after
  pub counted : fault.line ≡ length before + 1
  pub earlier : EachPasses before
  pub here : (cause_of before line ≡ Some fault.cause)
      ⊎ ((fault.cause ≡ Memory) × (cause_of before line ≡ None))
