-- Patrons' files: which are accepted, what they say, and the first bad line of the others.
use Rattle.std.specs.Prelude.{◌≡◌, ℕ, ◌+◌, is_some, Option, None, Some, List, [], ◌∷◌, ◌++◌, length}
use Rattle.hd_rules.specs.Numbers.{PatronNo}
use Rattle.hd_catalogue.specs.Contents.{Contents}
use Rattle.hd_catalogue.specs.Reading.{Names}
use Rattle.hd_catalogue.specs.declared.cause.Cause.{Cause}
use Rattle.hd_patrons.specs.Lines.{heading_cause, line_cause, line_said}
use Rattle.hd_patrons.specs.Texts.{PatronSaid, PatronTexts, said_before}
use Rattle.hd_patrons.specs.Stored.{Stored, texts_of}
use Rattle.hd_patrons.specs.declared.fault.PatronsFault.{PatronsFault}

-- what a line says of the patron p, and else what the others do
abbrev pub said_first : Option PatronSaid → PatronNo → Option PatronTexts → Option PatronTexts
said_first None p others = others
said_first (Some said) p others = said_before said p others

-- what lines say of a patron: the first that is the patron's
abbrev pub said_of : Contents → List (List ℕ) → PatronNo → Option PatronTexts
said_of k [] p = None
said_of k (line ∷ more) p = said_first (line_said k line) p (said_of k more p)

-- why a line is refused after the lines before it, None where it passes
abbrev pub cause_of : Contents → List (List ℕ) → List ℕ → Option Cause
cause_of k [] line = heading_cause line
cause_of k (first ∷ more) line = line_cause k (λ p. is_some (said_of k more p)) line

-- each line passes after those before it
abbrev pub EachPasses : Contents → List (List ℕ) → Type 0
EachPasses k all =
    (before : List (List ℕ)) (line : List ℕ) (after : List (List ℕ)) → all ≡ before ++ line ∷ after
    → cause_of k before line ≡ None

-- A file with these lines is accepted, and of each patron this stands in store: what the lines say.
pub record IsAccepted (k : Contents) (all : List (List ℕ)) (stored : Stored) : Type 0 where
  pub first : List ℕ
  pub more : List (List ℕ)
  pub whole : all ≡ first ∷ more
  pub passes : EachPasses k all
  pub says : (p : PatronNo) → texts_of stored p ≡ said_of k more p

-- what is in store is an accepted file's
abbrev pub IsFile : Contents → List (List ℕ) → Option Stored → Type 0
IsFile k all None = ⊥
IsFile k all (Some stored) = IsAccepted k all stored

-- The fault is of the first line that doesn't pass and names its cause; or the memory for a line that passes
-- was wanting.
pub record IsFirstBad (k : Contents) (all : List (List ℕ)) (fault : PatronsFault) : Type 0 where
  pub before : List (List ℕ)
  pub line : List ℕ
  pub after : List (List ℕ)
  pub whole : all ≡ before ++ line ∷ after
  pub counted : fault.line ≡ length before + 1
  pub earlier : EachPasses k before
  pub here : Names (cause_of k before line) fault.cause
