-- A line feed (10) behind each carriage return (13).
use Rattle.std.specs.Prelude.{◌≡◌, ◌==◌, ◌&&◌, ℕ, ◌<◌, ◌≤◌, Bool, true, false, not, if◌then◌else◌}
use Rattle.std.specs.Prelude.{List, [], ◌∷◌, ◌++◌, Contains, Option, None, Some, length}
use Rattle.std.specs.Io.KnownBytes.{Appends}

-- the line feed that is owed, where one is
abbrev pub owed : Bool → List ℕ
owed true = 10 ∷ []
owed false = []

-- a text with a line feed behind each carriage return
abbrev pub with_line_feeds : List ℕ → List ℕ
with_line_feeds [] = []
with_line_feeds (byte ∷ text) = byte ∷ (owed (byte == 13) ++ with_line_feeds text)

-- whether a text ends with a carriage return; an empty one does where it stands behind one
abbrev pub ends_with_return : Bool → List ℕ → Bool
ends_with_return behind [] = behind
ends_with_return behind (byte ∷ text) = ends_with_return (byte == 13) text

-- a text without the line feed behind each carriage return; the text may itself stand behind one
abbrev pub without_line_feeds : Bool → List ℕ → List ℕ
without_line_feeds behind [] = []
without_line_feeds behind (byte ∷ text) =
    (if behind && (byte == 10) then [] else byte ∷ []) ++ without_line_feeds (byte == 13) text

-- A writer with these contents, which was owed a line feed or not, is given a text with a line feed behind
-- each carriage return: the one that was owed, and all but the last where that is owed then.
pub record Gives (owes owes' : Bool) (contents contents' : Option (List ℕ)) (text : List ℕ) : Type 0 where
  pub given : List ℕ
  pub appends : Appends contents contents' given
  pub whole : given ++ owed owes' ≡ owed owes ++ with_line_feeds text
  pub ends : ends_with_return owes given ≡ owes'

-- a line feed is owed exactly where the contents end with a carriage return
abbrev pub are_owed : Bool → List ℕ → Bool
are_owed true held = ends_with_return false held
are_owed false held = not (ends_with_return false held)

-- what a writer tells that stands before one with these contents: the text that was written
abbrev pub told : Bool → Option (List ℕ) → Option (List ℕ)
told owes None = None
told owes (Some held) = if are_owed owes held then Some (without_line_feeds false held) else None

-- the bytes of a part of a text: in it no carriage return stands, but one may end it
abbrev pub bytes_of : List ℕ → Bool → List ℕ
bytes_of plain true = plain ++ 13 ∷ []
bytes_of plain false = plain

-- a text begins with this part, up to and with the first carriage return
pub record IsFirstPart (text plain : List ℕ) (is_ended : Bool) : Type 0 where
  pub rest : List ℕ
  pub split : text ≡ bytes_of plain is_ended ++ rest
  pub none : ¬ Contains plain 13
  pub some : 0 < length (bytes_of plain is_ended)
  pub short : length plain ≤ 2048
