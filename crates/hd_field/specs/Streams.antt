-- Streams of bytes, and their lines.
use Rattle.std.specs.Prelude.{ℕ, ◌==◌, ◌&&◌, Bool, true, false, List, [], ◌∷◌, ◌++◌, length, map, nat_lt}
use Rattle.std.specs.Prelude.{if◌then◌else◌}

-- What has come of a line: whether nothing has come since a carriage return but line
-- feeds, which belong to no line; its bytes; and whether it has grown too long.
pub record Begun : Type 0 where
  pub fresh : Bool
  pub text : List ℕ
  pub too_long : Bool

-- at the start of a stream
abbrev pub stream_start : Begun
stream_start = record { fresh = false; text = []; too_long = false }

-- after a carriage return (13)
abbrev pub after_return : Begun
after_return = record { fresh = true; text = []; too_long = false }

-- with one byte more that is no carriage return: a line feed (10)
-- after one belongs to no line, and a line has at most 1,024 bytes
abbrev pub with_byte : Begun → ℕ → Begun
with_byte begun byte =
    if begun.fresh && (byte == 10) then begun
    else if nat_lt (length begun.text) 1024 then record {
      fresh = false;
      text = begun.text ++ byte ∷ [];
      too_long = false;
    }
    else record { fresh = false; text = begun.text; too_long = true }

-- the lines that end in some bytes; after one that grows too long there are none
abbrev pub lines_in : Begun → List ℕ → List (List ℕ)
lines_in begun [] = []
lines_in begun (byte ∷ bytes) =
    if begun.too_long then []
    else if byte == 13 then begun.text ∷ lines_in after_return bytes
    else lines_in (with_byte begun byte) bytes

-- what has come of a line after them
abbrev pub begun_after : Begun → List ℕ → Begun
begun_after begun [] = begun
begun_after begun (byte ∷ bytes) =
    if begun.too_long then begun
    else if byte == 13 then begun_after after_return bytes
    else begun_after (with_byte begun byte) bytes

-- bytes without the line feeds at their beginning
abbrev pub without_feeds : List ℕ → List ℕ
without_feeds [] = []
without_feeds (byte ∷ bytes) = if byte == 10 then without_feeds bytes else byte ∷ bytes

-- A text's parts between its carriage returns: the first, and those behind one.
pub record Parts : Type 0 where
  pub first : List ℕ
  pub behind : List (List ℕ)

abbrev pub parts_of : List ℕ → Parts
parts_of [] = record { first = []; behind = [] }
parts_of (byte ∷ bytes) =
    if byte == 13 then record { first = []; behind = (parts_of bytes).first ∷ (parts_of bytes).behind }
    else record { first = byte ∷ (parts_of bytes).first; behind = (parts_of bytes).behind }

-- the lines of a whole text, and last what no carriage return ends: its first
-- part as it is, and each other without the line feeds at its beginning
abbrev pub cut : List ℕ → List (List ℕ)
cut text = (parts_of text).first ∷ map without_feeds (parts_of text).behind
