-- What holds of the texts.
use Rattle.std.specs.Prelude.{ℕ, ◌<◌, ◌^◌, List, All, ⊤}
use Rattle.std.specs.Str.{IsUtf8}
use Rattle.hd_json.specs.Texts.{Member, Value, Nothing, Number, Text, array_text}

-- a byte, and bytes
abbrev pub IsByte : ℕ → Type 0
IsByte b = b < 256

abbrev pub AreBytes : List ℕ → Type 0
AreBytes bytes = All IsByte bytes

-- a number of 64 bits, bytes, or nothing
abbrev pub IsTold : Value → Type 0
IsTold Nothing = ⊤
IsTold (Number n) = n < 2 ^ 64
IsTold (Text bytes) = AreBytes bytes

-- a member that a program can tell
abbrev pub IsToldMember : Member → Type 0
IsToldMember m = AreBytes m.name × IsTold m.value

-- an array of objects is UTF-8, whatever bytes its names and its texts have
abbrev pub ArraysAreUtf8 : Type 0
ArraysAreUtf8 = (rows : List (List Member)) → All (All IsToldMember) rows → IsUtf8 (array_text rows)
