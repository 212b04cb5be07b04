-- Answers, and the bytes that they come in.
use Rattle.std.specs.Prelude.{◌≡◌, ℕ, Bool, List, [], ◌∷◌, Option, Some, None, codes, length, map}
use Rattle.std.specs.Prelude.{if◌then◌else◌, ◌<◌, ◌^◌}
use Rattle.std.specs.Str.{str_eq_ignore_ascii_case}
use Rattle.std.specs.Str.Parse.{IsNumeral, digits_value, without_leading_plus}
use Rattle.httparse.specs.Grammar.{ReadsResponse, ResponseHead, status_code}
use Rattle.httparse.specs.Spans.{name_and_value}
use Rattle.hd_door_client.specs.declared.answer.Answer.{Answer}

-- a text is this number: its digits, behind a plus or none
abbrev pub IsNumberOf : List ℕ → ℕ → Type 0
IsNumberOf text n =
    IsNumeral 10 (without_leading_plus text) × (n ≡ digits_value 10 (without_leading_plus text))

-- it is no number below 2 ^ 64
abbrev pub IsNoNumber : List ℕ → Type 0
IsNoNumber text = (n : ℕ) → n < 2 ^ 64 → ¬ IsNumberOf text n

-- a field of this name tells the length of a body, whatever the case of its letters
unfoldable pub is_length : List ℕ → Bool
is_length name = str_eq_ignore_ascii_case (codes "content-length") name

-- what the first such field of a head says
abbrev pub length_value : List (List ℕ × List ℕ) → Option (List ℕ)
length_value [] = None
length_value (field ∷ fields) = if is_length field.0 then Some field.1 else length_value fields

-- the first such field of a head tells this length
pub record TellsLength (fields : List (List ℕ × List ℕ)) (len : ℕ) : Type 0 where
  pub value : List ℕ
  pub first : length_value fields ≡ Some value
  pub number : IsNumberOf value len

-- These bytes are a response with this status, and behind its head comes this body, which ends them. It is as
-- long as the head tells.
pub record IsAnswerIn (bytes : List ℕ) (answer : Answer) : Type 0 where
  pub head : ResponseHead
  pub reads : ReadsResponse bytes head answer.body.items
  pub status : answer.status ≡ status_code head
  pub tells : TellsLength (map name_and_value head.fields) (length answer.body.items)
