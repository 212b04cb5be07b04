-- Targets by which questions are asked.
use Rattle.std.specs.Prelude.{◌≡◌, ℕ, ◌<◌, ◌≤◌, ◌^◌, All, List, [], ◌∷◌, ◌++◌, codes, decimal}
use Rattle.percent_encoding.specs.Percent.{percent_encode}
use Rattle.hd_lists.specs.declared.asking.TheConstants.{ESCAPED}
use Rattle.hd_lists.specs.declared.list.KeyKind.{KeyKind}
use Rattle.hd_lists.specs.declared.list.KeyKind.TheVariants as by
use Rattle.hd_lists.specs.declared.question.Key.{Key}
use Rattle.hd_lists.specs.declared.question.Key.TheVariants.{Name, Day, Number, Whole, Most}
use Rattle.hd_lists.specs.declared.question.Question.{Question}
use Rattle.hd_lists.specs.Lists.{folder_of, key_of, part_of}

-- the rest of the path, after the folder
abbrev pub rest_text : Key (List ℕ) → List ℕ → List ℕ
rest_text (Name name) part = 47 ∷ (percent_encode ESCAPED name ++ part)
rest_text (Number number) part = 47 ∷ (decimal number ++ part)
rest_text (Day day) part = []
rest_text Whole part = []
rest_text (Most most) part = []

-- the query
abbrev pub query_text : Key (List ℕ) → ℕ → List ℕ
query_text (Name name) after = codes "?after=" ++ decimal after
query_text (Day day) after = codes "?day=" ++
    (percent_encode ESCAPED day ++ (codes "&after=" ++ decimal after))
query_text (Most most) after = codes "?after=" ++ (decimal after ++ (codes "&limit=" ++ decimal most))
query_text (Number number) after = []
query_text Whole after = codes "?after=" ++ decimal after

-- the target of a question
abbrev pub target_text : Question (List ℕ) → List ℕ
target_text q =
    codes "/api/" ++ (folder_of q.list ++ (rest_text q.key (part_of q.list) ++ query_text q.key q.after))

-- a number that is read in a target
abbrev pub IsShort : ℕ → Type 0
IsShort n = n < 10 ^ 19

abbrev pub AreBytes : List ℕ → Type 0
AreBytes bytes = All (λ b. b < 256) bytes

-- a key of this kind, with where its page begins
abbrev pub IsOf : KeyKind → Key (List ℕ) → ℕ → Type 0
IsOf (by.Name kind) (Name name) after = AreBytes name × IsShort after
IsOf by.Day (Day day) after = AreBytes day × IsShort after
IsOf by.Number (Number number) after = IsShort number × (after ≡ 0)
IsOf by.Whole Whole after = IsShort after
IsOf by.Most (Most most) after = (0 < most) × (most ≤ 512) × IsShort after
IsOf _ _ after = ⊥

-- the key is of the list's kind
abbrev pub IsProper : Question (List ℕ) → Type 0
IsProper q = IsOf (key_of q.list) q.key q.after
