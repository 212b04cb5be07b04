-- Questions, and what becomes of their names.
use Rattle.std.specs.Prelude.{ℕ, List, []}
use Rattle.std.specs.Borrow.{Bor}
use Rattle.hd_lists.specs.declared.question.Key.{Key}
use Rattle.hd_lists.specs.declared.question.Key.TheVariants.{Name, Day, Number, Whole, Most}
use Rattle.hd_lists.specs.declared.question.Question.{Question}
use Rattle.hd_lists.specs.declared.question.Heard.{Heard}
use Rattle.hd_lists.specs.declared.question.Heard.TheVariants.{Nothing, Malformed, Asked}

-- a key whose name or day is mapped
abbrev pub map_key : {M N : Type 0} → (M → N) → Key M → Key N
map_key f (Name name) = Name (f name)
map_key f (Day day) = Day (f day)
map_key f (Number number) = Number number
map_key f Whole = Whole
map_key f (Most most) = Most most

-- a question whose name or day is mapped
abbrev pub map_question : {M N : Type 0} → (M → N) → Question M → Question N
map_question f q = record { list = q.list; key = map_key f q.key; after = q.after }

-- what is heard, its name or day mapped
abbrev pub map_heard : {M N : Type 0} → (M → N) → Heard M → Heard N
map_heard f Nothing = Nothing
map_heard f Malformed = Malformed
map_heard f (Asked q) = Asked (map_question f q)

-- the bytes of a key that is a name or a day; none of another
abbrev pub key_text : Key (Bor (List ℕ)) → List ℕ
key_text (Name name) = name.now
key_text (Day day) = day.now
key_text _ = []
