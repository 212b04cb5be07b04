-- What a member tells, by the catalogue's names.
use Rattle.std.specs.Prelude.{◌≡◌, ⊤, ℕ, Bool, true, false, nat_lt, Option, Some, None, option_and_then}
use Rattle.std.specs.Prelude.{option_map, if◌then◌else◌, List, [], ◌∷◌}
use Rattle.hd_rules.specs.Numbers.{CopyNo}
use Rattle.hd_rules.specs.RefusalTexts.{words_of}
use Rattle.hd_catalogue.specs.Contents.{Contents, branch_name, copy_name, facts_of, patron_name}
use Rattle.hd_catalogue.specs.Contents.{terminal_name, title_name}
use Rattle.hd_json.specs.Texts.{Member, Value}
use Rattle.hd_json.specs.Values.{nothing, number, text}
use Rattle.hd_day_text.specs.Days.{IsDayText}
use Rattle.hd_list_rows.specs.PageValue.{PageValue}
use Rattle.hd_list_pages.specs.declared.part.Column.{Column}
use Rattle.hd_list_pages.specs.declared.part.Part.{Part}
use Rattle.hd_list_pages.specs.declared.part.Part.TheVariants as part
use Rattle.hd_list_pages.specs.declared.part.Plain.{Plain}
use Rattle.hd_list_pages.specs.declared.part.Plain.TheVariants as plain
use Rattle.hd_list_pages.specs.Columns.{page_columns}
use Rattle.hd_list_pages.specs.Words.{heading_text, word_text}

-- a text, or nothing where there is none
abbrev pub text_if_any : Option (List ℕ) → Value
text_if_any None = nothing
text_if_any (Some bytes) = text bytes

-- a number, or nothing
abbrev pub number_if_any : Option ℕ → Value
number_if_any None = nothing
number_if_any (Some n) = number n

module _ (k : Contents) where
  -- the name of a copy's title, where the catalogue has the copy
  abbrev pub title_name_of : CopyNo → Option (List ℕ)
  title_name_of c = if nat_lt c (facts_of k).copies then title_name k ((facts_of k).title_of c) else None

  -- the name of its home
  abbrev pub home_name_of : CopyNo → Option (List ℕ)
  home_name_of c = if nat_lt c (facts_of k).copies then branch_name k ((facts_of k).home c) else None

  -- what is told but for days
  abbrev pub plain_value : Plain → Value
  plain_value (plain.Word w) = text_if_any (option_map word_text w)
  plain_value (plain.Refusal why) = text_if_any (option_map words_of why)
  plain_value (plain.Number n) = number_if_any n
  plain_value (plain.Copy c) = text_if_any (option_and_then (copy_name k) c)
  plain_value (plain.TitleOf c) = text_if_any (option_and_then title_name_of c)
  plain_value (plain.HomeOf c) = text_if_any (option_and_then home_name_of c)
  plain_value (plain.Title t) = text_if_any (option_and_then (title_name k) t)
  plain_value (plain.Branch b) = text_if_any (option_and_then (branch_name k) b)
  plain_value (plain.Patron p) = text_if_any (option_and_then (patron_name k) p)
  plain_value (plain.Terminal t) = text_if_any (terminal_name k t)

  -- what is told; a day by its text
  abbrev pub IsValue : Part → Value → Type 0
  IsValue (part.Plain what) value = value ≡ plain_value what
  IsValue (part.Day None) value = value ≡ nothing
  IsValue (part.Day (Some day)) value = (bytes : List ℕ) × IsDayText day bytes × (value ≡ text bytes)

  -- the member with that
  pub record IsMember (c : Column) (member : Member) : Type 0 where
    pub heading : member.name ≡ heading_text c.heading
    pub value : IsValue c.part member.value

-- One by one, these are so.
abbrev pub AreEach : {A B : Type 0} → (A → B → Type 0) → List A → List B → Type 0
AreEach Is [] [] = ⊤
AreEach Is (x ∷ xs) (y ∷ ys) = Is x y × AreEach Is xs ys
AreEach Is [] (y ∷ ys) = ⊥
AreEach Is (x ∷ xs) [] = ⊥

-- there are none
abbrev pub is_none : {A : Type 0} → List A → Bool
is_none [] = true
is_none (x ∷ xs) = false

-- the members of an object
abbrev pub IsObject : Contents → List Column → List Member → Type 0
IsObject k columns members = AreEach (IsMember k) columns members

-- The objects are the rows of the page by names, and where the next one begins, if there is one.
abbrev pub ArePage : Contents → PageValue → List (List Member) → Type 0
ArePage k page objects = AreEach (IsObject k) (page_columns page) objects
