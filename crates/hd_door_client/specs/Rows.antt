-- The rows of a page.
use Rattle.std.specs.Prelude.{◌≡◌, ⊤, ℕ, List, [], ◌∷◌, ◌++◌, Option, Some, None, option_and_then, codes}
use Rattle.std.specs.Prelude.{◌≤◌, Contains, IsUtf8, decimal, false, is_some, true}
use Rattle.serde_json.specs.Data.{Data, Items, depth, null, number, string, unsigned, no_items, item}
use Rattle.serde_json.specs.Find.{as_array, as_number, as_u64, get}
use Rattle.serde_json.specs.Read.{max_depth, read}
use Rattle.serde_json.specs.Written.{compact_text, has_float}
use Rattle.hd_door_client.specs.declared.fault.AskFault.{AskFault}
use Rattle.hd_door_client.specs.declared.fault.AskFault.TheVariants.{Memory, Unreadable}

-- A body is this page: it is JSON in UTF-8, and an array.
pub record IsPage (body : List ℕ) (page : Data) : Type 0 where
  pub text : IsUtf8 body
  pub reads : read body ≡ Some page
  pub array : is_some (as_array page) ≡ true

-- why a body isn't read: it is no page, or memory is wanting
abbrev pub IsUnread : List ℕ → AskFault → Type 0
IsUnread body Unreadable = (page : Data) → ¬ IsPage body page
IsUnread body Memory = ⊤
IsUnread body fault = ⊥

-- the items of what is an array
abbrev pub items_in : Option Items → Items
items_in None = no_items
items_in (Some rows) = rows

-- all objects of a page
abbrev pub all_in : Data → Items
all_in page = items_in (as_array page)

-- the last of them, if there is one
abbrev pub last_of : Items → Option Data
last_of no_items = None
last_of (item row no_items) = Some row
last_of (item row (item next rows)) = last_of (item next rows)

-- where the next page begins, by an object
abbrev pub next_told : Data → Option ℕ
next_told row = option_and_then as_u64 (option_and_then as_number (get (codes "next") row))

-- where the next page begins, if there is one: the last object tells it
abbrev pub next_in : Data → Option ℕ
next_in page = option_and_then next_told (last_of (all_in page))

-- all but the last
abbrev pub but_last : Items → Items
but_last no_items = no_items
but_last (item row no_items) = no_items
but_last (item row (item next rows)) = item row (but_last (item next rows))

-- the rows among the objects of a page, by where the next page begins, if there is one: all, or all but the
-- last, which tells that
abbrev pub rows_of : Option ℕ → Items → Items
rows_of None all = all
rows_of (Some next) all = but_last all

-- the rows of a page
abbrev pub rows_in : Data → Items
rows_in page = rows_of (next_in page) (all_in page)

-- the text of rows, and a comma (44) behind it where there is any
abbrev pub with_comma : List ℕ → List ℕ
with_comma [] = []
with_comma (byte ∷ rows) = (byte ∷ rows) ++ 44 ∷ []

-- Between its brackets (91, 93) the text of a page has this text of its rows. Where there is a next page, a
-- last object stands behind them, with no brace (123) but the one that opens it.
abbrev pub HasRows : Option ℕ → List ℕ → List ℕ → Type 0
HasRows None text rows = text ≡ 91 ∷ (rows ++ 93 ∷ [])
HasRows (Some next) text rows =
    (object : List ℕ) × (¬ Contains object 123) × (text ≡ 91 ∷ (with_comma rows ++ 123 ∷ object))

-- a text is this value as JSON: with no space where the value has no float, and it reads as the value
pub record IsJsonOf (value : Data) (text : List ℕ) : Type 0 where
  pub compact : has_float value ≡ false → text ≡ compact_text value
  pub reads : depth value ≤ max_depth → read text ≡ Some value

-- the text of what a row has under a name: none where it has nothing there, a text as it is told, a whole
-- number by its digits, and all else as JSON
abbrev pub IsCell : Option Data → List ℕ → Type 0
IsCell None text = text ≡ []
IsCell (Some null) text = text ≡ []
IsCell (Some (string told)) text = text ≡ told
IsCell (Some (number (unsigned n))) text = text ≡ decimal n
IsCell (Some value) text = IsJsonOf value text
