-- The lists, and their table.
use Rattle.std.specs.Prelude.{ℕ, Bool, true, false, not, ◌&&◌, List, [], ◌∷◌, Option, codes, find}
use Rattle.std.specs.Str.{bytes_eq}
use Rattle.hd_lists.specs.declared.list.Kind.{Kind}
use Rattle.hd_lists.specs.declared.list.Kind.TheVariants as kind
use Rattle.hd_lists.specs.declared.list.KeyKind.{KeyKind}
use Rattle.hd_lists.specs.declared.list.KeyKind.TheVariants as by
use Rattle.hd_lists.specs.declared.list.Listing.{Listing}
use Rattle.hd_lists.specs.declared.list.Listing.TheVariants.{Copies, Copy, Queue, Patron, Shelf, Transits}
use Rattle.hd_lists.specs.declared.list.Listing.TheVariants.{Transit, Overdue, Expired, Turns, Command}

-- the word of a kind
abbrev pub kind_word : Kind → List ℕ
kind_word kind.Copy = codes "copy"
kind_word kind.Title = codes "title"
kind_word kind.Patron = codes "patron"
kind_word kind.Branch = codes "branch"

-- each list once
abbrev pub all_lists : List Listing
all_lists =
    Copies ∷ Copy ∷ Queue ∷ Patron ∷ Shelf ∷ Transits ∷ Transit ∷ Overdue ∷ Expired ∷ Turns ∷ Command ∷ []

-- what the table has of a list
pub record RowText : Type 0 where
  pub word : List ℕ
  pub folder : List ℕ
  pub part : List ℕ
  pub key : KeyKind
  pub heads : List ℕ

abbrev pub row : List ℕ → List ℕ → List ℕ → KeyKind → List ℕ → RowText
row word folder part key heads =
    record { word = word; folder = folder; part = part; key = key; heads = heads }

-- the table: its word, what is before the key in its path and what after it, what it is asked by, and the
-- headings that people are shown, with a blank between two
abbrev pub row_of : Listing → RowText
row_of Copies = row (codes "copies") (codes "copies") [] by.Whole
    (codes "copy title home state branch to place patron due renewals")
row_of Copy = row (codes "copy") (codes "copies") [] (by.Name kind.Copy)
    (codes "copy title state branch to place patron due")
row_of Queue = row (codes "title") (codes "titles") (codes "/queue") (by.Name kind.Title)
    (codes "position patron stamp admits only pickup until copy")
row_of Patron = row (codes "patron") (codes "patrons") [] (by.Name kind.Patron)
    (codes "row copy title due renewals position pickup until")
row_of Shelf = row (codes "shelf") (codes "branches") (codes "/shelf") (by.Name kind.Branch)
    (codes "place copy title patron")
row_of Transits = row (codes "transits") (codes "transits") [] by.Whole
    (codes "copy title branch to patron")
row_of Transit = row (codes "transit") (codes "branches") (codes "/transit") (by.Name kind.Branch)
    (codes "copy title branch to patron")
row_of Overdue = row (codes "overdue") (codes "overdue") [] by.Day
    (codes "copy title patron due renewals")
row_of Expired = row (codes "expired") (codes "expired") [] by.Day
    (codes "title patron stamp admits only pickup until copy")
row_of Turns = row (codes "turns") (codes "turns") [] by.Most
    (codes "turn terminal asked day patron copy title outcome number why")
row_of Command = row (codes "command") (codes "commands") [] by.Number
    (codes "row asked day patron copy title state branch due pickup dependent")

abbrev pub word_of : Listing → List ℕ
word_of list = (row_of list).word

abbrev pub folder_of : Listing → List ℕ
folder_of list = (row_of list).folder

abbrev pub part_of : Listing → List ℕ
part_of list = (row_of list).part

abbrev pub key_of : Listing → KeyKind
key_of list = (row_of list).key

abbrev pub heads_of : Listing → List ℕ
heads_of list = (row_of list).heads

-- the key is in the path
abbrev pub is_in_path : KeyKind → Bool
is_in_path (by.Name kind) = true
is_in_path by.Number = true
is_in_path by.Day = false
is_in_path by.Whole = false
is_in_path by.Most = false

-- it is at this folder, with this part after its key
abbrev pub is_named_at : List ℕ → List ℕ → Listing → Bool
is_named_at folder part list =
    is_in_path (key_of list) && bytes_eq (folder_of list) folder && bytes_eq (part_of list) part

-- it is at this folder, with no key in its path
abbrev pub is_bare_at : List ℕ → Listing → Bool
is_bare_at folder list = not (is_in_path (key_of list)) && bytes_eq (folder_of list) folder

-- the list of this word, if there is one
unfoldable pub list_called : List ℕ → Option Listing
list_called word = find (λ list. bytes_eq (word_of list) word) all_lists
