-- What may be seen of what is asked.
use Rattle.std.specs.Prelude.{◌≡◌, ⊤, ℕ, Bool, true, false, Option, Some, None, List, []}
use Rattle.hd_rules.specs.Facts.{Facts}
use Rattle.hd_catalogue.specs.Contents.{Contents, branch_number, copy_number, patron_number, title_number}
use Rattle.hd_journal.specs.Books.{Book}
use Rattle.hd_lists.specs.declared.list.Kind.{Kind}
use Rattle.hd_lists.specs.declared.list.Kind.TheVariants as kind
use Rattle.hd_lists.specs.declared.list.KeyKind.{KeyKind}
use Rattle.hd_lists.specs.declared.list.KeyKind.TheVariants as by
use Rattle.hd_lists.specs.declared.list.Listing.{Listing}
use Rattle.hd_lists.specs.declared.list.Listing.TheVariants as list
use Rattle.hd_lists.specs.declared.question.Key.{Key}
use Rattle.hd_lists.specs.declared.question.Key.TheVariants.{Name, Day, Number, Whole, Most}
use Rattle.hd_lists.specs.declared.question.Question.{Question}
use Rattle.hd_lists.specs.Lists.{key_of}
use Rattle.hd_http.specs.Sights.{Sight, Rows, NoSuchName, NoSuchDay, NoSight}
use Rattle.hd_http.specs.declared.view.ViewFault.TheVariants.{Memory, Shut}
use Rattle.hd_day_text.specs.Days.{IsDayText}
use Rattle.hd_list_rows.specs.declared.row.Row.{Row}
use Rattle.hd_list_rows.specs.PageValue.{PageValue}
use Rattle.hd_list_rows.specs.Shown.{IsShown}
use Rattle.hd_list_rows.specs.Topics.{IsNumberOf}
use Rattle.hd_list_pages.specs.declared.looking_up.LookedUp.{LookedUp}
use Rattle.hd_list_pages.specs.declared.looking_up.LookedUp.TheVariants.{Known, NoName, NoDay}
use Rattle.hd_list_pages.specs.Naming.{ArePage}

-- the number of what has a name
abbrev pub number_of : Contents → Kind → List ℕ → Option ℕ
number_of k kind.Copy name = copy_number k name
number_of k kind.Title name = title_number k name
number_of k kind.Patron name = patron_number k name
number_of k kind.Branch name = branch_number k name

abbrev pub with_key : Question (List ℕ) → Key ℕ → Question ℕ
with_key q key = record { list = q.list; key = key; after = q.after }

-- the question, where a name has this number
abbrev pub if_named : Question (List ℕ) → Option ℕ → LookedUp
if_named q None = NoName
if_named q (Some n) = Known (with_key q (Name n))

-- the question by a name of what the list is of
abbrev pub named_up : Contents → Question (List ℕ) → KeyKind → List ℕ → LookedUp
named_up k q (by.Name kind) name = if_named q (number_of k kind name)
named_up k q _ name = NoName

-- the question by the day of a text, where there is such a day
abbrev pub IsDayUp : Question (List ℕ) → List ℕ → LookedUp → Type 0
IsDayUp q text (Known known) = (day : ℕ) × IsDayText day text × (known ≡ with_key q (Day day))
IsDayUp q text NoDay = (day : ℕ) → ¬ IsDayText day text
IsDayUp q text NoName = ⊥

abbrev pub IsKeyUp : Contents → Question (List ℕ) → Key (List ℕ) → LookedUp → Type 0
IsKeyUp k q (Name name) found = found ≡ named_up k q (key_of q.list) name
IsKeyUp k q (Day text) found = IsDayUp q text found
IsKeyUp k q (Number n) found = found ≡ Known (with_key q (Number n))
IsKeyUp k q Whole found = found ≡ Known (with_key q Whole)
IsKeyUp k q (Most n) found = found ≡ Known (with_key q (Most n))

-- what is asked, by the catalogue's numbers
abbrev pub IsLookedUp : Contents → Question (List ℕ) → LookedUp → Type 0
IsLookedUp k q found = IsKeyUp k q q.key found

-- it is of the catalogue
abbrev pub IsKnown : Facts → LookedUp → Type 0
IsKnown k (Known q) = IsNumberOf k (key_of q.list) q.key
IsKnown k _ = ⊤

-- a command was asked for, and there is no such one
abbrev pub is_without_rows : Listing → List Row → Bool
is_without_rows list.Command [] = true
is_without_rows _ rows = false

abbrev pub is_missing : Question ℕ → List Row → Bool
is_missing asked rows = is_without_rows asked.list rows

module _ (k : Contents) (MayShow : Book → Type 0) (MayShut : Type 0) where
  -- What is seen of what is asked: the page of one journal that may be shown, by names; of a command that
  -- isn't there, that it isn't.
  abbrev pub IsSeen : Question ℕ → Sight → Type 0
  IsSeen asked (Rows objects) =
      (book : Book) × MayShow book × (page : PageValue) × IsShown book asked page
      × (is_missing asked page.rows ≡ false) × ArePage k page objects
  IsSeen asked NoSuchName =
      (book : Book) × MayShow book × (page : PageValue) × IsShown book asked page
      × (is_missing asked page.rows ≡ true)
  IsSeen asked NoSuchDay = ⊥
  IsSeen asked (NoSight Memory) = ⊤
  IsSeen asked (NoSight Shut) = MayShut

  -- and of a name or a day that there isn't, that there is none
  abbrev pub IsSightOf : LookedUp → Sight → Type 0
  IsSightOf (Known asked) sight = IsSeen asked sight
  IsSightOf NoName sight = sight ≡ NoSuchName
  IsSightOf NoDay sight = sight ≡ NoSuchDay

  -- What may be seen of what is asked.
  abbrev pub Shows : Question (List ℕ) → Sight → Type 0
  Shows question sight = (found : LookedUp) × IsLookedUp k question found × IsSightOf found sight
