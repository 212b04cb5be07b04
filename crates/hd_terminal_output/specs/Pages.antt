-- What a server is asked for a page of a list.
use Rattle.std.specs.Prelude.{ℕ, List}
use Rattle.std.specs.Borrow.{Bor}
use Rattle.hd_lists.specs.declared.list.Listing.{Listing}
use Rattle.hd_lists.specs.declared.question.Key.{Key}
use Rattle.hd_lists.specs.declared.question.Key.TheVariants.{Name, Day, Number, Whole, Most}
use Rattle.hd_lists.specs.declared.question.Question.{Question}

-- the key of a page, of which a list of turns has so many rows at most
abbrev pub page_key : Key (Bor (List ℕ)) → ℕ → Key (List ℕ)
page_key (Name name) most = Name name.now
page_key (Day day) most = Day day.now
page_key (Number number) most = Number number
page_key Whole most = Whole
page_key (Most limit) most = Most most

-- the question for the page of a list that begins there
abbrev pub page_asked : Listing → Key (Bor (List ℕ)) → ℕ → ℕ → Question (List ℕ)
page_asked list key after most = record { list = list; key = page_key key most; after = after }
