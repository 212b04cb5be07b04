-- What a look goes over.
use Rattle.std.specs.Prelude.{ℕ, ◌<◌, ⊤}
use Rattle.hd_lists.specs.declared.list.Kind.TheVariants as kind
use Rattle.hd_lists.specs.declared.list.Kind.{Kind}
use Rattle.hd_lists.specs.declared.list.KeyKind.TheVariants as by
use Rattle.hd_lists.specs.declared.list.KeyKind.{KeyKind}
use Rattle.hd_lists.specs.declared.list.Listing.TheVariants as list
use Rattle.hd_lists.specs.declared.list.Listing.{Listing}
use Rattle.hd_lists.specs.declared.question.Key.TheVariants.{Day, Most, Name, Number}
use Rattle.hd_lists.specs.declared.question.Key.{Key}
use Rattle.hd_rules.specs.Facts.{Facts}
use Rattle.hd_list_rows.specs.declared.topic.Topic.TheVariants as topic
use Rattle.hd_list_rows.specs.declared.topic.Topic.{Topic}

-- what a look for a page of a list goes over; a list that isn't named here is of copies
abbrev pub topic_of : Listing → Key ℕ → Topic
topic_of list.Copy (Name copy) = topic.Copy copy
topic_of list.Queue (Name title) = topic.Queue title
topic_of list.Patron (Name patron) = topic.Patron patron
topic_of list.Expired (Day day) = topic.Expired day
topic_of list.Turns (Most most) = topic.Turns most
topic_of list.Command (Number number) = topic.Command number
topic_of _ key = topic.Copies

-- how many there are of a kind
abbrev pub count_of : Facts → Kind → ℕ
count_of k kind.Copy = k.copies
count_of k kind.Title = k.titles
count_of k kind.Patron = k.patrons
count_of k kind.Branch = k.branches

-- where a list is of something that has a name, its number is one of the catalogue
abbrev pub IsNumberOf : Facts → KeyKind → Key ℕ → Type 0
IsNumberOf k (by.Name kind) (Name n) = n < count_of k kind
IsNumberOf k _ _ = ⊤

-- what a look goes over is of the catalogue
abbrev pub IsTopicOf : Facts → Topic → Type 0
IsTopicOf k (topic.Copy copy) = copy < k.copies
IsTopicOf k (topic.Queue title) = title < k.titles
IsTopicOf k (topic.Patron patron) = patron < k.patrons
IsTopicOf k _ = ⊤
