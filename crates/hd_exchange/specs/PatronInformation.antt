-- The replies that report what a patron has (64).
use Rattle.std.specs.Prelude.{◌≡◌, ⊤, ℕ, ◌<◌, ◌≤◌, List, [], Option, None, Some, length, map, take}
use Rattle.std.specs.Borrow.{Bor}
use Rattle.hd_message.specs.declared.patron_reply.ItemList.{ItemList}
use Rattle.hd_message.specs.declared.patron_reply.PasswordValidity.{PasswordValidity}
use Rattle.hd_message.specs.declared.patron_reply.PasswordValidity.TheVariants.{Unasked, Right, Wrong}
use Rattle.hd_message.specs.declared.patron_reply.PatronInformationOutcome.{PatronInformationOutcome}
use Rattle.hd_message.specs.declared.patron_reply.PatronInformationOutcome.TheVariants as OfInformation
use Rattle.hd_message.specs.declared.patron_reply.PatronInformationReply.{PatronInformationReply}
use Rattle.hd_patrons.specs.Stored.{Stored}
use Rattle.hd_rules.specs.Desk.{Desk}
use Rattle.hd_rules.specs.Facts.{Facts}
use Rattle.hd_rules.specs.Numbers.{PatronNo}
use Rattle.hd_rules.specs.Views.{page, view}
use Rattle.hd_rules.specs.declared.views.ListItem.{ListItem}
use Rattle.hd_rules.specs.declared.views.ListItem.TheVariants.{Copy as CopyItem, Title as TitleItem}
use Rattle.hd_rules.specs.declared.views.PatronView.{PatronView}
use Rattle.hd_rules.specs.declared.views.Wanted.{Wanted}
use Rattle.hd_catalogue.specs.Contents.{Contents, copy_name, facts_of, title_name}
use Rattle.hd_exchange.specs.ToldPatrons.{IsToldOf, counts_of}
use Rattle.hd_exchange.specs.declared.patron_message.PatronLook.{PatronLook}
use Rattle.hd_exchange.specs.declared.patron_message.PatronQuestion.{PatronQuestion}
use Rattle.hd_exchange.specs.declared.patron_message.PatronQuestion.TheVariants as about
use Rattle.hd_exchange.specs.declared.patron_message.PatronValues.{PatronValues}
use Rattle.hd_exchange.specs.declared.patron_reader.TheConstants.{MOST_ITEMS}

-- The reply, in this language, to a message with these values.
pub record IsInformationReply (k : Contents) (values : PatronValues) (spoken : List ℕ)
    (reply : PatronInformationReply) : Type 0 where
  pub language : reply.language.now ≡ spoken
  pub date : reply.date.now ≡ values.date
  pub institution : reply.institution.now ≡ k.institution
  pub patron : reply.patron.now ≡ values.patron.now

-- the part of a list that is wanted, where the question wants one
abbrev pub list_asked : PatronQuestion → Option Wanted
list_asked (about.Information wanted) = wanted
list_asked about.Status = None
list_asked about.Block = None
list_asked about.RenewAll = None

-- the part of it that may be read where the password is checked so: none where it is wrong
abbrev pub list_allowed : PasswordValidity → Option Wanted → Option Wanted
list_allowed Unasked wanted = wanted
list_allowed Right wanted = wanted
list_allowed Wrong wanted = None

-- the question that may be asked then: no list is asked with a wrong password
abbrev pub question_allowed : PasswordValidity → PatronQuestion → PatronQuestion
question_allowed check (about.Information wanted) = about.Information (list_allowed check wanted)
question_allowed check about.Status = about.Status
question_allowed check about.Block = about.Block
question_allowed check about.RenewAll = about.RenewAll

-- and the look that asks it
abbrev pub look_allowed : PasswordValidity → PatronLook → PatronLook
look_allowed check look = record {
  patron = look.patron;
  day = look.day;
  question = question_allowed check look.question;
}

module _ (k : Contents) (desk : Desk) (look : PatronLook) where
  -- what the desk has of the patron, as numbers
  abbrev pub view_seen : PatronView
  view_seen = view (facts_of k) desk look.patron look.day

  -- the items of the part of a list that is wanted: more than there is room for in a reply are left out
  abbrev pub items_wanted : Option Wanted → List ListItem
  items_wanted None = []
  items_wanted (Some wanted) = take MOST_ITEMS (page (facts_of k) desk look.patron look.day wanted)

  -- those that a look sees
  abbrev pub items_seen : List ListItem
  items_seen = items_wanted (list_asked look.question)

-- an item of the catalogue
abbrev pub IsItemOf : Facts → ListItem → Type 0
IsItemOf k (CopyItem c) = c < k.copies
IsItemOf k (TitleItem t) = t < k.titles

-- the name of an item
abbrev pub item_name : Contents → ListItem → Option (List ℕ)
item_name k (CopyItem c) = copy_name k c
item_name k (TitleItem t) = title_name k t

-- a name that has a byte
abbrev pub HasBytes : Bor (List ℕ) → Type 0
HasBytes name = 1 ≤ length name.now

-- these names, one by one, are those of the items
abbrev pub AreNamesOf : Contents → List ListItem → List (Bor (List ℕ)) → Type 0
AreNamesOf k items names = map (λ (name : Bor (List ℕ)). Some name.now) names ≡ map (item_name k) items

-- the list that is wanted, of these items, if one is wanted
abbrev pub IsListOfItems : Contents → Option Wanted → List ListItem → Option ItemList → Type 0
IsListOfItems k None items None = ⊤
IsListOfItems k (Some wanted) items (Some list) =
    (list.summary ≡ wanted.summary) × AreNamesOf k items list.names.now
IsListOfItems k _ items _ = ⊥

-- what is reported of a patron of whom this view and these items are seen, with the password checked so
abbrev pub IsKnownInformation : Contents → Option Stored → PatronNo → PasswordValidity → PatronView
    → List ListItem → Option Wanted → PatronValues → PatronInformationOutcome → Type 0
IsKnownInformation k file p check seen items wanted values (OfInformation.Known known counts limit list) =
    IsToldOf file p check seen values.patron.now known
    × (counts ≡ counts_of seen)
    × (limit ≡ seen.loan_limit)
    × IsListOfItems k wanted items list
IsKnownInformation k file p check seen items wanted values _ = ⊥
