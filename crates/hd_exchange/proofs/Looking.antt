-- What a look saw.
use Rattle.std.proofs.Common.{◌≡◌, ◌<◌, ◌≤◌, arith, refl, sym, ◌∙◌, subst, List, length, All, Option, Some}
use Rattle.std.proofs.Common.{None}
use Rattle.std.specs.Prelude.{IsSome}
use Rattle.std.specs.Option.{option_copied}
use Rattle.std.proofs.lemmas.List.{length-take}
use Rattle.std.proofs.lemmas.Option.{same_Some}
use Rattle.hd_message.specs.declared.patron_reply.PasswordValidity.{PasswordValidity}
use Rattle.hd_message.specs.declared.patron_reply.PasswordValidity.TheVariants.{Wrong}
use Rattle.hd_message.specs.declared.patron_reply.PatronReply.{PatronReply}
use Rattle.hd_rules.specs.Desk.{Desk}
use Rattle.hd_rules.specs.Journal.{state_after}
use Rattle.hd_rules.specs.Views.{page}
use Rattle.hd_rules.specs.declared.views.ListItem.{ListItem}
use Rattle.hd_rules.specs.declared.views.PatronView.{PatronView}
use Rattle.hd_rules.specs.declared.views.Wanted.{Wanted}
use Rattle.hd_catalogue.specs.Contents.{Contents, facts_of, patron_name}
use Rattle.hd_journal.specs.Books.{Book}
use Rattle.hd_journal.specs.Looks.{IsJournalOf}
use Rattle.hd_exchange.specs.Extensions.{Extensions}
use Rattle.hd_exchange.specs.PatronInformation.{IsItemOf, items_seen, items_wanted, list_asked, view_seen}
use Rattle.hd_exchange.specs.PatronInformation.{look_allowed, question_allowed}
use Rattle.hd_exchange.specs.PatronReplies.{IsLookReply, IsReplyAt, IsReplyOfLook}
use Rattle.hd_exchange.specs.Seeing.{HasLooked, HasSeen}
use Rattle.hd_exchange.specs.ToldPatrons.{password_told}
use Rattle.hd_exchange.specs.declared.patron_message.PatronLook.{PatronLook}
use Rattle.hd_exchange.specs.declared.patron_message.PatronQuestion.{PatronQuestion}
use Rattle.hd_exchange.specs.declared.patron_message.PatronQuestion.TheVariants as about
use Rattle.hd_exchange.specs.declared.patron_message.PatronValues.{PatronValues}
use Rattle.hd_exchange.specs.declared.patron_reader.PatronReader.{PatronReader}
use Rattle.hd_exchange.proofs.Listing.{items_within}

-- with a wrong password no list is asked
wrong_asks : (question : PatronQuestion) → list_asked (question_allowed Wrong question) ≡ None
wrong_asks about.Status = refl
wrong_asks (about.Information wanted) = refl
wrong_asks about.Block = refl
wrong_asks about.RenewAll = refl

pub none_asked : (check : PasswordValidity) (look made : PatronLook) → made ≡ look_allowed check look
    → check ≡ Wrong → list_asked made.question ≡ None
none_asked check look made is wrong =
    subst (λ (l : PatronLook). list_asked l.question ≡ None) (sym is)
    (subst (λ (c : PasswordValidity). list_asked (question_allowed c look.question) ≡ None) (sym wrong)
    (wrong_asks look.question))

few_wanted : (k : Contents) (d : Desk) (look : PatronLook) (wanted : Option Wanted)
    → length (items_wanted k d look wanted) ≤ 512
few_wanted k d look None = omega arith
few_wanted k d look (Some wanted) =
    omega (arith, length-take 512 (page (facts_of k) d look.patron look.day wanted))

-- of a journal of the catalogue
module _ (k : Contents) (old new : PatronReader) (book : Book) (is : IsJournalOf k book)
    (saw : HasSeen old book new) where
  abbrev desk_shown : Desk
  desk_shown = (state_after (facts_of k) book.turns).desk

  view_is : new.view ≡ Some (view_seen k desk_shown old.look)
  view_is =
      subst (λ (c : Contents). new.view
      ≡ Some (view_seen c (state_after (facts_of c) book.turns).desk old.look)) is.contents
      saw.view

  items_are : new.items.items ≡ items_seen k desk_shown old.look
  items_are =
      subst (λ (c : Contents). new.items.items
      ≡ items_seen c (state_after (facts_of c) book.turns).desk old.look) is.contents
      saw.items

  pub all_seen : old.look.patron < (facts_of k).patrons → All (IsItemOf (facts_of k)) new.items.items
  all_seen patron =
      subst (λ (xs : List ListItem). All (IsItemOf (facts_of k)) xs) (sym items_are)
      (items_within k desk_shown old.look (list_asked old.look.question) is.legal.known.desk patron)

  pub few_seen : length new.items.items ≤ 512
  few_seen =
      subst (λ (xs : List ListItem). length xs ≤ 512) (sym items_are)
      (few_wanted k desk_shown old.look (list_asked old.look.question))

  -- about the patron whom the message names
  pub has_looked : (v : PatronValues) (check : PasswordValidity) (look : PatronLook)
      → old.look ≡ look_allowed check look → look.patron < (facts_of k).patrons
      → patron_name k look.patron ≡ Some v.patron.now → HasLooked k v new
  has_looked v check look made patron named =
      let same : new.look ≡ look_allowed check look = saw.same ∙ made in
      let there : old.look.patron < (facts_of k).patrons =
      subst (λ (l : PatronLook). l.patron < (facts_of k).patrons) (sym made) patron in
      record {
        known = subst (λ (l : PatronLook). l.patron < (facts_of k).patrons) (sym same) patron;
        named = subst (λ (l : PatronLook). patron_name k l.patron ≡ Some v.patron.now) (sym same) named;
        looked = subst (λ (seen : Option PatronView). IsSome seen) (sym view_is) refl;
        items = all_seen there;
        few = few_seen;
      }

  -- the reply of what it saw, where the look asked what the password allows
  pub said_of : (v : PatronValues) (e : Extensions) (check : PasswordValidity) (seen : PatronView)
      (told : PatronReply) (look : PatronLook)
      → check ≡ password_told e.patrons look.patron (option_copied v.password)
      → old.look ≡ look_allowed check look → new.view ≡ Some seen
      → IsLookReply k v e new.look.patron check seen new.items.items new.look.question told
      → IsReplyAt k v e look desk_shown told
  said_of v e check seen told look checked made viewed says =
      let same : seen ≡ view_seen k desk_shown old.look = same_Some _ _ (sym viewed ∙ view_is) in
      subst (λ (c : PasswordValidity). IsReplyOfLook k v e c (look_allowed c look) desk_shown told) checked
      (subst (λ (l : PatronLook). IsReplyOfLook k v e check l desk_shown told) made
      (subst (λ (l : PatronLook). IsLookReply k v e l.patron check (view_seen k desk_shown old.look)
      (items_seen k desk_shown old.look)
      l.question told) saw.same
      (subst (λ (w : PatronView). IsLookReply k v e new.look.patron check w (items_seen k desk_shown old.look)
      new.look.question told) same
      (subst (λ (xs : List ListItem). IsLookReply k v e new.look.patron check seen xs new.look.question told)
      items_are says))))
