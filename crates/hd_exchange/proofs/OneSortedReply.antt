-- What is told with sorter fields is spelled in one way.
use Rattle.std.proofs.Common.{◌≡◌, ℕ, Bool, true, false, MatchBool, List, [], ◌++◌, Option, Some, None}
use Rattle.std.proofs.Common.{Result, refl, sym, ap, ◌∙◌}
use Rattle.std.proofs.lemmas.Option.{same_Some}
use Rattle.std.specs.List.{concat}
use Rattle.std.specs.Option.{option_copied, unwrap_or}
use Rattle.std.specs.Borrow.{Bor}
use Rattle.hd_message.specs.ItemReplies.{item_text}
use Rattle.hd_message.specs.Replies.{reply_text}
use Rattle.hd_message.specs.SorterReplies.{recipient_layout, sorter_layout}
use Rattle.hd_message.specs.declared.kind.DeskKind.{DeskKind}
use Rattle.hd_message.specs.declared.kind.DeskKind.TheVariants as kind
use Rattle.hd_message.specs.declared.reply.Reply.{Reply}
use Rattle.hd_message.specs.declared.reply.Reply.TheVariants as reply
use Rattle.hd_message.specs.declared.sorter_reply.Destination.{Destination}
use Rattle.hd_message.specs.declared.sorter_reply.Destination.TheVariants.{OpenShelf, HoldShelf, Transit}
use Rattle.hd_message.specs.declared.sorter_reply.Recipient.{Recipient}
use Rattle.hd_message.specs.declared.sorter_reply.SorterReply.{SorterReply}
use Rattle.hd_patrons.specs.Stored.{Stored}
use Rattle.hd_rules.specs.declared.copies.CopyState.{CopyState}
use Rattle.hd_rules.specs.declared.copies.CopyState.TheVariants.{Shelf, OnLoan, OnHoldShelf, InTransit}
use Rattle.hd_rules.specs.declared.replies.ItemView.{ItemView}
use Rattle.hd_rules.specs.declared.replies.Refusal.{Refusal}
use Rattle.hd_rules.specs.declared.replies.Reply.TheVariants.{Deleted, Held, LentOrRenewed, Returned}
use Rattle.hd_rules.specs.declared.replies.TurnReply.{TurnReply}
use Rattle.hd_rules.specs.declared.replies.TurnReply.TheVariants.{Cancelled, Done, Item, Refused}
use Rattle.hd_rules.specs.declared.turns.Asked.{Asked}
use Rattle.hd_catalogue.specs.Contents.{Contents}
use Rattle.hd_exchange.specs.Answers.{IsReplyWith}
use Rattle.hd_exchange.specs.Extensions.{Extensions}
use Rattle.hd_exchange.specs.Replies.{IsReply}
use Rattle.hd_exchange.specs.Sorting.{IsDestination, IsItemSorted, IsRecipient, IsRecipientIfAny}
use Rattle.hd_exchange.specs.Sorting.{IsReturnSorted, IsSortedReply, awaited_by}
use Rattle.hd_exchange.specs.declared.repeated.RepeatedValues.{RepeatedValues}
use Rattle.hd_exchange.proofs.OneReply.{one_text}

sorter_same : (a b : SorterReply) (d : Destination) → a.date.now ≡ b.date.now → a.institution.now
    ≡ b.institution.now
    → a.copy.now ≡ b.copy.now → a.home.now ≡ b.home.now → a.title.now ≡ b.title.now
    → concat (sorter_layout a d) ≡ concat (sorter_layout b d)
sorter_same a b d date institution copy home title = rw (date, institution, copy, home, title) refl

module _ (k : Contents) (file : Option Stored) where
  -- a patron is printed in one way
  one_recipient : (p : ℕ) (x y : Recipient) → IsRecipient k file p x → IsRecipient k file p y
      → (x.patron.now ≡ y.patron.now) × (option_copied x.name ≡ option_copied y.name)
  one_recipient p x y is so = (same_Some _ _ (sym is.patron ∙ so.patron), is.name ∙ sym so.name)

  recipient_same : (p : Option ℕ) (x y : Option Recipient) → IsRecipientIfAny k file p x
      → IsRecipientIfAny k file p y
      → concat (recipient_layout x) ≡ concat (recipient_layout y)
  recipient_same None None None is so = refl
  recipient_same (Some p) (Some x) (Some y) is so =
      let one = one_recipient p x y is so in
      let patron : x.patron.now ≡ y.patron.now = one.0 in
      let name : option_copied x.name ≡ option_copied y.name = one.1 in
      rw (patron, name) refl
  recipient_same None None (Some y) is so = absurd so
  recipient_same (Some p) (Some x) None is so = absurd so
  recipient_same None (Some x) y is so = absurd is
  recipient_same (Some p) None y is so = absurd is

  transit_same : (a : SorterReply) (to : ℕ) (p : Option ℕ) (b c : Bor (List ℕ)) (x y : Option Recipient)
      → b.now ≡ c.now
      → IsRecipientIfAny k file p x → IsRecipientIfAny k file p y
      → concat (sorter_layout a (Transit b x)) ≡ concat (sorter_layout a (Transit c y))
  transit_same a to None b c None None branch is so = rw branch refl
  transit_same a to (Some p) b c (Some x) (Some y) branch is so =
      let one = one_recipient p x y is so in
      let patron : x.patron.now ≡ y.patron.now = one.0 in
      let name : option_copied x.name ≡ option_copied y.name = one.1 in
      rw (branch, patron, name) refl
  transit_same a to None b c None (Some y) branch is so = absurd so
  transit_same a to (Some p) b c (Some x) None branch is so = absurd so
  transit_same a to None b c (Some x) y branch is so = absurd is
  transit_same a to (Some p) b c None y branch is so = absurd is

  destination_same : (a : SorterReply) (there : CopyState) (d e : Destination) → IsDestination k file there d
      → IsDestination k file there e → concat (sorter_layout a d) ≡ concat (sorter_layout a e)
  destination_same a (Shelf b) OpenShelf OpenShelf is so = refl
  destination_same a (Shelf b) OpenShelf _ is so = absurd so
  destination_same a (OnLoan loan) OpenShelf OpenShelf is so = refl
  destination_same a (OnLoan loan) OpenShelf _ is so = absurd so
  destination_same a (OnHoldShelf shelved) (HoldShelf m x) (HoldShelf n y) is so =
      let one = one_recipient shelved.patron x y is.1 so.1 in
      let place : m ≡ n = is.0 ∙ sym so.0 in
      let patron : x.patron.now ≡ y.patron.now = one.0 in
      let name : option_copied x.name ≡ option_copied y.name = one.1 in
      rw (place, patron, name) refl
  destination_same a (OnHoldShelf shelved) (HoldShelf m x) _ is so = absurd so
  destination_same a (InTransit transit) (Transit b x) (Transit c y) is so =
      transit_same a transit.to transit.patron b c x y (same_Some _ _ (sym is.0 ∙ so.0)) is.1 so.1
  destination_same a (InTransit transit) (Transit b x) _ is so = absurd so
  destination_same a _ _ e is so = absurd is

-- The reply to a message that states the same, asked the same and was told the same.
module _ (k : Contents) (e : Extensions) (r q : RepeatedValues) (asked : Result Asked Refusal)
    (date : r.date ≡ q.date)
    (patron : option_copied r.patron ≡ option_copied q.patron)
    (copy : option_copied r.copy ≡ option_copied q.copy)
    (title : option_copied r.title ≡ option_copied q.title) where
  one_return : (t home : ℕ) (there : CopyState) (a b : Reply) → IsReturnSorted k e.patrons r t home there a
      → IsReturnSorted k e.patrons q t home there b → reply_text a ≡ reply_text b
  one_return t home there (reply.Sorter a) (reply.Sorter b) is so =
      sorter_same a b a.destination (is.date ∙ (date ∙ sym so.date)) (is.institution ∙ sym so.institution)
      (is.copy ∙ (ap (λ (o : Option (List ℕ)). unwrap_or o []) copy ∙ sym so.copy))
      (same_Some _ _ (sym is.home_is ∙ so.home_is))
      (same_Some _ _ (sym is.title ∙ so.title))
      ∙ destination_same k e.patrons b there a.destination b.destination is.destination so.destination
  one_return t home there (reply.Sorter a) _ is so = absurd so
  one_return t home there _ b is so = absurd is

  one_item_sorted : (view : ItemView) (a b : Reply) → IsItemSorted k e.patrons r asked view a
      → IsItemSorted k e.patrons q asked view b
      → reply_text a ≡ reply_text b
  one_item_sorted view (reply.SorterItem a) (reply.SorterItem b) is so =
      let item : item_text a.item ≡ item_text b.item =
      one_text k r q asked (Item view) date patron copy title kind.Item (reply.Item a.item)
      (reply.Item b.item) is.item so.item in
      ap (λ (t : List ℕ). t ++ concat (recipient_layout a.recipient)) item
      ∙ ap (λ (t : List ℕ). item_text b.item ++ t)
      (recipient_same k e.patrons (awaited_by view.state) a.recipient b.recipient is.recipient so.recipient)
  one_item_sorted view (reply.SorterItem a) _ is so = absurd so
  one_item_sorted view _ b is so = absurd is

  one_sorted : (told : TurnReply) (of : DeskKind) (a b : Reply) → IsSortedReply k e.patrons of r asked told a
      → IsSortedReply k e.patrons of q asked told b → reply_text a ≡ reply_text b
  one_sorted (Done n (Returned t home there)) of a b is so = one_return t home there a b is so
  one_sorted (Item view) of a b is so = one_item_sorted view a b is so
  one_sorted (Done n (LentOrRenewed t due renewal)) of a b is so =
      one_text k r q asked _ date patron copy title of a b is so
  one_sorted (Done n (Held t stands at hold)) of a b is so =
      one_text k r q asked _ date patron copy title of a b is so
  one_sorted (Done n (Deleted t)) of a b is so = one_text k r q asked _ date patron copy title of a b is so
  one_sorted (Refused refusal) of a b is so = one_text k r q asked _ date patron copy title of a b is so
  one_sorted (Cancelled n) of a b is so = one_text k r q asked _ date patron copy title of a b is so

  -- has one text, with and without sorter fields
  pub one_text_with : (told : TurnReply) (of : DeskKind) (a b : Reply) → IsReplyWith k e of r asked told a
      → IsReplyWith k e of q asked told b → reply_text a ≡ reply_text b
  one_text_with told of a b is so = by_profile e.profile.sorter_fields is so
    where
      by_profile : (on : Bool)
          → MatchBool on (IsSortedReply k e.patrons of r asked told a) (IsReply k of r asked told a)
          → MatchBool on (IsSortedReply k e.patrons of q asked told b) (IsReply k of q asked told b)
          → reply_text a ≡ reply_text b
      by_profile true is so = one_sorted told of a b is so
      by_profile false is so = one_text k r q asked told date patron copy title of a b is so
