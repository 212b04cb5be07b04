-- The replies to checkins (10) and to questions about copies (18) with sorter fields: for whom a copy is.
use Rattle.std.specs.Prelude.{◌≡◌, ⊤, [], Option, None, Some, Result}
use Rattle.std.specs.Option.{option_copied, unwrap_or}
use Rattle.hd_message.specs.declared.kind.DeskKind.{DeskKind}
use Rattle.hd_message.specs.declared.reply.Reply.{Reply}
use Rattle.hd_message.specs.declared.reply.Reply.TheVariants.{Sorter, SorterItem}
use Rattle.hd_message.specs.declared.sorter_reply.Destination.{Destination}
use Rattle.hd_message.specs.declared.sorter_reply.Destination.TheVariants.{OpenShelf, HoldShelf, Transit}
use Rattle.hd_message.specs.declared.sorter_reply.Recipient.{Recipient}
use Rattle.hd_message.specs.declared.sorter_reply.SorterItemReply.{SorterItemReply}
use Rattle.hd_message.specs.declared.sorter_reply.SorterReply.{SorterReply}
use Rattle.hd_patrons.specs.Checks.{name_in}
use Rattle.hd_patrons.specs.Stored.{Stored}
use Rattle.hd_rules.specs.Numbers.{PatronNo, TitleNo, BranchNo}
use Rattle.hd_rules.specs.declared.copies.CopyState.{CopyState}
use Rattle.hd_rules.specs.declared.copies.CopyState.TheVariants.{Shelf, OnLoan, OnHoldShelf, InTransit}
use Rattle.hd_rules.specs.declared.replies.ItemView.{ItemView}
use Rattle.hd_rules.specs.declared.replies.Refusal.{Refusal}
use Rattle.hd_rules.specs.declared.replies.Reply.TheVariants.{Returned}
use Rattle.hd_rules.specs.declared.replies.TurnReply.{TurnReply}
use Rattle.hd_rules.specs.declared.replies.TurnReply.TheVariants.{Done, Item}
use Rattle.hd_rules.specs.declared.turns.Asked.{Asked}
use Rattle.hd_catalogue.specs.Contents.{Contents, branch_name, patron_name, title_name}
use Rattle.hd_exchange.specs.ItemReplies.{IsItemReply}
use Rattle.hd_exchange.specs.Replies.{IsReply}
use Rattle.hd_exchange.specs.declared.repeated.RepeatedValues.{RepeatedValues}

-- for whom a copy is kept, or is on its way
abbrev pub awaited_by : CopyState → Option PatronNo
awaited_by (Shelf b) = None
awaited_by (OnLoan loan) = None
awaited_by (OnHoldShelf shelved) = Some shelved.patron
awaited_by (InTransit transit) = transit.patron

module _ (k : Contents) (file : Option Stored) where
  -- The patron is the one for whom a copy is: by name of the catalogue, and by that of the patrons' file.
  pub record IsRecipient (p : PatronNo) (recipient : Recipient) : Type 0 where
    pub patron : patron_name k p ≡ Some recipient.patron.now
    pub name : option_copied recipient.name ≡ name_in file p

  -- where there is one
  abbrev pub IsRecipientIfAny : Option PatronNo → Option Recipient → Type 0
  IsRecipientIfAny None None = ⊤
  IsRecipientIfAny (Some p) (Some recipient) = IsRecipient p recipient
  IsRecipientIfAny _ _ = ⊥

  -- where a copy is that was taken in, and for whom; no return leaves a copy on loan, which would show as the
  -- open shelf
  abbrev pub IsDestination : CopyState → Destination → Type 0
  IsDestination (Shelf b) OpenShelf = ⊤
  IsDestination (OnLoan loan) OpenShelf = ⊤
  IsDestination (OnHoldShelf shelved) (HoldShelf place recipient) =
      (place ≡ shelved.place) × IsRecipient shelved.patron recipient
  IsDestination (InTransit transit) (Transit branch recipient) =
      (branch_name k transit.to ≡ Some branch.now) × IsRecipientIfAny transit.patron recipient
  IsDestination _ _ = ⊥

  -- The reply to a checkin whose copy is back: a title's copy, of this home, that is there now.
  pub record IsSorterReply (r : RepeatedValues) (t : TitleNo) (home : BranchNo) (there : CopyState)
      (reply : SorterReply) : Type 0 where
    pub date : reply.date.now ≡ r.date
    pub institution : reply.institution.now ≡ k.institution
    pub copy : reply.copy.now ≡ unwrap_or (option_copied r.copy) []
    pub home_is : branch_name k home ≡ Some reply.home.now
    pub title : title_name k t ≡ Some reply.title.now
    pub destination : IsDestination there reply.destination

  -- The reply to a question about a copy that is seen so.
  pub record IsSorterItemReply (r : RepeatedValues) (asked : Result Asked Refusal) (view : ItemView)
      (reply : SorterItemReply) : Type 0 where
    pub item : IsItemReply k r asked (Item view) reply.item
    pub recipient : IsRecipientIfAny (awaited_by view.state) reply.recipient

  -- the reply to a return
  abbrev pub IsReturnSorted : RepeatedValues → TitleNo → BranchNo → CopyState → Reply → Type 0
  IsReturnSorted r t home there (Sorter reply) = IsSorterReply r t home there reply
  IsReturnSorted r t home there _ = ⊥

  -- to a question about a copy
  abbrev pub IsItemSorted : RepeatedValues → Result Asked Refusal → ItemView → Reply → Type 0
  IsItemSorted r asked view (SorterItem reply) = IsSorterItemReply r asked view reply
  IsItemSorted r asked view _ = ⊥

  -- the reply to a message of this kind that asked this, or was refused beforehand, and got this answer: a
  -- return and what is known of a copy have sorter fields, all else is as it is without them
  abbrev pub IsSortedReply : DeskKind → RepeatedValues → Result Asked Refusal → TurnReply → Reply → Type 0
  IsSortedReply kind r asked (Done n (Returned t home there)) reply = IsReturnSorted r t home there reply
  IsSortedReply kind r asked (Item view) reply = IsItemSorted r asked view reply
  IsSortedReply kind r asked told reply = IsReply k kind r asked told reply
