-- What sorter fields add.
use Rattle.std.proofs.Common.{◌≡◌, ℕ, List, [], ◌∷◌, ◌++◌, Option, None, refl, sym, ap, ◌∙◌, append_assoc}
use Rattle.std.proofs.Common.{append-nil, codes}
use Rattle.std.specs.Borrow.{Bor}
use Rattle.std.specs.List.{concat}
use Rattle.hd_message.specs.CheckinReplies.{checkin_layout}
use Rattle.hd_message.specs.ItemReplies.{item_text}
use Rattle.hd_message.specs.PatronReplies.{information_layout, information_text, with_list}
use Rattle.hd_message.specs.SorterReplies.{IsSameReturn, recipient_layout, sorter_item_text, sorter_layout}
use Rattle.hd_message.specs.SorterReplies.{transit_alert, transit_fields}
use Rattle.hd_message.specs.Fields.{field_text}
use Rattle.hd_message.specs.declared.patron_reply.Counts.{Counts}
use Rattle.hd_message.specs.declared.patron_reply.ItemList.{ItemList}
use Rattle.hd_message.specs.declared.patron_reply.KnownPatron.{KnownPatron}
use Rattle.hd_message.specs.declared.patron_reply.PatronInformationOutcome.{PatronInformationOutcome}
use Rattle.hd_message.specs.declared.patron_reply.PatronInformationOutcome.TheVariants as OfInformation
use Rattle.hd_message.specs.declared.patron_reply.PatronInformationReply.{PatronInformationReply}
use Rattle.hd_message.specs.declared.reply.CheckinOutcome.TheVariants as OfCheckin
use Rattle.hd_message.specs.declared.reply.CheckinReply.{CheckinReply}
use Rattle.hd_message.specs.declared.reply.Whereabouts.TheVariants as OfReturn
use Rattle.hd_message.specs.declared.sorter_reply.Destination.TheVariants as OfSorting
use Rattle.hd_message.specs.declared.sorter_reply.Recipient.{Recipient}
use Rattle.hd_message.specs.declared.sorter_reply.SorterItemReply.{SorterItemReply}
use Rattle.hd_message.specs.declared.sorter_reply.SorterReply.{SorterReply}

-- a reply with its list after its parts
pub known_is : (reply : PatronInformationReply) (outcome : PatronInformationOutcome) (patron : KnownPatron)
    (counts : Counts) (limit : ℕ) (list : Option ItemList) (front : List ℕ)
    → outcome ≡ OfInformation.Known patron counts limit list
    → front ≡ concat (information_layout reply patron counts limit)
    → with_list front list ≡ information_text reply outcome
known_is reply outcome patron counts limit list front is begins =
    ap (λ x. with_list x list) begins ∙ sym (ap (λ o. information_text reply o) is)

pub same_on_shelf : (reply : SorterReply) (plain : CheckinReply) → IsSameReturn reply plain →
    concat (sorter_layout reply OfSorting.OpenShelf)
    ≡ concat (checkin_layout plain (OfCheckin.Returned reply.home reply.title OfReturn.OpenShelf))
same_on_shelf reply plain s = rw (s.date, s.institution, s.copy) refl

-- two runs of texts
concat_append : (xs ys : List (List ℕ)) → concat (xs ++ ys) ≡ concat xs ++ concat ys
concat_append [] ys = refl
concat_append (x ∷ xs) ys = ap (λ rest. x ++ rest) (concat_append xs ys)
    ∙ sym (append_assoc x (concat xs) (concat ys))

pub more_in_transit : (reply : SorterReply) (plain : CheckinReply)
    (branch : Bor (List ℕ)) (recipient : Option Recipient) → IsSameReturn reply plain
    → concat (sorter_layout reply (OfSorting.Transit branch recipient))
    ≡ concat (checkin_layout plain (OfCheckin.Returned reply.home reply.title (OfReturn.Transit branch)))
    ++ transit_fields branch.now recipient
more_in_transit reply plain branch recipient s =
    let front = checkin_layout plain (OfCheckin.Returned reply.home reply.title (OfReturn.Transit branch)) in
    let behind = transit_alert recipient ∷ field_text (codes "CT") branch.now ∷ recipient_layout recipient in
    let same : concat (sorter_layout reply (OfSorting.Transit branch recipient)) ≡ concat (front ++ behind) =
    rw (s.date, s.institution, s.copy) refl in
    same ∙ concat_append front behind

pub same_item : (reply : SorterItemReply) → reply.recipient ≡ None
    → sorter_item_text reply ≡ item_text reply.item
same_item reply none = rw none (append-nil (item_text reply.item))
