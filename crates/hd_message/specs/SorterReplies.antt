-- The replies to a checkin (10) and to a question about a copy (18) with sorter fields.
use Rattle.std.specs.Prelude.{◌≡◌, ℕ, Bool, true, false, List, [], ◌∷◌, ◌++◌, Option, None, Some, codes}
use Rattle.std.specs.List.{concat}
use Rattle.std.specs.Option.{option_copied}
use Rattle.hd_message.specs.Fields.{bound_field, field_text, optional_text, shelf_field, yes_no}
use Rattle.hd_message.specs.ItemReplies.{item_text}
use Rattle.hd_message.specs.declared.reply.CheckinReply.{CheckinReply}
use Rattle.hd_message.specs.declared.sorter_reply.Destination.{Destination}
use Rattle.hd_message.specs.declared.sorter_reply.Destination.TheVariants.{OpenShelf, HoldShelf, Transit}
use Rattle.hd_message.specs.declared.sorter_reply.Recipient.{Recipient}
use Rattle.hd_message.specs.declared.sorter_reply.SorterItemReply.{SorterItemReply}
use Rattle.hd_message.specs.declared.sorter_reply.SorterReply.{SorterReply}

-- whether the copy needs care: it isn't on its open shelf
abbrev pub needs_care : Destination → Bool
needs_care OpenShelf = false
needs_care (HoldShelf place recipient) = true
needs_care (Transit branch recipient) = true

-- CL, the bin: the hold shelf, or the branch to which the copy goes; left out for the open shelf
abbrev pub bin_field : Destination → List ℕ
bin_field OpenShelf = []
bin_field (HoldShelf place recipient) = field_text (codes "CL") (codes "H")
bin_field (Transit branch recipient) = bound_field branch.now

-- CV of a copy in transit: a hold elsewhere, or elsewhere without a hold
abbrev pub transit_alert : Option Recipient → List ℕ
transit_alert (Some recipient) = field_text (codes "CV") (codes "02")
transit_alert None = field_text (codes "CV") (codes "04")

-- CV, the kind of alert: 01 is a hold here
abbrev pub alert_field : Destination → List ℕ
alert_field OpenShelf = []
alert_field (HoldShelf place recipient) = field_text (codes "CV") (codes "01")
alert_field (Transit branch recipient) = transit_alert recipient

-- CT, the branch to which the copy goes
abbrev pub branch_to_field : Destination → List ℕ
branch_to_field OpenShelf = []
branch_to_field (HoldShelf place recipient) = []
branch_to_field (Transit branch recipient) = field_text (codes "CT") branch.now

-- for whom the copy is
abbrev pub recipient_of : Destination → Option Recipient
recipient_of OpenShelf = None
recipient_of (HoldShelf place recipient) = Some recipient
recipient_of (Transit branch recipient) = recipient

-- CY, the patron for whom a copy is
abbrev pub recipient_field : Option Recipient → List ℕ
recipient_field None = []
recipient_field (Some recipient) = field_text (codes "CY") recipient.patron.now

-- DA, the patron's name, where there is one
abbrev pub recipient_name_field : Option Recipient → List ℕ
recipient_name_field None = []
recipient_name_field (Some recipient) = optional_text (codes "DA") (option_copied recipient.name)

-- AF, the place on the hold shelf
abbrev pub notice_field : Destination → List ℕ
notice_field OpenShelf = []
notice_field (HoldShelf place recipient) = shelf_field place
notice_field (Transit branch recipient) = []

-- 10, with sorter fields behind AJ
abbrev pub sorter_layout : SorterReply → Destination → List (List ℕ)
sorter_layout reply destination =
    codes "101YN"
    ∷ yes_no (needs_care destination)
    ∷ reply.date.now
    ∷ field_text (codes "AO") reply.institution.now
    ∷ field_text (codes "AB") reply.copy.now
    ∷ field_text (codes "AQ") reply.home.now
    ∷ field_text (codes "AJ") reply.title.now
    ∷ bin_field destination
    ∷ alert_field destination
    ∷ branch_to_field destination
    ∷ recipient_field (recipient_of destination)
    ∷ recipient_name_field (recipient_of destination)
    ∷ notice_field destination
    ∷ []

-- the text of the reply to a checkin
abbrev pub sorter_text : SorterReply → List ℕ
sorter_text reply = concat (sorter_layout reply reply.destination)

-- CY and DA at the end of an 18
abbrev pub recipient_layout : Option Recipient → List (List ℕ)
recipient_layout recipient = recipient_field recipient ∷ recipient_name_field recipient ∷ []

-- the text of the reply to a question about a copy
abbrev pub sorter_item_text : SorterItemReply → List ℕ
sorter_item_text reply = item_text reply.item ++ concat (recipient_layout reply.recipient)

-- A reply without sorter fields, of the same date, institution and copy.
pub record IsSameReturn (reply : SorterReply) (plain : CheckinReply) : Type 0 where
  pub date : plain.date.now ≡ reply.date.now
  pub institution : plain.institution.now ≡ reply.institution.now
  pub copy : plain.copy.now ≡ reply.copy.now

-- the fields behind CL of a copy in transit
abbrev pub transit_fields : List ℕ → Option Recipient → List ℕ
transit_fields branch recipient =
    concat (transit_alert recipient ∷ field_text (codes "CT") branch ∷ recipient_layout recipient)
