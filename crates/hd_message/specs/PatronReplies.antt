-- The replies to patron messages: 24, 64, 36, 38 and 66.
use Rattle.std.specs.Prelude.{◌≡◌, ◌⊎◌, ◌<◌, ◌≤◌, ℕ, List, [], ◌∷◌, ◌++◌, suc, ◌-◌}
use Rattle.std.specs.Prelude.{Bool, Option, None, Some, codes, if◌then◌else◌, length, nat_lt, take}
use Rattle.std.specs.List.{concat, flat_map}
use Rattle.std.specs.Borrow.{Bor}
use Rattle.hd_message.specs.Fields.{count_text, field_text, limit_field, refusal_field}
use Rattle.hd_rules.specs.declared.replies.Refusal.{Refusal}
use Rattle.hd_message.specs.declared.patron_reply.CardReply.{CardReply}
use Rattle.hd_message.specs.declared.patron_reply.Counts.{Counts}
use Rattle.hd_message.specs.declared.patron_reply.ItemList.{ItemList}
use Rattle.hd_message.specs.declared.patron_reply.KnownPatron.{KnownPatron}
use Rattle.hd_message.specs.declared.patron_reply.PasswordValidity.{PasswordValidity}
use Rattle.hd_message.specs.declared.patron_reply.PasswordValidity.TheVariants.{Unasked, Right, Wrong}
use Rattle.hd_message.specs.declared.patron_reply.PatronFlags.{PatronFlags}
use Rattle.hd_message.specs.declared.patron_reply.PatronInformationOutcome.{PatronInformationOutcome}
use Rattle.hd_message.specs.declared.patron_reply.PatronInformationOutcome.TheVariants as OfInformation
use Rattle.hd_message.specs.declared.patron_reply.PatronInformationReply.{PatronInformationReply}
use Rattle.hd_message.specs.declared.patron_reply.PatronReply.{PatronReply}
use Rattle.hd_message.specs.declared.patron_reply.PatronReply.TheVariants.{Status, Information, SessionEnd}
use Rattle.hd_message.specs.declared.patron_reply.PatronReply.TheVariants.{FeePaid, RenewAll}
use Rattle.hd_message.specs.declared.patron_reply.PatronStatusOutcome.{PatronStatusOutcome}
use Rattle.hd_message.specs.declared.patron_reply.PatronStatusOutcome.TheVariants as OfStatus
use Rattle.hd_message.specs.declared.patron_reply.PatronStatusReply.{PatronStatusReply}
use Rattle.hd_message.specs.declared.patron_reply.RenewAllOutcome.{RenewAllOutcome}
use Rattle.hd_message.specs.declared.patron_reply.RenewAllOutcome.TheVariants as OfRenewAll
use Rattle.hd_message.specs.declared.patron_reply.RenewAllReply.{RenewAllReply}
use Rattle.hd_rules.specs.declared.views.Summary.{Summary}
use Rattle.hd_rules.specs.declared.views.Summary.TheVariants as Lists

-- Y where a flag of the patron status is set, else a blank
abbrev pub flag : Bool → List ℕ
flag set = if set then codes "Y" else codes " "

-- the patron status: positions 0 and 5 of 14
abbrev pub flags_text : PatronFlags → List ℕ
flags_text flags = flag flags.charge_denied ++ codes "    " ++ flag flags.too_many_charged ++ codes "        "

-- the patron status of a message that is refused
abbrev pub refused_flags : List ℕ
refused_flags = codes "YYYY          "

-- CQ
abbrev pub password_field : PasswordValidity → List ℕ
password_field Unasked = []
password_field Right = field_text (codes "CQ") (codes "Y")
password_field Wrong = field_text (codes "CQ") (codes "N")

-- 24: the patron is known, and a notice at the end
abbrev pub known_layout : PatronStatusReply → KnownPatron → List ℕ → List (List ℕ)
known_layout reply patron notice =
    codes "24"
    ∷ flags_text patron.flags
    ∷ reply.language.now
    ∷ reply.date.now
    ∷ field_text (codes "AO") reply.institution.now
    ∷ field_text (codes "AA") reply.patron.now
    ∷ field_text (codes "AE") patron.name.now
    ∷ field_text (codes "BL") (codes "Y")
    ∷ password_field patron.password
    ∷ notice
    ∷ []

-- 24: accepted, accepted where the card was to be blocked, refused
abbrev pub patron_status_layout : PatronStatusReply → PatronStatusOutcome → List (List ℕ)
patron_status_layout reply (OfStatus.Known patron) = known_layout reply patron []
patron_status_layout reply (OfStatus.NotBlocked patron) =
    known_layout reply patron (field_text (codes "AF") (codes "CARD NOT BLOCKED"))
patron_status_layout reply (OfStatus.Refused refusal) =
    codes "24"
    ∷ refused_flags
    ∷ reply.language.now
    ∷ reply.date.now
    ∷ field_text (codes "AO") reply.institution.now
    ∷ field_text (codes "AA") reply.patron.now
    ∷ field_text (codes "AE") []
    ∷ field_text (codes "BL") (codes "N")
    ∷ refusal_field refusal
    ∷ []

-- 64 before its list: hold, overdue, charged, fine and recall items, unavailable holds
abbrev pub information_layout : PatronInformationReply → KnownPatron → Counts → ℕ → List (List ℕ)
information_layout reply patron counts limit =
    codes "64"
    ∷ flags_text patron.flags
    ∷ reply.language.now
    ∷ reply.date.now
    ∷ count_text counts.hold_items
    ∷ count_text counts.overdue_items
    ∷ count_text counts.charged_items
    ∷ codes "00000000"
    ∷ count_text counts.unavailable_holds
    ∷ field_text (codes "AO") reply.institution.now
    ∷ field_text (codes "AA") reply.patron.now
    ∷ field_text (codes "AE") patron.name.now
    ∷ limit_field limit
    ∷ field_text (codes "BL") (codes "Y")
    ∷ password_field patron.password
    ∷ []

-- 64: refused
abbrev pub information_refused : PatronInformationReply → Refusal → List (List ℕ)
information_refused reply refusal =
    codes "64"
    ∷ refused_flags
    ∷ reply.language.now
    ∷ reply.date.now
    ∷ codes "000000000000000000000000"
    ∷ field_text (codes "AO") reply.institution.now
    ∷ field_text (codes "AA") reply.patron.now
    ∷ field_text (codes "AE") []
    ∷ field_text (codes "BL") (codes "N")
    ∷ refusal_field refusal
    ∷ []

-- an item of a list
abbrev pub item_field : List ℕ → Bor (List ℕ) → List ℕ
item_field code name = field_text code name.now

-- how many items of some names there is room for, each of them whole
abbrev pub fitting : List ℕ → ℕ → List (Bor (List ℕ)) → ℕ
fitting code room [] = 0
fitting code room (name ∷ names) =
    let item = length (item_field code name) in
    if nat_lt room item then 0 else suc (fitting code (room - item) names)

-- so many items of some names
abbrev pub items_text : List ℕ → ℕ → List (Bor (List ℕ)) → List ℕ
items_text code room names = flat_map (item_field code) (take (fitting code room names) names)

-- The items that there is room for are the first of all: together they fit, and with the next they don't.
pub record IsCutAtItem (code : List ℕ) (room : ℕ) (names : List (Bor (List ℕ))) : Type 0 where
  pub within : fitting code room names ≤ length names
  pub fits : length (items_text code room names) ≤ room
  pub full : (fitting code room names ≡ length names)
      ⊎ (room < length (flat_map (item_field code) (take (suc (fitting code room names)) names)))

-- a list, as far as there is room for its items
abbrev pub list_text : ℕ → Summary → List (Bor (List ℕ)) → List ℕ
list_text room Lists.HoldItems names = items_text (codes "AS") room names
list_text room Lists.OverdueItems names = items_text (codes "AT") room names
list_text room Lists.ChargedItems names = items_text (codes "AU") room names
list_text room Lists.UnavailableHolds names = items_text (codes "CD") room names
list_text room Lists.Empty names = []

-- the list, if there is one, as far as there is room for its items
abbrev pub list_given : ℕ → Option ItemList → List ℕ
list_given room None = []
list_given room (Some list) = list_text room list.summary list.names.now

-- a reply and its list, cut so that it has at most 2,038 bytes
abbrev pub with_list : List ℕ → Option ItemList → List ℕ
with_list front list = front ++ list_given (2038 - length front) list

-- 64: accepted, refused
abbrev pub information_text : PatronInformationReply → PatronInformationOutcome → List ℕ
information_text reply (OfInformation.Known patron counts limit list) =
    with_list (concat (information_layout reply patron counts limit)) list
information_text reply (OfInformation.Refused refusal) = concat (information_refused reply refusal)

-- a reply to a message that names a card, behind its front, and a notice at the end
abbrev pub card_layout : List ℕ → CardReply → List ℕ → List (List ℕ)
card_layout front reply notice =
    front
    ∷ reply.date.now
    ∷ field_text (codes "AO") reply.institution.now
    ∷ field_text (codes "AA") reply.patron.now
    ∷ notice
    ∷ []

-- 36: ended, refused
abbrev pub session_end_layout : CardReply → Option Refusal → List (List ℕ)
session_end_layout reply None = card_layout (codes "36Y") reply []
session_end_layout reply (Some refusal) = card_layout (codes "36N") reply (refusal_field refusal)

-- 38: never taken, refused
abbrev pub payment_layout : CardReply → Option Refusal → List (List ℕ)
payment_layout reply None = card_layout (codes "38N") reply (field_text (codes "AF") (codes "NO FEES HERE"))
payment_layout reply (Some refusal) = card_layout (codes "38N") reply (refusal_field refusal)

-- 66: none renewed, and so many not; a notice at the end
abbrev pub not_renewed_layout : RenewAllReply → ℕ → List ℕ → List (List ℕ)
not_renewed_layout reply loans notice =
    codes "6600000"
    ∷ count_text loans
    ∷ reply.date.now
    ∷ field_text (codes "AO") reply.institution.now
    ∷ notice
    ∷ []

-- 66: never done, refused
abbrev pub renew_all_layout : RenewAllReply → RenewAllOutcome → List (List ℕ)
renew_all_layout reply (OfRenewAll.NotRenewed loans) =
    not_renewed_layout reply loans (field_text (codes "AF") (codes "RENEW EACH ITEM"))
renew_all_layout reply (OfRenewAll.Refused refusal) = not_renewed_layout reply 0 (refusal_field refusal)

-- the text of a reply to a patron message
abbrev pub patron_text : PatronReply → List ℕ
patron_text (Status reply) = concat (patron_status_layout reply reply.outcome)
patron_text (Information reply) = information_text reply reply.outcome
patron_text (SessionEnd reply) = concat (session_end_layout reply reply.refusal)
patron_text (FeePaid reply) = concat (payment_layout reply reply.refusal)
patron_text (RenewAll reply) = concat (renew_all_layout reply reply.outcome)
