-- A reply that prints names, dates, numbers and at most 1,024 bytes of a message has at most 2,038 bytes.
use Rattle.std.proofs.Common.{◌≡◌, ℕ, ◌+◌, ◌≤◌, Bool, true, false, Option, None, Some, List, [], ◌∷◌, codes}
use Rattle.std.proofs.Common.{decimal, length, refl, arith}
use Rattle.std.proofs.Common.{length-append, if◌then◌else◌, nat_lt, ◌-◌, take, suc}
use Rattle.std.specs.List.{concat, flat_map}
use Rattle.std.specs.Borrow.{Bor}
use Rattle.std.specs.Option.{option_copied}
use Rattle.std.proofs.lemmas.Fmt.{length-decimal-le}
use Rattle.hd_message.specs.CheckinReplies.{checkin_layout, is_alert, whereabouts_field}
use Rattle.hd_message.specs.Fields.{expiry_field, field_text, optional_text, refusal_field, yes_no}
use Rattle.hd_message.specs.PatronReplies.{card_layout, fitting, flag, information_layout, information_text}
use Rattle.hd_message.specs.PatronReplies.{item_field, items_text}
use Rattle.hd_message.specs.PatronReplies.{known_layout, list_given, list_text}
use Rattle.hd_message.specs.PatronReplies.{password_field, patron_status_layout, patron_text}
use Rattle.hd_message.specs.PatronReplies.{payment_layout, renew_all_layout}
use Rattle.hd_message.specs.PatronReplies.{session_end_layout, with_list}
use Rattle.hd_message.specs.SorterReplies.{alert_field, bin_field, branch_to_field, needs_care, notice_field}
use Rattle.hd_message.specs.SorterReplies.{recipient_field}
use Rattle.hd_message.specs.SorterReplies.{recipient_name_field, recipient_of, sorter_layout}
use Rattle.hd_message.specs.HoldReplies.{hold_layout}
use Rattle.hd_message.specs.ItemReplies.{branch_field, item_layout, loan_field, status_code}
use Rattle.hd_message.specs.LoanReplies.{checkout_front, loan_layout, renew_front}
use Rattle.hd_rules.specs.RefusalTexts.{refusal_text}
use Rattle.hd_message.specs.Lengths.{HasNumber, IsBounded, IsCheckinShort, IsLoanShort, IsCopyShort}
use Rattle.hd_message.specs.Lengths.{IsPrintedDate, IsHoldShort, IsItemShort}
use Rattle.hd_message.specs.Lengths.{IsName, IsNumber, IsReturnShort, bytes_of, title_bytes}
use Rattle.hd_message.specs.Lengths.{HasNumbers, IsDestinationShort, IsInformationShort, IsLanguage}
use Rattle.hd_message.specs.Lengths.{IsPatronShort, IsRecipientShort}
use Rattle.hd_message.specs.Lengths.{IsRenewAllShort, IsStatusShort}
use Rattle.hd_rules.specs.declared.replies.Refusal.{Refusal}
use Rattle.hd_rules.specs.declared.replies.Refusal.TheVariants.{NotLoggedIn, Unreadable, BadDate}
use Rattle.hd_rules.specs.declared.replies.Refusal.TheVariants.{UnknownPatron, UnknownItem, UnknownTitle}
use Rattle.hd_rules.specs.declared.replies.Refusal.TheVariants.{UnknownBranch}
use Rattle.hd_rules.specs.declared.replies.Refusal.TheVariants.{HoldExists, NoSuchHold, HoldHasCopy}
use Rattle.hd_rules.specs.declared.replies.Refusal.TheVariants.{ExpiryPassed, OnLoan, KeptForAnother}
use Rattle.hd_rules.specs.declared.replies.Refusal.TheVariants.{InTransit, LoanLimit, NotOnLoan, NotRenewable}
use Rattle.hd_rules.specs.declared.replies.Refusal.TheVariants.{DueRange, JournalFull}
use Rattle.hd_rules.specs.declared.replies.Refusal.TheVariants.{NothingToCancel, Depends}
use Rattle.hd_message.specs.declared.reply.LoanReply.{LoanReply}
use Rattle.hd_message.specs.declared.reply.LoanOutcome.{LoanOutcome}
use Rattle.hd_message.specs.declared.reply.LoanOutcome.TheVariants as OfLoan
use Rattle.hd_message.specs.declared.reply.Whereabouts.{Whereabouts}
use Rattle.hd_message.specs.declared.reply.Whereabouts.TheVariants as OfReturn
use Rattle.hd_message.specs.declared.reply.CheckinReply.{CheckinReply}
use Rattle.hd_message.specs.declared.reply.CheckinOutcome.{CheckinOutcome}
use Rattle.hd_message.specs.declared.reply.CheckinOutcome.TheVariants as OfCheckin
use Rattle.hd_message.specs.declared.reply.HoldReply.{HoldReply}
use Rattle.hd_message.specs.declared.reply.HoldOutcome.{HoldOutcome}
use Rattle.hd_message.specs.declared.reply.HoldOutcome.TheVariants as OfHold
use Rattle.hd_message.specs.declared.reply.Circulation.{Circulation}
use Rattle.hd_message.specs.declared.reply.Circulation.TheVariants as OfCopy
use Rattle.hd_message.specs.declared.reply.ItemReply.{ItemReply}
use Rattle.hd_message.specs.declared.reply.ItemOutcome.{ItemOutcome}
use Rattle.hd_message.specs.declared.reply.ItemOutcome.TheVariants as OfItem
use Rattle.hd_message.specs.declared.patron_reply.CardReply.{CardReply}
use Rattle.hd_message.specs.declared.patron_reply.ItemList.{ItemList}
use Rattle.hd_message.specs.declared.patron_reply.KnownPatron.{KnownPatron}
use Rattle.hd_message.specs.declared.patron_reply.PasswordValidity.{PasswordValidity}
use Rattle.hd_message.specs.declared.patron_reply.PasswordValidity.TheVariants.{Unasked, Right, Wrong}
use Rattle.hd_message.specs.declared.patron_reply.PatronInformationOutcome.{PatronInformationOutcome}
use Rattle.hd_message.specs.declared.patron_reply.PatronInformationOutcome.TheVariants as OfInformation
use Rattle.hd_message.specs.declared.patron_reply.PatronInformationReply.{PatronInformationReply}
use Rattle.hd_message.specs.declared.patron_reply.PatronReply.{PatronReply}
use Rattle.hd_message.specs.declared.patron_reply.PatronReply.TheVariants as OfPatron
use Rattle.hd_message.specs.declared.patron_reply.PatronStatusOutcome.{PatronStatusOutcome}
use Rattle.hd_message.specs.declared.patron_reply.PatronStatusOutcome.TheVariants as OfStatus
use Rattle.hd_message.specs.declared.patron_reply.PatronStatusReply.{PatronStatusReply}
use Rattle.hd_message.specs.declared.patron_reply.RenewAllOutcome.{RenewAllOutcome}
use Rattle.hd_message.specs.declared.patron_reply.RenewAllOutcome.TheVariants as OfRenewAll
use Rattle.hd_message.specs.declared.patron_reply.RenewAllReply.{RenewAllReply}
use Rattle.hd_rules.specs.declared.views.Summary.{Summary}
use Rattle.hd_rules.specs.declared.views.Summary.TheVariants as Lists
use Rattle.hd_message.specs.declared.sorter_reply.Destination.{Destination}
use Rattle.hd_message.specs.declared.sorter_reply.Destination.TheVariants as OfSorting
use Rattle.hd_message.specs.declared.sorter_reply.Recipient.{Recipient}
use Rattle.hd_message.specs.declared.sorter_reply.SorterReply.{SorterReply}
use Rattle.hd_message.specs.declared.reply.Reply.{Reply}
use Rattle.hd_message.specs.declared.reply.Reply.TheVariants.{Login, Status, Checkout, Checkin, Hold, Renew}
use Rattle.hd_message.specs.declared.reply.Reply.TheVariants.{Item, RequestScResend}
use Rattle.hd_message.specs.declared.reply.Reply.TheVariants.{StatusWithPatrons, Patron, Sorter, SorterItem}

-- a number has at most 20 digits
digits : (n : ℕ) → IsNumber n → length (decimal n) ≤ 20
digits n h = length-decimal-le 20 n (omega arith) (omega arith) h

-- Y or N is one byte
one_byte : (holds : Bool) → length (yes_no holds) ≡ 1
one_byte true = refl
one_byte false = refl

-- the text of a refusal
refusal_length : (refusal : Refusal) → HasNumber refusal → length (refusal_text refusal) ≤ 28
refusal_length (Depends number) h = omega (arith, digits number h)
refusal_length NotLoggedIn h = omega arith
refusal_length Unreadable h = omega arith
refusal_length BadDate h = omega arith
refusal_length UnknownPatron h = omega arith
refusal_length UnknownItem h = omega arith
refusal_length UnknownTitle h = omega arith
refusal_length UnknownBranch h = omega arith
refusal_length HoldExists h = omega arith
refusal_length NoSuchHold h = omega arith
refusal_length HoldHasCopy h = omega arith
refusal_length ExpiryPassed h = omega arith
refusal_length OnLoan h = omega arith
refusal_length KeptForAnother h = omega arith
refusal_length InTransit h = omega arith
refusal_length LoanLimit h = omega arith
refusal_length NotOnLoan h = omega arith
refusal_length NotRenewable h = omega arith
refusal_length DueRange h = omega arith
refusal_length JournalFull h = omega arith
refusal_length NothingToCancel h = omega arith

-- a field that may be left out; its identifier has two bytes
optional_length : (a b : ℕ) (value : Option (List ℕ))
    → length (optional_text (a ∷ b ∷ []) value) ≤ bytes_of value + 3
optional_length a b None = omega arith
optional_length a b (Some value) = omega (arith, length-append value (codes "|"))

expiry_length : (day : Option ℕ) → length (expiry_field day) ≤ 21
expiry_length None = omega arith
expiry_length (Some day) = omega arith

whereabouts_length : (whereabouts : Whereabouts) → IsReturnShort whereabouts
    → length (whereabouts_field whereabouts) ≤ 64
whereabouts_length OfReturn.OpenShelf h = omega arith
whereabouts_length (OfReturn.HoldShelf place) h =
    omega (arith, digits place h, length-append (decimal place) (codes "|"))
whereabouts_length (OfReturn.Transit branch) h = omega (arith, length-append branch.now (codes "|"))

status_length : (circulation : Circulation) → length (status_code circulation) ≡ 2
status_length (OfCopy.OpenShelf branch) = refl
status_length (OfCopy.Loan due) = refl
status_length (OfCopy.HoldShelf branch) = refl
status_length OfCopy.Transit = refl

due_length : (circulation : Circulation) → length (loan_field circulation) ≤ 21
due_length (OfCopy.OpenShelf branch) = omega arith
due_length (OfCopy.Loan due) = omega arith
due_length (OfCopy.HoldShelf branch) = omega arith
due_length OfCopy.Transit = omega arith

branch_length : (circulation : Circulation) → IsCopyShort circulation → length (branch_field circulation) ≤ 63
branch_length (OfCopy.OpenShelf branch) h = omega (arith, length-append branch.now (codes "|"))
branch_length (OfCopy.Loan due) h = omega arith
branch_length (OfCopy.HoldShelf branch) h = omega (arith, length-append branch.now (codes "|"))
branch_length OfCopy.Transit h = omega arith

checkout_front_length : (outcome : LoanOutcome) → length (checkout_front outcome) ≡ 6
checkout_front_length (OfLoan.Lent renewed title due) = simp length-append (omega (arith, one_byte renewed))
checkout_front_length (OfLoan.Cancelled title number) = refl
checkout_front_length (OfLoan.Refused refusal) = refl

renew_front_length : (outcome : LoanOutcome) → length (renew_front outcome) ≡ 6
renew_front_length (OfLoan.Lent renewed title due) = refl
renew_front_length (OfLoan.Cancelled title number) = refl
renew_front_length (OfLoan.Refused refusal) = refl

loan_length : (front : List ℕ) (reply : LoanReply) (outcome : LoanOutcome)
    → length front ≡ 6 → IsPrintedDate reply.date.now → IsName reply.institution.now
    → IsLoanShort outcome → length reply.patron.now + length reply.copy.now ≤ 1024
    → length (concat (loan_layout front reply outcome)) ≤ 2038
loan_length front reply (OfLoan.Lent renewed title due) six date name short values =
    simp length-append (omega (arith, six, date, name, short, values))
loan_length front reply (OfLoan.Cancelled title number) six date name short values =
    simp length-append (omega (arith, six, digits number short.1, date, name, short.0, values))
loan_length front reply (OfLoan.Refused refusal) six date name short values =
    simp length-append (omega (arith, six, refusal_length refusal short, date, name, values))

checkin_length : (reply : CheckinReply) (outcome : CheckinOutcome) → IsPrintedDate reply.date.now
    → IsName reply.institution.now → IsCheckinShort outcome → length reply.copy.now ≤ 1024
    → length (concat (checkin_layout reply outcome)) ≤ 2038
checkin_length reply (OfCheckin.Returned home title whereabouts) date name short values =
    simp length-append (omega (
      arith,
      one_byte (is_alert whereabouts),
      whereabouts_length whereabouts short.2,
      date,
      name,
      short.0,
      short.1,
      values,
    ))
checkin_length reply (OfCheckin.Cancelled home title number) date name short values =
    simp length-append (omega (arith, digits number short.2, date, name, short.0, short.1, values))
checkin_length reply (OfCheckin.Refused refusal) date name short values =
    simp length-append (omega (arith, refusal_length refusal short, date, name, values))

hold_length : (reply : HoldReply) (outcome : HoldOutcome)
    → IsPrintedDate reply.date.now → IsName reply.institution.now → IsHoldShort outcome
    → length reply.patron.now + bytes_of (option_copied reply.copy) + title_bytes outcome ≤ 1024
    → length (concat (hold_layout reply outcome)) ≤ 2038
hold_length reply (OfHold.Held available expiry position pickup title) date name short values =
    let copy = optional_length 65 66 (option_copied reply.copy) in
    simp length-append (omega (
      arith,
      one_byte available,
      expiry_length (option_copied expiry),
      digits position short.0,
      copy,
      date,
      name,
      short.1,
      short.2,
      values,
    ))
hold_length reply (OfHold.Deleted title) date name short values =
    let copy = optional_length 65 66 (option_copied reply.copy) in
    simp length-append (omega (arith, copy, date, name, short, values))
hold_length reply (OfHold.Cancelled title number) date name short values =
    let copy = optional_length 65 66 (option_copied reply.copy) in
    simp length-append (omega (arith, digits number short.1, copy, date, name, short.0, values))
hold_length reply (OfHold.Refused title refusal) date name short values =
    let copy = optional_length 65 66 (option_copied reply.copy) in
    let own = optional_length 65 74 (option_copied title) in
    simp length-append (omega (arith, refusal_length refusal short, copy, own, date, name, values))

item_length : (reply : ItemReply) (outcome : ItemOutcome) → IsPrintedDate reply.date.now → IsItemShort outcome
    → length reply.copy.now ≤ 1024 → length (concat (item_layout reply outcome)) ≤ 1800
item_length reply (OfItem.Found holds title home circulation) date short values =
    simp length-append (omega (
      arith,
      digits holds short.0,
      status_length circulation,
      due_length circulation,
      branch_length circulation
          short.3,
      date,
      short.1,
      short.2,
      values,
    ))
item_length reply (OfItem.Refused refusal) date short values =
    simp length-append (omega (arith, refusal_length refusal short, date, values))

login_length : (taken : Bool) → length (if taken then codes "941" else codes "940") ≤ 2038
login_length true = omega arith
login_length false = omega arith

-- the fields that say for whom a copy is
recipient_length : (recipient : Option Recipient) → IsRecipientShort recipient
    → length (recipient_field recipient) ≤ 63
recipient_length None h = omega arith
recipient_length (Some recipient) h = omega (arith, h.0, length-append recipient.patron.now (codes "|"))

recipient_name_length : (recipient : Option Recipient) → IsRecipientShort recipient
    → length (recipient_name_field recipient) ≤ 63
recipient_name_length None h = omega arith
recipient_name_length (Some recipient) h =
    omega (arith, h.1, optional_length 68 65 (option_copied recipient.name))

-- the fields of a sorter
bin_length : (destination : Destination) → IsDestinationShort destination
    → length (bin_field destination) ≤ 64
bin_length OfSorting.OpenShelf h = omega arith
bin_length (OfSorting.HoldShelf place recipient) h = omega arith
bin_length (OfSorting.Transit branch recipient) h = omega (arith, h.0, length-append branch.now (codes "|"))

alert_length : (destination : Destination) → length (alert_field destination) ≤ 5
alert_length OfSorting.OpenShelf = omega arith
alert_length (OfSorting.HoldShelf place recipient) = omega arith
alert_length (OfSorting.Transit branch (Some recipient)) = omega arith
alert_length (OfSorting.Transit branch None) = omega arith

branch_to_length : (destination : Destination) → IsDestinationShort destination
    → length (branch_to_field destination) ≤ 63
branch_to_length OfSorting.OpenShelf h = omega arith
branch_to_length (OfSorting.HoldShelf place recipient) h = omega arith
branch_to_length (OfSorting.Transit branch recipient) h =
    omega (arith, h.0, length-append branch.now (codes "|"))

notice_length : (destination : Destination) → IsDestinationShort destination
    → length (notice_field destination) ≤ 34
notice_length OfSorting.OpenShelf h = omega arith
notice_length (OfSorting.HoldShelf place recipient) h =
    omega (arith, digits place h.0, length-append (decimal place) (codes "|"))
notice_length (OfSorting.Transit branch recipient) h = omega arith

recipient_short : (destination : Destination) → IsDestinationShort destination
    → IsRecipientShort (recipient_of destination)
recipient_short OfSorting.OpenShelf h = tt
recipient_short (OfSorting.HoldShelf place recipient) h = h.1
recipient_short (OfSorting.Transit branch recipient) h = h.1

sorter_length : (reply : SorterReply) (destination : Destination)
    → IsPrintedDate reply.date.now → IsName reply.institution.now → IsName reply.home.now
    → IsName reply.title.now → IsDestinationShort destination → length reply.copy.now ≤ 1024
    → length (concat (sorter_layout reply destination)) ≤ 2038
sorter_length reply destination date name home title short values =
    let recipient = recipient_short destination short in
    simp length-append (omega (
      arith,
      one_byte (needs_care destination),
      bin_length destination short,
      alert_length destination,
      branch_to_length destination short,
      recipient_length (recipient_of destination) recipient,
      recipient_name_length (recipient_of destination) recipient,
      notice_length destination short,
      date,
      name,
      home,
      title,
      values,
    ))

-- the parts of a reply to a patron message
flag_length : (set : Bool) → length (flag set) ≡ 1
flag_length true = refl
flag_length false = refl

check_length : (check : PasswordValidity) → length (password_field check) ≤ 4
check_length Unasked = omega arith
check_length Right = omega arith
check_length Wrong = omega arith

known_length : (reply : PatronStatusReply) (patron : KnownPatron) (notice : List ℕ)
    → IsLanguage reply.language.now → IsPrintedDate reply.date.now → IsName reply.institution.now
    → length patron.name.now ≤ 60 → length reply.patron.now ≤ 1024 → length notice ≤ 100
    → length (concat (known_layout reply patron notice)) ≤ 2038
known_length reply patron notice language date name own values short =
    simp length-append (omega (
      arith,
      flag_length patron.flags.charge_denied,
      flag_length patron.flags.too_many_charged,
      check_length patron.password,
      language,
      date,
      name,
      own,
      values,
      short,
    ))

status_reply_length : (reply : PatronStatusReply) (outcome : PatronStatusOutcome)
    → IsLanguage reply.language.now → IsPrintedDate reply.date.now
    → IsName reply.institution.now → IsStatusShort outcome → length reply.patron.now ≤ 1024
    → length (concat (patron_status_layout reply outcome)) ≤ 2038
status_reply_length reply (OfStatus.Known patron) language date name short values =
    known_length reply patron [] language date name short values (omega arith)
status_reply_length reply (OfStatus.NotBlocked patron) language date name short values =
    known_length reply patron
    (field_text (codes "AF") (codes "CARD NOT BLOCKED")) language date name short values (omega arith)
status_reply_length reply (OfStatus.Refused refusal) language date name short values =
    simp length-append (omega (arith, refusal_length refusal short, language, date, name, values))

-- what there is room for fits
pub items_length : (code : List ℕ) (room : ℕ) (names : List (Bor (List ℕ)))
    → length (items_text code room names) ≤ room
items_length code room [] = omega arith
items_length code room (name ∷ names) =
    let item = length (item_field code name) in
    elim (nat_lt room item) as (λ t. nat_lt room item ≡ t →
    length (flat_map (item_field code)
    (take (if t then 0 else suc (fitting code (room - item) names)) (name ∷ names))) ≤ room) [
      | true ↦ λ h. omega arith
      | false ↦ λ h.
          let fits : item ≤ room = grind arith in
          omega (
            arith,
            fits,
            length-append (item_field code name) (items_text code (room - item) names),
            items_length code (room - item) names,
          )
    ] refl

list_length : (room : ℕ) (summary : Summary) (names : List (Bor (List ℕ)))
    → length (list_text room summary names) ≤ room
list_length room Lists.HoldItems names = items_length (codes "AS") room names
list_length room Lists.OverdueItems names = items_length (codes "AT") room names
list_length room Lists.ChargedItems names = items_length (codes "AU") room names
list_length room Lists.UnavailableHolds names = items_length (codes "CD") room names
list_length room Lists.Empty names = omega arith

list_given_length : (room : ℕ) (list : Option ItemList) → length (list_given room list) ≤ room
list_given_length room None = omega arith
list_given_length room (Some list) = list_length room list.summary list.names.now

with_list_length : (front : List ℕ) (list : Option ItemList) → length front ≤ 2038
    → length (with_list front list) ≤ 2038
with_list_length front list h =
    let room = 2038 - length front in
    omega (arith, length-append front (list_given room list), list_given_length room list, h)

information_length : (reply : PatronInformationReply) (outcome : PatronInformationOutcome)
    → IsLanguage reply.language.now → IsPrintedDate reply.date.now
    → IsName reply.institution.now → IsInformationShort outcome → length reply.patron.now ≤ 1024
    → length (information_text reply outcome) ≤ 2038
information_length reply (OfInformation.Known patron counts limit list) language date name own values =
    let front : length (concat (information_layout reply patron counts limit)) ≤ 2038 =
    simp length-append (omega (
      arith,
      flag_length patron.flags.charge_denied,
      flag_length patron.flags.too_many_charged,
      check_length patron.password,
      language,
      date,
      name,
      own,
      values,
    )) in
    with_list_length (concat (information_layout reply patron counts limit)) list front
information_length reply (OfInformation.Refused refusal) language date name short values =
    simp length-append (omega (arith, refusal_length refusal short, language, date, name, values))

card_length : (front : List ℕ) (reply : CardReply) (notice : List ℕ) → length front ≡ 3
    → IsPrintedDate reply.date.now → IsName reply.institution.now → length reply.patron.now ≤ 1024
    → length notice ≤ 100 → length (concat (card_layout front reply notice)) ≤ 2038
card_length front reply notice three date name values short =
    simp length-append (omega (arith, three, date, name, values, short))

refused_length : (refusal : Refusal) → HasNumber refusal → length (refusal_field refusal) ≤ 100
refused_length refusal short = simp length-append (omega (arith, refusal_length refusal short))

session_end_length : (reply : CardReply) (refusal : Option Refusal) → IsPrintedDate reply.date.now
    → IsName reply.institution.now → HasNumbers refusal → length reply.patron.now ≤ 1024
    → length (concat (session_end_layout reply refusal)) ≤ 2038
session_end_length reply None date name short values =
    card_length (codes "36Y") reply [] refl date name values (omega arith)
session_end_length reply (Some refusal) date name short values =
    card_length (codes "36N") reply (refusal_field refusal) refl date name values
    (refused_length refusal short)

payment_length : (reply : CardReply) (refusal : Option Refusal) → IsPrintedDate reply.date.now
    → IsName reply.institution.now → HasNumbers refusal → length reply.patron.now ≤ 1024
    → length (concat (payment_layout reply refusal)) ≤ 2038
payment_length reply None date name short values =
    card_length (codes "38N") reply (field_text (codes "AF") (codes "NO FEES HERE")) refl date name values
    (omega arith)
payment_length reply (Some refusal) date name short values =
    card_length (codes "38N") reply (refusal_field refusal) refl date name values
    (refused_length refusal short)

renew_all_length : (reply : RenewAllReply) (outcome : RenewAllOutcome)
    → IsPrintedDate reply.date.now → IsName reply.institution.now → IsRenewAllShort outcome
    → length (concat (renew_all_layout reply outcome)) ≤ 2038
renew_all_length reply (OfRenewAll.NotRenewed loans) date name short =
    simp length-append (omega (arith, date, name))
renew_all_length reply (OfRenewAll.Refused refusal) date name short =
    simp length-append (omega (arith, refusal_length refusal short, date, name))

patron_length : (reply : PatronReply) → IsPatronShort reply → length (patron_text reply) ≤ 2038
patron_length (OfPatron.Status reply) short =
    status_reply_length reply reply.outcome short.0 short.1 short.2 short.3 short.4
patron_length (OfPatron.Information reply) short =
    information_length reply reply.outcome short.0 short.1 short.2 short.3 short.4
patron_length (OfPatron.SessionEnd reply) short =
    session_end_length reply reply.refusal short.0 short.1 short.2 short.3
patron_length (OfPatron.FeePaid reply) short =
    payment_length reply reply.refusal short.0 short.1 short.2 short.3
patron_length (OfPatron.RenewAll reply) short = renew_all_length reply reply.outcome short.0 short.1 short.2

-- every reply
pub reply_length : (reply : Reply) → IsBounded reply
reply_length (Login reply) short = login_length reply.taken
reply_length (Status reply) short = simp length-append (omega (arith, short.0, short.1))
reply_length (Checkout reply) short =
    loan_length (checkout_front reply.outcome) reply reply.outcome
    (checkout_front_length reply.outcome) short.0 short.1 short.2 short.3
reply_length (Checkin reply) short = checkin_length reply reply.outcome short.0 short.1 short.2 short.3
reply_length (Hold reply) short = hold_length reply reply.outcome short.0 short.1 short.2 short.3
reply_length (Renew reply) short =
    loan_length (renew_front reply.outcome) reply reply.outcome
    (renew_front_length reply.outcome) short.0 short.1 short.2 short.3
reply_length (Item reply) short = omega (arith, item_length reply reply.outcome short.0 short.1 short.2)
reply_length RequestScResend short = omega arith
reply_length (StatusWithPatrons reply) short = simp length-append (omega (arith, short.0, short.1))
reply_length (Patron reply) short = patron_length reply short
reply_length (Sorter reply) short =
    sorter_length reply reply.destination short.0 short.1 short.2 short.3 short.4 short.5
reply_length (SorterItem reply) short =
    let item = item_length reply.item reply.item.outcome short.0 short.1 short.3 in
    let who = recipient_length reply.recipient short.2 in
    let name = recipient_name_length reply.recipient short.2 in
    simp length-append (omega (arith, item, who, name))
