-- How long replies are.
use Rattle.std.specs.Prelude.{◌≡◌, ℕ, ◌+◌, ◌^◌, ◌<◌, ◌≤◌, ⊤, List, Option, None, Some, length}
use Rattle.std.specs.Option.{option_copied}
use Rattle.hd_message.specs.Replies.{reply_text}
use Rattle.hd_rules.specs.declared.replies.Refusal.{Refusal}
use Rattle.hd_rules.specs.declared.replies.Refusal.TheVariants.{Depends}
use Rattle.hd_message.specs.declared.reply.LoanOutcome.{LoanOutcome}
use Rattle.hd_message.specs.declared.reply.LoanOutcome.TheVariants as OfLoan
use Rattle.hd_message.specs.declared.reply.Whereabouts.{Whereabouts}
use Rattle.hd_message.specs.declared.reply.Whereabouts.TheVariants as OfReturn
use Rattle.hd_message.specs.declared.reply.CheckinOutcome.{CheckinOutcome}
use Rattle.hd_message.specs.declared.reply.CheckinOutcome.TheVariants as OfCheckin
use Rattle.hd_message.specs.declared.reply.HoldOutcome.{HoldOutcome}
use Rattle.hd_message.specs.declared.reply.HoldOutcome.TheVariants as OfHold
use Rattle.hd_message.specs.declared.reply.Circulation.{Circulation}
use Rattle.hd_message.specs.declared.reply.Circulation.TheVariants as OfCopy
use Rattle.hd_message.specs.declared.reply.ItemOutcome.{ItemOutcome}
use Rattle.hd_message.specs.declared.reply.ItemOutcome.TheVariants as OfItem
use Rattle.hd_message.specs.declared.patron_reply.PatronInformationOutcome.{PatronInformationOutcome}
use Rattle.hd_message.specs.declared.patron_reply.PatronInformationOutcome.TheVariants as OfInformation
use Rattle.hd_message.specs.declared.patron_reply.PatronReply.{PatronReply}
use Rattle.hd_message.specs.declared.patron_reply.PatronReply.TheVariants as OfPatron
use Rattle.hd_message.specs.declared.patron_reply.PatronStatusOutcome.{PatronStatusOutcome}
use Rattle.hd_message.specs.declared.patron_reply.PatronStatusOutcome.TheVariants as OfStatus
use Rattle.hd_message.specs.declared.patron_reply.RenewAllOutcome.{RenewAllOutcome}
use Rattle.hd_message.specs.declared.patron_reply.RenewAllOutcome.TheVariants as OfRenewAll
use Rattle.hd_message.specs.declared.sorter_reply.Destination.{Destination}
use Rattle.hd_message.specs.declared.sorter_reply.Destination.TheVariants as OfSorting
use Rattle.hd_message.specs.declared.sorter_reply.Recipient.{Recipient}
use Rattle.hd_message.specs.declared.reply.Reply.{Reply}
use Rattle.hd_message.specs.declared.reply.Reply.TheVariants.{Login, Status, Checkout, Checkin, Hold, Renew}
use Rattle.hd_message.specs.declared.reply.Reply.TheVariants.{Item, RequestScResend}
use Rattle.hd_message.specs.declared.reply.Reply.TheVariants.{StatusWithPatrons, Patron, Sorter, SorterItem}

-- a name of the catalogue
abbrev pub IsName : List ℕ → Type 0
IsName name = (1 ≤ length name) × (length name ≤ 60)

-- a printed date
abbrev pub IsPrintedDate : List ℕ → Type 0
IsPrintedDate date = length date ≡ 18

-- a number of 64 bits
abbrev pub IsNumber : ℕ → Type 0
IsNumber n = n < 2 ^ 64

-- how many bytes of the message a value has
abbrev pub bytes_of : Option (List ℕ) → ℕ
bytes_of None = 0
bytes_of (Some value) = length value

-- the number of a refusal
abbrev pub HasNumber : Refusal → Type 0
HasNumber (Depends number) = IsNumber number
HasNumber refusal = ⊤

-- the names and numbers that the outcome of a checkout or a renewal prints
abbrev pub IsLoanShort : LoanOutcome → Type 0
IsLoanShort (OfLoan.Lent renewed title due) = IsName title.now
IsLoanShort (OfLoan.Cancelled title number) = IsName title.now × IsNumber number
IsLoanShort (OfLoan.Refused refusal) = HasNumber refusal

-- the same of where a copy is after its return
abbrev pub IsReturnShort : Whereabouts → Type 0
IsReturnShort OfReturn.OpenShelf = ⊤
IsReturnShort (OfReturn.HoldShelf place) = IsNumber place
IsReturnShort (OfReturn.Transit branch) = IsName branch.now

-- of a checkin
abbrev pub IsCheckinShort : CheckinOutcome → Type 0
IsCheckinShort (OfCheckin.Returned home title whereabouts) =
    IsName home.now × IsName title.now × IsReturnShort whereabouts
IsCheckinShort (OfCheckin.Cancelled home title number) = IsName home.now × IsName title.now × IsNumber number
IsCheckinShort (OfCheckin.Refused refusal) = HasNumber refusal

-- of a hold message
abbrev pub IsHoldShort : HoldOutcome → Type 0
IsHoldShort (OfHold.Held available expiry position pickup title) =
    IsNumber position × IsName pickup.now × IsName title.now
IsHoldShort (OfHold.Deleted title) = IsName title.now
IsHoldShort (OfHold.Cancelled title number) = IsName title.now × IsNumber number
IsHoldShort (OfHold.Refused title refusal) = HasNumber refusal

-- how many bytes of the message's own title it prints
abbrev pub title_bytes : HoldOutcome → ℕ
title_bytes (OfHold.Held available expiry position pickup title) = 0
title_bytes (OfHold.Deleted title) = 0
title_bytes (OfHold.Cancelled title number) = 0
title_bytes (OfHold.Refused title refusal) = bytes_of (option_copied title)

-- of where a copy is
abbrev pub IsCopyShort : Circulation → Type 0
IsCopyShort (OfCopy.OpenShelf branch) = IsName branch.now
IsCopyShort (OfCopy.Loan due) = ⊤
IsCopyShort (OfCopy.HoldShelf branch) = IsName branch.now
IsCopyShort OfCopy.Transit = ⊤

-- of a question about a copy
abbrev pub IsItemShort : ItemOutcome → Type 0
IsItemShort (OfItem.Found holds title home circulation) =
    IsNumber holds × IsName title.now × IsName home.now × IsCopyShort circulation
IsItemShort (OfItem.Refused refusal) = HasNumber refusal

-- a language
abbrev pub IsLanguage : List ℕ → Type 0
IsLanguage language = length language ≡ 3

-- the number of a refusal, where there is one
abbrev pub HasNumbers : Option Refusal → Type 0
HasNumbers None = ⊤
HasNumbers (Some refusal) = HasNumber refusal

-- of a question whether a patron may borrow
abbrev pub IsStatusShort : PatronStatusOutcome → Type 0
IsStatusShort (OfStatus.Known patron) = length patron.name.now ≤ 60
IsStatusShort (OfStatus.NotBlocked patron) = length patron.name.now ≤ 60
IsStatusShort (OfStatus.Refused refusal) = HasNumber refusal

-- of a question what a patron has: its list isn't looked at
abbrev pub IsInformationShort : PatronInformationOutcome → Type 0
IsInformationShort (OfInformation.Known patron counts limit list) = length patron.name.now ≤ 60
IsInformationShort (OfInformation.Refused refusal) = HasNumber refusal

-- of a wish to renew all loans
abbrev pub IsRenewAllShort : RenewAllOutcome → Type 0
IsRenewAllShort (OfRenewAll.NotRenewed loans) = ⊤
IsRenewAllShort (OfRenewAll.Refused refusal) = HasNumber refusal

-- of a reply to a patron message
abbrev pub IsPatronShort : PatronReply → Type 0
IsPatronShort (OfPatron.Status reply) =
    IsLanguage reply.language.now × IsPrintedDate reply.date.now × IsName reply.institution.now
    × IsStatusShort reply.outcome × (length reply.patron.now ≤ 1024)
IsPatronShort (OfPatron.Information reply) =
    IsLanguage reply.language.now × IsPrintedDate reply.date.now × IsName reply.institution.now
    × IsInformationShort reply.outcome × (length reply.patron.now ≤ 1024)
IsPatronShort (OfPatron.SessionEnd reply) =
    IsPrintedDate reply.date.now × IsName reply.institution.now × HasNumbers reply.refusal
    × (length reply.patron.now ≤ 1024)
IsPatronShort (OfPatron.FeePaid reply) =
    IsPrintedDate reply.date.now × IsName reply.institution.now × HasNumbers reply.refusal
    × (length reply.patron.now ≤ 1024)
IsPatronShort (OfPatron.RenewAll reply) =
    IsPrintedDate reply.date.now × IsName reply.institution.now × IsRenewAllShort reply.outcome

-- the names of whom a copy is for
abbrev pub IsRecipientShort : Option Recipient → Type 0
IsRecipientShort None = ⊤
IsRecipientShort (Some recipient) =
    IsName recipient.patron.now × (bytes_of (option_copied recipient.name) ≤ 60)

-- of where a copy is after its return, and for whom
abbrev pub IsDestinationShort : Destination → Type 0
IsDestinationShort OfSorting.OpenShelf = ⊤
IsDestinationShort (OfSorting.HoldShelf place recipient) = IsNumber place × IsRecipientShort (Some recipient)
IsDestinationShort (OfSorting.Transit branch recipient) = IsName branch.now × IsRecipientShort recipient

-- a reply prints names of the catalogue, dates, numbers, and at most 1,024 bytes of the message's values
abbrev pub IsShort : Reply → Type 0
IsShort (Login reply) = ⊤
IsShort (Status reply) = IsPrintedDate reply.date.now × IsName reply.institution.now
IsShort (Checkout reply) =
    IsPrintedDate reply.date.now × IsName reply.institution.now × IsLoanShort reply.outcome
    × (length reply.patron.now + length reply.copy.now ≤ 1024)
IsShort (Checkin reply) =
    IsPrintedDate reply.date.now × IsName reply.institution.now × IsCheckinShort reply.outcome
    × (length reply.copy.now ≤ 1024)
IsShort (Hold reply) =
    IsPrintedDate reply.date.now × IsName reply.institution.now × IsHoldShort reply.outcome
    × (length reply.patron.now + bytes_of (option_copied reply.copy) + title_bytes reply.outcome ≤ 1024)
IsShort (Renew reply) =
    IsPrintedDate reply.date.now × IsName reply.institution.now × IsLoanShort reply.outcome
    × (length reply.patron.now + length reply.copy.now ≤ 1024)
IsShort (Item reply) =
    IsPrintedDate reply.date.now × IsItemShort reply.outcome × (length reply.copy.now ≤ 1024)
IsShort RequestScResend = ⊤
IsShort (StatusWithPatrons reply) = IsPrintedDate reply.date.now × IsName reply.institution.now
IsShort (Patron reply) = IsPatronShort reply
IsShort (Sorter reply) =
    IsPrintedDate reply.date.now × IsName reply.institution.now × IsName reply.home.now
    × IsName reply.title.now × IsDestinationShort reply.destination × (length reply.copy.now ≤ 1024)
IsShort (SorterItem reply) =
    IsPrintedDate reply.item.date.now × IsItemShort reply.item.outcome × IsRecipientShort reply.recipient
    × (length reply.item.copy.now ≤ 1024)

-- such a reply has at most 2,038 bytes: with trailer and carriage return at most 2,048
abbrev pub IsBounded : Reply → Type 0
IsBounded reply = IsShort reply → length (reply_text reply) ≤ 2038
