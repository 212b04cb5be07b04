-- What a turn came to, as columns of its row.
use Rattle.std.specs.Prelude.{ℕ, ◌+◌, ◌^◌, Bool, true, false, nat_lt, if◌then◌else◌, Option, Some, None}
use Rattle.std.specs.Prelude.{option_and_then, List, [], ◌∷◌, codes}
use Rattle.hd_rules.specs.declared.copies.CopyState.{CopyState}
use Rattle.hd_rules.specs.declared.copies.CopyState.TheVariants.{Shelf, OnLoan, OnHoldShelf, InTransit}
use Rattle.hd_rules.specs.declared.holds.Hold.{Hold}
use Rattle.hd_rules.specs.declared.holds.HoldKind.{HoldKind}
use Rattle.hd_rules.specs.declared.holds.HoldKind.TheVariants as kind
use Rattle.hd_rules.specs.declared.replies.Refusal.{Refusal}
use Rattle.hd_rules.specs.declared.replies.Refusal.TheVariants as refusal
use Rattle.hd_rules.specs.declared.replies.Refusal.TheVariants.{Depends}
use Rattle.hd_rules.specs.declared.replies.Reply.{Reply}
use Rattle.hd_rules.specs.declared.replies.Reply.TheVariants.{LentOrRenewed, Returned, Held, Deleted}
use Rattle.hd_rules.specs.declared.replies.TurnReply.{TurnReply}
use Rattle.hd_rules.specs.declared.replies.TurnReply.TheVariants.{Done, Refused, Cancelled, Item}
use Rattle.hd_turn_row.specs.Written.{IsWritten}

-- what a turn came to, in one word
abbrev pub outcome_word : TurnReply → List ℕ
outcome_word (Done number reply) = codes "done"
outcome_word (Refused refusal) = codes "refused"
outcome_word (Cancelled number) = codes "cancelled"
outcome_word (Item view) = codes "item"

-- the command that a reply names: the one that was done or cancelled, or that depends on the target
abbrev pub named_command : TurnReply → Option ℕ
named_command (Done number reply) = Some number
named_command (Refused (Depends number)) = Some number
named_command (Refused refusal) = None
named_command (Cancelled number) = Some number
named_command (Item view) = None

-- a number, where a column of 32 bits holds it
abbrev pub column_number : ℕ → Option ℕ
column_number number = if nat_lt number (2 ^ 32) then Some number else None

-- the number's column; the reply's column has each number, also one that this can't hold
abbrev pub number_column : TurnReply → Option ℕ
number_column reply = option_and_then column_number (named_command reply)

-- a truth, and a number where there is one
abbrev pub truth_number : Bool → ℕ
truth_number true = 1
truth_number false = 0

abbrev pub number_if_any : Option ℕ → ℕ
number_if_any (Some number) = number + 1
number_if_any None = 0

-- where a copy is
abbrev pub state_numbers : CopyState → List ℕ
state_numbers (Shelf branch) = 0 ∷ branch ∷ []
state_numbers (OnLoan loan) = 1 ∷ loan.patron ∷ loan.due ∷ loan.renewals ∷ []
state_numbers (OnHoldShelf spot) = 2 ∷ spot.branch ∷ spot.place ∷ spot.patron ∷ []
state_numbers (InTransit way) = 3 ∷ way.from ∷ way.to ∷ number_if_any way.patron ∷ []

-- which copies a hold admits
abbrev pub kind_number : HoldKind → ℕ
kind_number kind.Any = 0
kind_number kind.AtBranch = 1
kind_number (kind.One copy) = copy + 2

-- a hold: whose it is and what it admits, where and how long it waits, and the copy that it has
abbrev pub hold_numbers : Hold → List ℕ
hold_numbers hold =
    hold.patron ∷ hold.stamp ∷ kind_number hold.kind ∷ hold.pickup ∷ number_if_any hold.expiry
    ∷ number_if_any hold.copy ∷ []

-- a refusal; one has a number of its own behind that
abbrev pub refusal_number : Refusal → ℕ
refusal_number refusal.NotLoggedIn = 0
refusal_number refusal.Unreadable = 1
refusal_number refusal.BadDate = 2
refusal_number refusal.UnknownPatron = 3
refusal_number refusal.UnknownItem = 4
refusal_number refusal.UnknownTitle = 5
refusal_number refusal.UnknownBranch = 6
refusal_number refusal.HoldExists = 7
refusal_number refusal.NoSuchHold = 8
refusal_number refusal.HoldHasCopy = 9
refusal_number refusal.ExpiryPassed = 10
refusal_number refusal.OnLoan = 11
refusal_number refusal.KeptForAnother = 12
refusal_number refusal.InTransit = 13
refusal_number refusal.LoanLimit = 14
refusal_number refusal.NotOnLoan = 15
refusal_number refusal.NotRenewable = 16
refusal_number refusal.DueRange = 17
refusal_number refusal.JournalFull = 18
refusal_number refusal.NothingToCancel = 19
refusal_number (Depends number) = 20

abbrev pub depended_on : Refusal → List ℕ
depended_on (Depends number) = number ∷ []
depended_on refused = []

-- the reply to the command of a number
abbrev pub done_numbers : ℕ → Reply → List ℕ
done_numbers number (LentOrRenewed title due renewal) =
    1 ∷ number ∷ title ∷ due ∷ truth_number renewal ∷ []
done_numbers number (Returned title home state) = 2 ∷ number ∷ title ∷ home ∷ state_numbers state
done_numbers number (Held title available position hold) =
    3 ∷ number ∷ title ∷ truth_number available ∷ position ∷ hold_numbers hold
done_numbers number (Deleted title) = 4 ∷ number ∷ title ∷ []

-- A reply in numbers: first which it is, and then all that it says. Titles, copies, patrons and branches
-- stand there by their numbers in the catalogue, days by theirs, and what is none as 0, all else of its kind
-- as one more.
abbrev pub reply_numbers : TurnReply → List ℕ
reply_numbers (Done number reply) = done_numbers number reply
reply_numbers (Refused refused) = 5 ∷ refusal_number refused ∷ depended_on refused
reply_numbers (Cancelled number) = 6 ∷ number ∷ []
reply_numbers (Item view) = 7 ∷ view.holds ∷ state_numbers view.state

-- The column is that of a reply.
abbrev pub IsReplyColumn : TurnReply → List ℕ → Type 0
IsReplyColumn reply column = IsWritten (reply_numbers reply) [] column
