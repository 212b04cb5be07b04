-- The texts of refusals, as AF prints them (docs/protocol.md, "Refusals").
use Rattle.std.specs.Prelude.{ℕ, List, ◌++◌, codes, decimal}
use Rattle.hd_rules.specs.declared.replies.Refusal.{Refusal}
use Rattle.hd_rules.specs.declared.replies.Refusal.TheVariants.{NotLoggedIn, Unreadable, BadDate}
use Rattle.hd_rules.specs.declared.replies.Refusal.TheVariants.{UnknownPatron, UnknownItem, UnknownTitle}
use Rattle.hd_rules.specs.declared.replies.Refusal.TheVariants.{UnknownBranch, HoldExists, NoSuchHold}
use Rattle.hd_rules.specs.declared.replies.Refusal.TheVariants.{HoldHasCopy, ExpiryPassed, OnLoan}
use Rattle.hd_rules.specs.declared.replies.Refusal.TheVariants.{KeptForAnother, InTransit, LoanLimit}
use Rattle.hd_rules.specs.declared.replies.Refusal.TheVariants.{NotOnLoan, NotRenewable, DueRange}
use Rattle.hd_rules.specs.declared.replies.Refusal.TheVariants.{JournalFull, NothingToCancel, Depends}

-- the words of each, without its number
abbrev pub words_of : Refusal → List ℕ
words_of NotLoggedIn = codes "NOT LOGGED IN"
words_of Unreadable = codes "MESSAGE UNREADABLE"
words_of BadDate = codes "DATE UNREADABLE"
words_of UnknownPatron = codes "UNKNOWN PATRON"
words_of UnknownItem = codes "UNKNOWN ITEM"
words_of UnknownTitle = codes "UNKNOWN TITLE"
words_of UnknownBranch = codes "UNKNOWN BRANCH"
words_of HoldExists = codes "HOLD EXISTS"
words_of NoSuchHold = codes "NO SUCH HOLD"
words_of HoldHasCopy = codes "HOLD HAS ITS COPY"
words_of ExpiryPassed = codes "EXPIRY PASSED"
words_of OnLoan = codes "ON LOAN"
words_of KeptForAnother = codes "KEPT FOR ANOTHER"
words_of InTransit = codes "IN TRANSIT"
words_of LoanLimit = codes "LOAN LIMIT"
words_of NotOnLoan = codes "NOT ON LOAN TO PATRON"
words_of NotRenewable = codes "NOT RENEWABLE"
words_of DueRange = codes "DUE DATE OUT OF RANGE"
words_of JournalFull = codes "JOURNAL FULL"
words_of NothingToCancel = codes "NOTHING TO CANCEL"
words_of (Depends number) = codes "DEPENDS"

-- what AF prints: the words, and the number where there is one
abbrev pub refusal_text : Refusal → List ℕ
refusal_text (Depends number) = codes "DEPENDS " ++ decimal number
refusal_text refusal = words_of refusal
