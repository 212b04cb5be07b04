-- In the order of a message's way. Its dates and its names, and what it asks by them:
pub mod Dates
pub mod Names
pub mod Asks
pub mod HoldAsks
pub mod PatronAsks
-- what extends the standard messages, what a message comes with, and the message that a body is:
pub mod Extensions
pub mod Arrivals
pub mod PatronMessages
pub mod Messages
-- the replies:
pub mod LoanReplies
pub mod CheckinReplies
pub mod HoldReplies
pub mod ItemReplies
pub mod Replies
-- what an office does for a message, and the replies beyond the standard messages:
pub mod Deeds
pub mod Sorting
pub mod ToldPatrons
pub mod PatronStatus
pub mod PatronInformation
pub mod Seeing
pub mod Cards
pub mod PatronReplies
-- and all together, what a body is answered: `IsAnswer`, which may be read first.
pub mod Answers
-- Where nothing extends the standard messages it is what it was before there were extensions.
pub mod StandardAnswers
-- And what a call leaves of an office and of an out.
pub mod Works
