-- The types of this crate, and the names by which its files call their
-- variants. Other crates import them from where they are declared.
pub use Rattle.hd_rules.specs.declared.holds.Hold.{Hold}
pub use Rattle.hd_rules.specs.declared.holds.HoldKind.{HoldKind}
pub use Rattle.hd_rules.specs.declared.holds.HoldKind.TheVariants.{Any, One, AtBranch}
pub use Rattle.hd_rules.specs.declared.copies.Loan.{Loan}
pub use Rattle.hd_rules.specs.declared.copies.HoldPlace.{HoldPlace}
pub use Rattle.hd_rules.specs.declared.copies.Transit.{Transit}
pub use Rattle.hd_rules.specs.declared.copies.CopyState.{CopyState}
pub use Rattle.hd_rules.specs.declared.copies.CopyState.TheVariants.{Shelf, OnLoan, OnHoldShelf, InTransit}
pub use Rattle.hd_rules.specs.declared.cells.Cell.{Cell}
pub use Rattle.hd_rules.specs.declared.cells.Cell.TheVariants.{Copy as CopyCell, Hold as HoldCell}
pub use Rattle.hd_rules.specs.declared.cells.Value.{Value}
pub use Rattle.hd_rules.specs.declared.cells.Value.TheVariants.{Copy as CopyHas, Hold as HoldHas}
pub use Rattle.hd_rules.specs.declared.cells.Change.{Change}
pub use Rattle.hd_rules.specs.declared.questions.Question.{Question}
pub use Rattle.hd_rules.specs.declared.questions.Question.TheVariants.{Value as ValueOf, Choice, Place, Room}
pub use Rattle.hd_rules.specs.declared.questions.Question.TheVariants.{Position, OnShelf}
pub use Rattle.hd_rules.specs.declared.questions.Answer.{Answer}
pub use Rattle.hd_rules.specs.declared.questions.Noted.{Noted}
pub use Rattle.hd_rules.specs.declared.questions.Finding.{Finding}
pub use Rattle.hd_rules.specs.declared.commands.Action.{Action}
pub use Rattle.hd_rules.specs.declared.commands.Command.{Command}
pub use Rattle.hd_rules.specs.declared.commands.Cancel.{Cancel}
pub use Rattle.hd_rules.specs.declared.commands.Survivor.{Survivor}
pub use Rattle.hd_rules.specs.declared.replies.Refusal.{Refusal}
pub use Rattle.hd_rules.specs.declared.replies.Reply.{Reply}
pub use Rattle.hd_rules.specs.declared.replies.Reply.TheVariants.{LentOrRenewed, Returned, Held, Deleted}
pub use Rattle.hd_rules.specs.declared.replies.ItemView.{ItemView}
pub use Rattle.hd_rules.specs.declared.replies.TurnReply.{TurnReply}
pub use Rattle.hd_rules.specs.declared.rows.OpeningRow.{OpeningRow}
pub use Rattle.hd_rules.specs.declared.turns.Asked.{Asked}
pub use Rattle.hd_rules.specs.declared.views.TitleHold.{TitleHold}
pub use Rattle.hd_rules.specs.declared.views.Borrowing.{Borrowing}
pub use Rattle.hd_rules.specs.declared.views.Borrowing.TheVariants.{Denied, TooMany, Allowed}
pub use Rattle.hd_rules.specs.declared.views.PatronView.{PatronView}
pub use Rattle.hd_rules.specs.declared.views.Summary.{Summary}
pub use Rattle.hd_rules.specs.declared.views.Summary.TheVariants.{HoldItems, OverdueItems, ChargedItems}
pub use Rattle.hd_rules.specs.declared.views.Summary.TheVariants.{UnavailableHolds, Empty}
pub use Rattle.hd_rules.specs.declared.views.Wanted.{Wanted}
pub use Rattle.hd_rules.specs.declared.views.ListItem.{ListItem}
pub use Rattle.hd_rules.specs.declared.views.ListItem.TheVariants.{Copy as CopyItem, Title as TitleItem}
