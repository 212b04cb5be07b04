-- Which replies a message may get (docs/protocol.md, "Replies written"; SIP2 2.00).
use Rattle.hd_rules.specs.Words.{Action, Asked, Reply, LentOrRenewed, Returned, Held, Deleted, TurnReply}
use Rattle.hd_rules.specs.declared.commands.Action.TheVariants as action
use Rattle.hd_rules.specs.declared.turns.Asked.TheVariants as ask
use Rattle.hd_rules.specs.declared.replies.TurnReply.TheVariants.{Done as Accepted, Refused, Cancelled, Item}

-- A reply to an accepted checkout or renewal tells of a loan, one to a checkin
-- where the copy is, and one to a hold message of the hold, or that it is deleted.
abbrev pub TellsOf : Action → Reply → Type 0
TellsOf (action.Checkout p c may_renew) (LentOrRenewed t due renewal) = Unit {0}
TellsOf (action.OffLine p c due) (LentOrRenewed t day renewal) = Unit {0}
TellsOf (action.Renewal p c) (LentOrRenewed t due renewal) = Unit {0}
TellsOf (action.Checkin c b) (Returned t home now) = Unit {0}
TellsOf (action.Add p t kind pickup expiry) (Held u available position hold) = Unit {0}
TellsOf (action.Change p t kind pickup expiry) (Held u available position hold) = Unit {0}
TellsOf (action.Delete p t) (Deleted u) = Unit {0}
TellsOf _ _ = ⊥

-- A command is accepted or refused, a cancellation carried out or refused, and a query shows its copy.
abbrev pub IsReplyTo : Asked → TurnReply → Type 0
IsReplyTo (ask.Command command) (Accepted n reply) = TellsOf command.action reply
IsReplyTo (ask.Command command) (Refused r) = Unit {0}
IsReplyTo (ask.Cancel what) (Cancelled n) = Unit {0}
IsReplyTo (ask.Cancel what) (Refused r) = Unit {0}
IsReplyTo (ask.Item c) (Item view) = Unit {0}
IsReplyTo _ _ = ⊥
