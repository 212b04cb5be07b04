-- The reply to a message that asks something of the desk: of its own code, with what it repeats and the
-- answer of the desk.
use Rattle.hd_message.specs.declared.kind.DeskKind.{DeskKind}
use Rattle.hd_message.specs.declared.kind.DeskKind.TheVariants as kind
use Rattle.hd_message.specs.declared.reply.Reply.{Reply}
use Rattle.hd_message.specs.declared.reply.Reply.TheVariants.{Checkout, Checkin, Hold, Renew, Item}
use Rattle.std.specs.Prelude.{Result}
use Rattle.hd_rules.specs.declared.replies.Refusal.{Refusal}
use Rattle.hd_rules.specs.declared.replies.TurnReply.{TurnReply}
use Rattle.hd_rules.specs.declared.turns.Asked.{Asked}
use Rattle.hd_catalogue.specs.Contents.{Contents}
use Rattle.hd_exchange.specs.CheckinReplies.{IsCheckinReply}
use Rattle.hd_exchange.specs.HoldReplies.{IsHoldReply}
use Rattle.hd_exchange.specs.ItemReplies.{IsItemReply}
use Rattle.hd_exchange.specs.LoanReplies.{IsLoanReply}
use Rattle.hd_exchange.specs.declared.repeated.RepeatedValues.{RepeatedValues}

-- the reply to a message of this kind that asked this, or was refused beforehand, and got this answer
abbrev pub IsReply : Contents → DeskKind → RepeatedValues → Result Asked Refusal → TurnReply → Reply → Type 0
IsReply k kind.Checkout r asked told (Checkout reply) = IsLoanReply k r asked told reply
IsReply k kind.Checkin r asked told (Checkin reply) = IsCheckinReply k r asked told reply
IsReply k kind.Hold r asked told (Hold reply) = IsHoldReply k r asked told reply
IsReply k kind.Renew r asked told (Renew reply) = IsLoanReply k r asked told reply
IsReply k kind.Item r asked told (Item reply) = IsItemReply k r asked told reply
IsReply _ _ _ _ _ _ = ⊥
