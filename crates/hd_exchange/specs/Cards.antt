-- The replies to the end of a patron's session (36), to payments (38) and to wishes to renew all loans (66).
use Rattle.std.specs.Prelude.{◌≡◌, Option}
use Rattle.hd_message.specs.declared.patron_reply.CardReply.{CardReply}
use Rattle.hd_message.specs.declared.patron_reply.RenewAllOutcome.{RenewAllOutcome}
use Rattle.hd_message.specs.declared.patron_reply.RenewAllReply.{RenewAllReply}
use Rattle.hd_rules.specs.declared.replies.Refusal.{Refusal}
use Rattle.hd_catalogue.specs.Contents.{Contents}
use Rattle.hd_exchange.specs.declared.patron_message.PatronValues.{PatronValues}

-- A 36 or a 38: a session ends and a payment is not taken, or the message is refused.
pub record IsCardReply (k : Contents) (values : PatronValues) (refusal : Option Refusal) (reply : CardReply)
    : Type 0 where
  pub date : reply.date.now ≡ values.date
  pub institution : reply.institution.now ≡ k.institution
  pub patron : reply.patron.now ≡ values.patron.now
  pub refusal_is : reply.refusal ≡ refusal

-- A 66: none is renewed of so many loans, or the message is refused.
pub record IsRenewAllReply (k : Contents) (values : PatronValues) (outcome : RenewAllOutcome)
    (reply : RenewAllReply) : Type 0 where
  pub date : reply.date.now ≡ values.date
  pub institution : reply.institution.now ≡ k.institution
  pub outcome_is : reply.outcome ≡ outcome
