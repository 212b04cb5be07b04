-- The replies to questions about copies (18).
use Rattle.std.specs.Prelude.{◌≡◌, ⊤, [], Result, Ok, Some}
use Rattle.std.specs.Option.{option_copied, unwrap_or}
use Rattle.hd_message.specs.declared.reply.Circulation.{Circulation}
use Rattle.hd_message.specs.declared.reply.Circulation.TheVariants.{OpenShelf, Loan, HoldShelf, Transit}
use Rattle.hd_message.specs.declared.reply.ItemOutcome.{ItemOutcome}
use Rattle.hd_message.specs.declared.reply.ItemOutcome.TheVariants as OfItem
use Rattle.hd_message.specs.declared.reply.ItemReply.{ItemReply}
use Rattle.hd_rules.specs.declared.copies.CopyState.{CopyState}
use Rattle.hd_rules.specs.declared.copies.CopyState.TheVariants.{Shelf, OnLoan, OnHoldShelf, InTransit}
use Rattle.hd_rules.specs.declared.replies.Refusal.{Refusal}
use Rattle.hd_rules.specs.declared.replies.TurnReply.{TurnReply}
use Rattle.hd_rules.specs.declared.replies.TurnReply.TheVariants.{Refused, Item}
use Rattle.hd_rules.specs.declared.turns.Asked.{Asked}
use Rattle.hd_rules.specs.declared.turns.Asked.TheVariants as ask
use Rattle.hd_catalogue.specs.Contents.{Contents, branch_name, facts_of, title_name}
use Rattle.hd_exchange.specs.declared.repeated.RepeatedValues.{RepeatedValues}

module _ (k : Contents) where
  -- where a copy is: on a shelf of this branch, on loan till this day, or in transit
  abbrev pub IsCirculation : CopyState → Circulation → Type 0
  IsCirculation (Shelf b) (OpenShelf branch) = branch_name k b ≡ Some branch.now
  IsCirculation (OnLoan loan) (Loan due) = due.now ≡ loan.due
  IsCirculation (OnHoldShelf shelved) (HoldShelf branch) = branch_name k shelved.branch ≡ Some branch.now
  IsCirculation (InTransit transit) Transit = ⊤
  IsCirculation _ _ = ⊥

  -- what is said of a question that asked this and got this answer
  abbrev pub IsItemOutcome : Result Asked Refusal → TurnReply → ItemOutcome → Type 0
  IsItemOutcome asked (Refused refusal) (OfItem.Refused given) = given ≡ refusal
  IsItemOutcome (Ok (ask.Item c)) (Item view) (OfItem.Found holds title home circulation) =
      (holds ≡ view.holds)
      × (title_name k ((facts_of k).title_of c) ≡ Some title.now)
      × (branch_name k ((facts_of k).home c) ≡ Some home.now)
      × IsCirculation view.state circulation
  IsItemOutcome _ _ _ = ⊥

  -- The reply to it.
  pub record IsItemReply (r : RepeatedValues) (asked : Result Asked Refusal) (told : TurnReply)
      (reply : ItemReply) : Type 0 where
    pub date : reply.date.now ≡ r.date
    pub copy : reply.copy.now ≡ unwrap_or (option_copied r.copy) []
    pub outcome : IsItemOutcome asked told reply.outcome
