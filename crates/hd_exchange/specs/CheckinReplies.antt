-- The replies to checkins (10).
use Rattle.std.specs.Prelude.{◌≡◌, ⊤, [], Result, Ok, Some}
use Rattle.std.specs.Option.{option_copied, unwrap_or}
use Rattle.hd_message.specs.declared.reply.CheckinOutcome.{CheckinOutcome}
use Rattle.hd_message.specs.declared.reply.CheckinOutcome.TheVariants as OfCheckin
use Rattle.hd_message.specs.declared.reply.CheckinReply.{CheckinReply}
use Rattle.hd_message.specs.declared.reply.Whereabouts.{Whereabouts}
use Rattle.hd_message.specs.declared.reply.Whereabouts.TheVariants.{OpenShelf, HoldShelf, Transit}
use Rattle.hd_rules.specs.declared.commands.Cancel.TheVariants as cancel
use Rattle.hd_rules.specs.declared.copies.CopyState.{CopyState}
use Rattle.hd_rules.specs.declared.copies.CopyState.TheVariants.{Shelf, OnLoan, OnHoldShelf, InTransit}
use Rattle.hd_rules.specs.declared.replies.Refusal.{Refusal}
use Rattle.hd_rules.specs.declared.replies.Reply.TheVariants.{Returned}
use Rattle.hd_rules.specs.declared.replies.TurnReply.{TurnReply}
use Rattle.hd_rules.specs.declared.replies.TurnReply.TheVariants.{Refused, Done, Cancelled}
use Rattle.hd_rules.specs.declared.turns.Asked.{Asked}
use Rattle.hd_rules.specs.declared.turns.Asked.TheVariants as ask
use Rattle.hd_catalogue.specs.Contents.{Contents, branch_name, facts_of, title_name}
use Rattle.hd_exchange.specs.declared.repeated.RepeatedValues.{RepeatedValues}

module _ (k : Contents) where
  -- where a copy is that was taken in; no return leaves a copy on loan, which would show as the open shelf
  abbrev pub IsWhereabouts : CopyState → Whereabouts → Type 0
  IsWhereabouts (Shelf b) OpenShelf = ⊤
  IsWhereabouts (OnLoan loan) OpenShelf = ⊤
  IsWhereabouts (OnHoldShelf shelved) (HoldShelf place) = place ≡ shelved.place
  IsWhereabouts (InTransit transit) (Transit branch) = branch_name k transit.to ≡ Some branch.now
  IsWhereabouts _ _ = ⊥

  -- what is said of a checkin that asked this and got this answer: the return; or the home and the title of
  -- the copy whose loan is taken back
  abbrev pub IsCheckinOutcome : Result Asked Refusal → TurnReply → CheckinOutcome → Type 0
  IsCheckinOutcome asked (Refused refusal) (OfCheckin.Refused given) = given ≡ refusal
  IsCheckinOutcome (Ok (ask.Command command)) (Done n (Returned t b now))
      (OfCheckin.Returned home title whereabouts) =
      (branch_name k b ≡ Some home.now) × (title_name k t ≡ Some title.now) × IsWhereabouts now whereabouts
  IsCheckinOutcome (Ok (ask.Cancel (cancel.Checkout c))) (Cancelled n)
      (OfCheckin.Cancelled home title number) =
      (branch_name k ((facts_of k).home c) ≡ Some home.now)
      × (title_name k ((facts_of k).title_of c) ≡ Some title.now)
      × (number ≡ n)
  IsCheckinOutcome _ _ _ = ⊥

  -- The reply to it.
  pub record IsCheckinReply (r : RepeatedValues) (asked : Result Asked Refusal) (told : TurnReply)
      (reply : CheckinReply) : Type 0 where
    pub date : reply.date.now ≡ r.date
    pub institution : reply.institution.now ≡ k.institution
    pub copy : reply.copy.now ≡ unwrap_or (option_copied r.copy) []
    pub outcome : IsCheckinOutcome asked told reply.outcome
