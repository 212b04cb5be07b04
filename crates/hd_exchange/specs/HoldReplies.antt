-- The replies to hold messages (16).
use Rattle.std.specs.Prelude.{◌≡◌, [], ℕ, List, Option, Result, Ok, Some}
use Rattle.std.specs.Option.{option_copied, unwrap_or}
use Rattle.hd_message.specs.declared.reply.HoldOutcome.{HoldOutcome}
use Rattle.hd_message.specs.declared.reply.HoldOutcome.TheVariants as OfHold
use Rattle.hd_message.specs.declared.reply.HoldReply.{HoldReply}
use Rattle.hd_rules.specs.declared.commands.Cancel.TheVariants as cancel
use Rattle.hd_rules.specs.declared.replies.Refusal.{Refusal}
use Rattle.hd_rules.specs.declared.replies.Reply.TheVariants.{Held, Deleted}
use Rattle.hd_rules.specs.declared.replies.TurnReply.{TurnReply}
use Rattle.hd_rules.specs.declared.replies.TurnReply.TheVariants.{Refused, Done, Cancelled}
use Rattle.hd_rules.specs.declared.turns.Asked.{Asked}
use Rattle.hd_rules.specs.declared.turns.Asked.TheVariants as ask
use Rattle.hd_catalogue.specs.Contents.{Contents, branch_name, title_name}
use Rattle.hd_exchange.specs.declared.repeated.RepeatedValues.{RepeatedValues}

module _ (k : Contents) where
  -- what is said of a hold message with this title that asked this and got this answer: the hold; or, where
  -- it is deleted or something is taken back, the title of the hold; a refusal has the message's title
  abbrev pub IsHoldOutcome : Option (List ℕ) → Result Asked Refusal → TurnReply → HoldOutcome → Type 0
  IsHoldOutcome own asked (Refused refusal) (OfHold.Refused title given) =
      (option_copied title ≡ own) × (given ≡ refusal)
  IsHoldOutcome own (Ok (ask.Command command)) (Done n (Held t stands at hold))
      (OfHold.Held available expiry position pickup title) =
      (available ≡ stands) × (option_copied expiry ≡ hold.expiry) × (position ≡ at)
      × (branch_name k hold.pickup ≡ Some pickup.now) × (title_name k t ≡ Some title.now)
  IsHoldOutcome own (Ok (ask.Command command)) (Done n (Deleted t)) (OfHold.Deleted title) =
      title_name k t ≡ Some title.now
  IsHoldOutcome own (Ok (ask.Cancel (cancel.Add p t))) (Cancelled n) (OfHold.Cancelled title number) =
      (title_name k t ≡ Some title.now) × (number ≡ n)
  IsHoldOutcome own (Ok (ask.Cancel (cancel.Delete p t))) (Cancelled n) (OfHold.Cancelled title number) =
      (title_name k t ≡ Some title.now) × (number ≡ n)
  IsHoldOutcome own (Ok (ask.Cancel (cancel.Change p t))) (Cancelled n) (OfHold.Cancelled title number) =
      (title_name k t ≡ Some title.now) × (number ≡ n)
  IsHoldOutcome _ _ _ _ = ⊥

  -- The reply to it; it has an AB only where there is one to repeat.
  pub record IsHoldReply (r : RepeatedValues) (asked : Result Asked Refusal) (told : TurnReply)
      (reply : HoldReply) : Type 0 where
    pub date : reply.date.now ≡ r.date
    pub institution : reply.institution.now ≡ k.institution
    pub patron : reply.patron.now ≡ unwrap_or (option_copied r.patron) []
    pub copy : option_copied reply.copy ≡ option_copied r.copy
    pub outcome : IsHoldOutcome (option_copied r.title) asked told reply.outcome
