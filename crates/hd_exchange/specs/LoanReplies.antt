-- The replies to checkouts (12) and to renewals (30).
use Rattle.std.specs.Prelude.{◌≡◌, [], Result, Ok, Some}
use Rattle.std.specs.Option.{option_copied, unwrap_or}
use Rattle.hd_message.specs.declared.reply.LoanOutcome.{LoanOutcome}
use Rattle.hd_message.specs.declared.reply.LoanOutcome.TheVariants as OfLoan
use Rattle.hd_message.specs.declared.reply.LoanReply.{LoanReply}
use Rattle.hd_rules.specs.declared.commands.Cancel.TheVariants as cancel
use Rattle.hd_rules.specs.declared.replies.Refusal.{Refusal}
use Rattle.hd_rules.specs.declared.replies.Reply.TheVariants.{LentOrRenewed}
use Rattle.hd_rules.specs.declared.replies.TurnReply.{TurnReply}
use Rattle.hd_rules.specs.declared.replies.TurnReply.TheVariants.{Refused, Done, Cancelled}
use Rattle.hd_rules.specs.declared.turns.Asked.{Asked}
use Rattle.hd_rules.specs.declared.turns.Asked.TheVariants as ask
use Rattle.hd_catalogue.specs.Contents.{Contents, facts_of, title_name}
use Rattle.hd_exchange.specs.declared.repeated.RepeatedValues.{RepeatedValues}

module _ (k : Contents) where
  -- what is said of a checkout or a renewal that asked this and got this answer: the loan; or, where one took
  -- something back, the title of the copy that came back or whose loan was renewed
  abbrev pub IsLoanOutcome : Result Asked Refusal → TurnReply → LoanOutcome → Type 0
  IsLoanOutcome asked (Refused refusal) (OfLoan.Refused given) = given ≡ refusal
  IsLoanOutcome (Ok (ask.Command command)) (Done n (LentOrRenewed t due renewal))
      (OfLoan.Lent renewed title day) =
      (renewed ≡ renewal) × (title_name k t ≡ Some title.now) × (day.now ≡ due)
  IsLoanOutcome (Ok (ask.Cancel (cancel.Checkin c))) (Cancelled n) (OfLoan.Cancelled title number) =
      (title_name k ((facts_of k).title_of c) ≡ Some title.now) × (number ≡ n)
  IsLoanOutcome (Ok (ask.Cancel (cancel.Renewal c))) (Cancelled n) (OfLoan.Cancelled title number) =
      (title_name k ((facts_of k).title_of c) ≡ Some title.now) × (number ≡ n)
  IsLoanOutcome _ _ _ = ⊥

  -- The reply to it.
  pub record IsLoanReply (r : RepeatedValues) (asked : Result Asked Refusal) (told : TurnReply)
      (reply : LoanReply) : Type 0 where
    pub date : reply.date.now ≡ r.date
    pub institution : reply.institution.now ≡ k.institution
    pub patron : reply.patron.now ≡ unwrap_or (option_copied r.patron) []
    pub copy : reply.copy.now ≡ unwrap_or (option_copied r.copy) []
    pub outcome : IsLoanOutcome asked told reply.outcome
