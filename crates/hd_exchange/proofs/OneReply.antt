-- What a message is told is spelled in one way.
use Rattle.std.proofs.Common.{◌≡◌, ℕ, Bool, false, List, [], Option, Some, None, Result, Ok, arith, refl, sym}
use Rattle.std.proofs.Common.{ap, ◌∙◌}
use Rattle.std.proofs.lemmas.Option.{same_Some}
use Rattle.std.specs.List.{concat}
use Rattle.std.specs.Option.{option_copied, unwrap_or}
use Rattle.hd_message.specs.CheckinReplies.{checkin_layout, is_alert, whereabouts_field}
use Rattle.hd_message.specs.HoldReplies.{hold_layout}
use Rattle.hd_message.specs.ItemReplies.{branch_field, item_layout, loan_field, status_code}
use Rattle.hd_message.specs.LoanReplies.{checkout_front, loan_layout, renew_front}
use Rattle.hd_message.specs.Replies.{reply_text}
use Rattle.hd_message.specs.declared.kind.DeskKind.{DeskKind}
use Rattle.hd_message.specs.declared.kind.DeskKind.TheVariants as kind
use Rattle.hd_message.specs.declared.reply.CheckinOutcome.{CheckinOutcome}
use Rattle.hd_message.specs.declared.reply.CheckinOutcome.TheVariants as OfCheckin
use Rattle.hd_message.specs.declared.reply.CheckinReply.{CheckinReply}
use Rattle.hd_message.specs.declared.reply.Circulation.{Circulation}
use Rattle.hd_message.specs.declared.reply.Circulation.TheVariants as OfCopy
use Rattle.hd_message.specs.declared.reply.HoldOutcome.{HoldOutcome}
use Rattle.hd_message.specs.declared.reply.HoldOutcome.TheVariants as OfHold
use Rattle.hd_message.specs.declared.reply.HoldReply.{HoldReply}
use Rattle.hd_message.specs.declared.reply.ItemOutcome.{ItemOutcome}
use Rattle.hd_message.specs.declared.reply.ItemOutcome.TheVariants as OfItem
use Rattle.hd_message.specs.declared.reply.ItemReply.{ItemReply}
use Rattle.hd_message.specs.declared.reply.LoanOutcome.{LoanOutcome}
use Rattle.hd_message.specs.declared.reply.LoanOutcome.TheVariants as OfLoan
use Rattle.hd_message.specs.declared.reply.LoanReply.{LoanReply}
use Rattle.hd_message.specs.declared.reply.Reply.{Reply}
use Rattle.hd_message.specs.declared.reply.Reply.TheVariants as reply
use Rattle.hd_message.specs.declared.reply.Whereabouts.{Whereabouts}
use Rattle.hd_message.specs.declared.reply.Whereabouts.TheVariants as OfReturn
use Rattle.hd_rules.specs.declared.commands.Cancel.TheVariants as cancel
use Rattle.hd_rules.specs.declared.copies.CopyState.{CopyState}
use Rattle.hd_rules.specs.declared.copies.CopyState.TheVariants.{Shelf, OnLoan, OnHoldShelf, InTransit}
use Rattle.hd_rules.specs.declared.replies.Refusal.{Refusal}
use Rattle.hd_rules.specs.declared.replies.Reply.TheVariants.{Deleted, Held, LentOrRenewed, Returned}
use Rattle.hd_rules.specs.declared.replies.TurnReply.{TurnReply}
use Rattle.hd_rules.specs.declared.replies.TurnReply.TheVariants.{Cancelled, Done, Item, Refused}
use Rattle.hd_rules.specs.declared.turns.Asked.{Asked}
use Rattle.hd_rules.specs.declared.turns.Asked.TheVariants as ask
use Rattle.hd_catalogue.specs.Contents.{Contents, branch_name, facts_of, title_name}
use Rattle.hd_exchange.specs.CheckinReplies.{IsCheckinOutcome, IsWhereabouts}
use Rattle.hd_exchange.specs.HoldReplies.{IsHoldOutcome}
use Rattle.hd_exchange.specs.ItemReplies.{IsCirculation, IsItemOutcome}
use Rattle.hd_exchange.specs.LoanReplies.{IsLoanOutcome, IsLoanReply}
use Rattle.hd_exchange.specs.Replies.{IsReply}
use Rattle.hd_exchange.specs.declared.repeated.RepeatedValues.{RepeatedValues}

-- a name that is printed
abbrev Name : Type 0
Name = Option (List ℕ)

-- The outcomes by what is printed of them: which one it is, and its values.

abbrev Loan : Type 0
Loan = ℕ × Bool × Name × ℕ × Option Refusal

abbrev loan_plain : LoanOutcome → Loan
loan_plain (OfLoan.Lent renewed title due) = (0, renewed, Some title.now, due.now, None)
loan_plain (OfLoan.Cancelled title number) = (1, false, Some title.now, number, None)
loan_plain (OfLoan.Refused refusal) = (2, false, None, 0, Some refusal)

abbrev Where : Type 0
Where = ℕ × ℕ × Name

abbrev where_plain : Whereabouts → Where
where_plain OfReturn.OpenShelf = (0, 0, None)
where_plain (OfReturn.HoldShelf place) = (1, place, None)
where_plain (OfReturn.Transit branch) = (2, 0, Some branch.now)

abbrev Checkin : Type 0
Checkin = ℕ × Name × Name × ℕ × Where × Option Refusal

abbrev checkin_plain : CheckinOutcome → Checkin
checkin_plain (OfCheckin.Returned home title whereabouts) =
    (0, Some home.now, Some title.now, 0, where_plain whereabouts, None)
checkin_plain (OfCheckin.Cancelled home title number) =
    (1, Some home.now, Some title.now, number, (0, 0, None), None)
checkin_plain (OfCheckin.Refused refusal) = (2, None, None, 0, (0, 0, None), Some refusal)

abbrev Hold : Type 0
Hold = ℕ × Bool × Option ℕ × ℕ × Name × Name × Option Refusal

abbrev hold_plain : HoldOutcome → Hold
hold_plain (OfHold.Held available expiry position pickup title) =
    (0, available, option_copied expiry, position, Some pickup.now, Some title.now, None)
hold_plain (OfHold.Deleted title) = (1, false, None, 0, None, Some title.now, None)
hold_plain (OfHold.Cancelled title number) = (2, false, None, number, None, Some title.now, None)
hold_plain (OfHold.Refused title refusal) = (3, false, None, 0, None, option_copied title, Some refusal)

abbrev Copy : Type 0
Copy = ℕ × Name × ℕ

abbrev copy_plain : Circulation → Copy
copy_plain (OfCopy.OpenShelf branch) = (0, Some branch.now, 0)
copy_plain (OfCopy.Loan due) = (1, None, due.now)
copy_plain (OfCopy.HoldShelf branch) = (2, Some branch.now, 0)
copy_plain OfCopy.Transit = (3, None, 0)

abbrev Question : Type 0
Question = ℕ × ℕ × Name × Name × Copy × Option Refusal

abbrev item_plain : ItemOutcome → Question
item_plain (OfItem.Found holds title home circulation) =
    (0, holds, Some title.now, Some home.now, copy_plain circulation, None)
item_plain (OfItem.Refused refusal) = (1, 0, None, None, (3, None, 0), Some refusal)

-- What is told, by what is printed of it.
module _ (k : Contents) where
  abbrev loan_told : Result Asked Refusal → TurnReply → Loan
  loan_told asked (Refused refusal) = (2, false, None, 0, Some refusal)
  loan_told (Ok (ask.Command command)) (Done n (LentOrRenewed t due renewal)) =
      (0, renewal, title_name k t, due, None)
  loan_told (Ok (ask.Cancel (cancel.Checkin c))) (Cancelled n) =
      (1, false, title_name k ((facts_of k).title_of c), n, None)
  loan_told (Ok (ask.Cancel (cancel.Renewal c))) (Cancelled n) =
      (1, false, title_name k ((facts_of k).title_of c), n, None)
  loan_told _ _ = (3, false, None, 0, None)

  loan_is : (asked : Result Asked Refusal) (told : TurnReply) (o : LoanOutcome) → IsLoanOutcome k asked told o
      → loan_plain o ≡ loan_told asked told
  loan_is asked (Refused refusal) (OfLoan.Refused given) is = rw is refl
  loan_is (Ok (ask.Command command)) (Done n (LentOrRenewed t due renewal))
      (OfLoan.Lent renewed title day) is =
      rw (is.0, is.1, is.2) refl
  loan_is (Ok (ask.Cancel (cancel.Checkin c))) (Cancelled n) (OfLoan.Cancelled title number) is =
      rw (is.0, is.1) refl
  loan_is (Ok (ask.Cancel (cancel.Renewal c))) (Cancelled n) (OfLoan.Cancelled title number) is =
      rw (is.0, is.1) refl
  loan_is _ _ _ none = absurd none

  abbrev where_told : CopyState → Where
  where_told (Shelf b) = (0, 0, None)
  where_told (OnLoan loan) = (0, 0, None)
  where_told (OnHoldShelf shelved) = (1, shelved.place, None)
  where_told (InTransit transit) = (2, 0, branch_name k transit.to)

  where_is : (now : CopyState) (w : Whereabouts) → IsWhereabouts k now w → where_plain w ≡ where_told now
  where_is (Shelf b) OfReturn.OpenShelf is = refl
  where_is (OnLoan loan) OfReturn.OpenShelf is = refl
  where_is (OnHoldShelf shelved) (OfReturn.HoldShelf place) is = rw is refl
  where_is (InTransit transit) (OfReturn.Transit branch) is = rw is refl
  where_is _ _ none = absurd none

  abbrev checkin_told : Result Asked Refusal → TurnReply → Checkin
  checkin_told asked (Refused refusal) = (2, None, None, 0, (0, 0, None), Some refusal)
  checkin_told (Ok (ask.Command command)) (Done n (Returned t b now)) =
      (0, branch_name k b, title_name k t, 0, where_told now, None)
  checkin_told (Ok (ask.Cancel (cancel.Checkout c))) (Cancelled n) =
      (1, branch_name k ((facts_of k).home c), title_name k ((facts_of k).title_of c), n, (0, 0, None), None)
  checkin_told _ _ = (3, None, None, 0, (0, 0, None), None)

  checkin_is : (asked : Result Asked Refusal) (told : TurnReply) (o : CheckinOutcome)
      → IsCheckinOutcome k asked told o
      → checkin_plain o ≡ checkin_told asked told
  checkin_is asked (Refused refusal) (OfCheckin.Refused given) is = rw is refl
  checkin_is (Ok (ask.Command command)) (Done n (Returned t b now))
      (OfCheckin.Returned home title whereabouts) is =
      rw (is.0, is.1, where_is now whereabouts is.2) refl
  checkin_is (Ok (ask.Cancel (cancel.Checkout c))) (Cancelled n) (OfCheckin.Cancelled home title number) is =
      rw (is.0, is.1, is.2) refl
  checkin_is _ _ _ none = absurd none

  abbrev hold_told : Name → Result Asked Refusal → TurnReply → Hold
  hold_told own asked (Refused refusal) = (3, false, None, 0, None, own, Some refusal)
  hold_told own (Ok (ask.Command command)) (Done n (Held t stands at hold)) =
      (0, stands, hold.expiry, at, branch_name k hold.pickup, title_name k t, None)
  hold_told own (Ok (ask.Command command)) (Done n (Deleted t)) =
      (1, false, None, 0, None, title_name k t, None)
  hold_told own (Ok (ask.Cancel (cancel.Add p t))) (Cancelled n) =
      (2, false, None, n, None, title_name k t, None)
  hold_told own (Ok (ask.Cancel (cancel.Delete p t))) (Cancelled n) =
      (2, false, None, n, None, title_name k t, None)
  hold_told own (Ok (ask.Cancel (cancel.Change p t))) (Cancelled n) =
      (2, false, None, n, None, title_name k t, None)
  hold_told _ _ _ = (4, false, None, 0, None, None, None)

  hold_is : (own : Name) (asked : Result Asked Refusal) (told : TurnReply) (o : HoldOutcome)
      → IsHoldOutcome k own asked told o
      → hold_plain o ≡ hold_told own asked told
  hold_is own asked (Refused refusal) (OfHold.Refused title given) is = rw (is.0, is.1) refl
  hold_is own (Ok (ask.Command command)) (Done n (Held t stands at hold))
      (OfHold.Held available expiry position pickup title) is =
      rw (is.0, is.1, is.2, is.3, is.4) refl
  hold_is own (Ok (ask.Command command)) (Done n (Deleted t)) (OfHold.Deleted title) is = rw is refl
  hold_is own (Ok (ask.Cancel (cancel.Add p t))) (Cancelled n) (OfHold.Cancelled title number) is =
      rw (is.0, is.1) refl
  hold_is own (Ok (ask.Cancel (cancel.Delete p t))) (Cancelled n) (OfHold.Cancelled title number) is =
      rw (is.0, is.1) refl
  hold_is own (Ok (ask.Cancel (cancel.Change p t))) (Cancelled n) (OfHold.Cancelled title number) is =
      rw (is.0, is.1) refl
  hold_is _ _ _ _ none = absurd none

  abbrev copy_told : CopyState → Copy
  copy_told (Shelf b) = (0, branch_name k b, 0)
  copy_told (OnLoan loan) = (1, None, loan.due)
  copy_told (OnHoldShelf shelved) = (2, branch_name k shelved.branch, 0)
  copy_told (InTransit transit) = (3, None, 0)

  copy_is : (state : CopyState) (c : Circulation) → IsCirculation k state c → copy_plain c ≡ copy_told state
  copy_is (Shelf b) (OfCopy.OpenShelf branch) is = rw is refl
  copy_is (OnLoan loan) (OfCopy.Loan due) is = rw is refl
  copy_is (OnHoldShelf shelved) (OfCopy.HoldShelf branch) is = rw is refl
  copy_is (InTransit transit) OfCopy.Transit is = refl
  copy_is _ _ none = absurd none

  abbrev item_told : Result Asked Refusal → TurnReply → Question
  item_told asked (Refused refusal) = (1, 0, None, None, (3, None, 0), Some refusal)
  item_told (Ok (ask.Item c)) (Item view) = (
    0,
    view.holds,
    title_name k ((facts_of k).title_of c),
    branch_name k ((facts_of k).home c),
    copy_told
        view.state,
    None,
  )
  item_told _ _ = (2, 0, None, None, (3, None, 0), None)

  item_is : (asked : Result Asked Refusal) (told : TurnReply) (o : ItemOutcome) → IsItemOutcome k asked told o
      → item_plain o ≡ item_told asked told
  item_is asked (Refused refusal) (OfItem.Refused given) is = rw is refl
  item_is (Ok (ask.Item c)) (Item view) (OfItem.Found holds title home circulation) is =
      rw (is.0, is.1, is.2, copy_is view.state circulation is.3) refl
  item_is _ _ _ none = absurd none

-- Texts of the same values are the same.

loan_texts : (a b : LoanReply) (o p : LoanOutcome) → a.date.now ≡ b.date.now → a.institution.now
    ≡ b.institution.now
    → a.patron.now ≡ b.patron.now → a.copy.now ≡ b.copy.now → loan_plain o ≡ loan_plain p
    → (concat (loan_layout (checkout_front o) a o) ≡ concat (loan_layout (checkout_front p) b p))
    × (concat (loan_layout (renew_front o) a o) ≡ concat (loan_layout (renew_front p) b p))
loan_texts a b (OfLoan.Lent r t d) (OfLoan.Lent r' t' d') date institution patron copy same =
    let renewed : r ≡ r' = ap (λ (x : Loan). x.1) same in
    let title : t.now ≡ t'.now = same_Some _ _ (ap (λ (x : Loan). x.2) same) in
    let due : d.now ≡ d'.now = ap (λ (x : Loan). x.3) same in (
      rw (date, institution, patron, copy, renewed, title, due) refl,
      rw
          (date, institution, patron, copy, title, due) refl,
    )
loan_texts a b (OfLoan.Cancelled t n) (OfLoan.Cancelled t' n') date institution patron copy same =
    let title : t.now ≡ t'.now = same_Some _ _ (ap (λ (x : Loan). x.2) same) in
    let number : n ≡ n' = ap (λ (x : Loan). x.3) same in (
      rw (date, institution, patron, copy, title, number) refl,
      rw
          (date, institution, patron, copy, title, number) refl,
    )
loan_texts a b (OfLoan.Refused r) (OfLoan.Refused r') date institution patron copy same =
    let refusal : r ≡ r' = same_Some _ _ (ap (λ (x : Loan). x.4) same) in
    (rw (date, institution, patron, copy, refusal) refl, rw (date, institution, patron, copy, refusal) refl)
loan_texts a b _ _ date institution patron copy same = absurd (omega (arith, ap (λ (x : Loan). x.0) same))

where_layout : (v w : Whereabouts) → where_plain v ≡ where_plain w
    → (is_alert v ≡ is_alert w) × (whereabouts_field v ≡ whereabouts_field w)
where_layout OfReturn.OpenShelf OfReturn.OpenShelf same = (refl, refl)
where_layout (OfReturn.HoldShelf p) (OfReturn.HoldShelf q) same =
    let place : p ≡ q = ap (λ (x : Where). x.1) same in (refl, rw place refl)
where_layout (OfReturn.Transit b) (OfReturn.Transit c) same =
    let branch : b.now ≡ c.now = same_Some _ _ (ap (λ (x : Where). x.2) same) in (refl, rw branch refl)
where_layout _ _ same = absurd (omega (arith, ap (λ (x : Where). x.0) same))

checkin_texts : (a b : CheckinReply) (o p : CheckinOutcome) → a.date.now ≡ b.date.now → a.institution.now
    ≡ b.institution.now
    → a.copy.now ≡ b.copy.now → checkin_plain o ≡ checkin_plain p → concat (checkin_layout a o)
    ≡ concat (checkin_layout b p)
checkin_texts a b (OfCheckin.Returned h t w) (OfCheckin.Returned h' t' w') date institution copy same =
    let home : h.now ≡ h'.now = same_Some _ _ (ap (λ (x : Checkin). x.1) same) in
    let title : t.now ≡ t'.now = same_Some _ _ (ap (λ (x : Checkin). x.2) same) in
    let stands = where_layout w w' (ap (λ (x : Checkin). x.4) same) in
    let alert : is_alert w ≡ is_alert w' = stands.0 in
    let field : whereabouts_field w ≡ whereabouts_field w' = stands.1 in
    rw (date, institution, copy, home, title, alert, field) refl
checkin_texts a b (OfCheckin.Cancelled h t n) (OfCheckin.Cancelled h' t' n') date institution copy same =
    let home : h.now ≡ h'.now = same_Some _ _ (ap (λ (x : Checkin). x.1) same) in
    let title : t.now ≡ t'.now = same_Some _ _ (ap (λ (x : Checkin). x.2) same) in
    let number : n ≡ n' = ap (λ (x : Checkin). x.3) same in
    rw (date, institution, copy, home, title, number) refl
checkin_texts a b (OfCheckin.Refused r) (OfCheckin.Refused r') date institution copy same =
    let refusal : r ≡ r' = same_Some _ _ (ap (λ (x : Checkin). x.5) same) in
    rw (date, institution, copy, refusal) refl
checkin_texts a b _ _ date institution copy same = absurd (omega (arith, ap (λ (x : Checkin). x.0) same))

hold_texts : (a b : HoldReply) (o p : HoldOutcome) → a.date.now ≡ b.date.now → a.institution.now
    ≡ b.institution.now
    → a.patron.now ≡ b.patron.now → option_copied a.copy ≡ option_copied b.copy → hold_plain o ≡ hold_plain p
    → concat (hold_layout a o) ≡ concat (hold_layout b p)
hold_texts a b (OfHold.Held v e n p t) (OfHold.Held v' e' n' p' t') date institution patron copy same =
    let available : v ≡ v' = ap (λ (x : Hold). x.1) same in
    let expiry : option_copied e ≡ option_copied e' = ap (λ (x : Hold). x.2) same in
    let position : n ≡ n' = ap (λ (x : Hold). x.3) same in
    let pickup : p.now ≡ p'.now = same_Some _ _ (ap (λ (x : Hold). x.4) same) in
    let title : t.now ≡ t'.now = same_Some _ _ (ap (λ (x : Hold). x.5) same) in
    rw (date, institution, patron, copy, available, expiry, position, pickup, title) refl
hold_texts a b (OfHold.Deleted t) (OfHold.Deleted t') date institution patron copy same =
    let title : t.now ≡ t'.now = same_Some _ _ (ap (λ (x : Hold). x.5) same) in
    rw (date, institution, patron, copy, title) refl
hold_texts a b (OfHold.Cancelled t n) (OfHold.Cancelled t' n') date institution patron copy same =
    let title : t.now ≡ t'.now = same_Some _ _ (ap (λ (x : Hold). x.5) same) in
    let number : n ≡ n' = ap (λ (x : Hold). x.3) same in
    rw (date, institution, patron, copy, title, number) refl
hold_texts a b (OfHold.Refused t r) (OfHold.Refused t' r') date institution patron copy same =
    let title : option_copied t ≡ option_copied t' = ap (λ (x : Hold). x.5) same in
    let refusal : r ≡ r' = same_Some _ _ (ap (λ (x : Hold). x.6) same) in
    rw (date, institution, patron, copy, title, refusal) refl
hold_texts a b _ _ date institution patron copy same = absurd (omega (arith, ap (λ (x : Hold). x.0) same))

copy_layout : (v w : Circulation) → copy_plain v ≡ copy_plain w
    → (status_code v ≡ status_code w) × (loan_field v ≡ loan_field w) × (branch_field v ≡ branch_field w)
copy_layout (OfCopy.OpenShelf b) (OfCopy.OpenShelf c) same =
    let branch : b.now ≡ c.now = same_Some _ _ (ap (λ (x : Copy). x.1) same) in (refl, refl, rw branch refl)
copy_layout (OfCopy.Loan d) (OfCopy.Loan e) same =
    let due : d.now ≡ e.now = ap (λ (x : Copy). x.2) same in (refl, rw due refl, refl)
copy_layout (OfCopy.HoldShelf b) (OfCopy.HoldShelf c) same =
    let branch : b.now ≡ c.now = same_Some _ _ (ap (λ (x : Copy). x.1) same) in (refl, refl, rw branch refl)
copy_layout OfCopy.Transit OfCopy.Transit same = (refl, refl, refl)
copy_layout _ _ same = absurd (omega (arith, ap (λ (x : Copy). x.0) same))

item_texts : (a b : ItemReply) (o p : ItemOutcome) → a.date.now ≡ b.date.now → a.copy.now ≡ b.copy.now
    → item_plain o ≡ item_plain p
    → concat (item_layout a o) ≡ concat (item_layout b p)
item_texts a b (OfItem.Found n t h c) (OfItem.Found n' t' h' c') date copy same =
    let holds : n ≡ n' = ap (λ (x : Question). x.1) same in
    let title : t.now ≡ t'.now = same_Some _ _ (ap (λ (x : Question). x.2) same) in
    let home : h.now ≡ h'.now = same_Some _ _ (ap (λ (x : Question). x.3) same) in
    let stands = copy_layout c c' (ap (λ (x : Question). x.4) same) in
    let status : status_code c ≡ status_code c' = stands.0 in
    let loan : loan_field c ≡ loan_field c' = stands.1 in
    let branch : branch_field c ≡ branch_field c' = stands.2 in
    rw (date, copy, holds, title, home, status, loan, branch) refl
item_texts a b (OfItem.Refused r) (OfItem.Refused r') date copy same =
    let refusal : r ≡ r' = same_Some _ _ (ap (λ (x : Question). x.5) same) in
    rw (date, copy, refusal) refl
item_texts a b _ _ date copy same = absurd (omega (arith, ap (λ (x : Question). x.0) same))

-- The reply to a message that states the same, asked the same and was told the same.
module _ (k : Contents) (r q : RepeatedValues) (asked : Result Asked Refusal) (told : TurnReply)
    (date : r.date ≡ q.date)
    (patron : option_copied r.patron ≡ option_copied q.patron)
    (copy : option_copied r.copy ≡ option_copied q.copy)
    (title : option_copied r.title ≡ option_copied q.title) where
  -- a value that may be missing
  value : {x y : Option (List ℕ)} → x ≡ y → unwrap_or x [] ≡ unwrap_or y []
  value same = ap (λ (o : Option (List ℕ)). unwrap_or o []) same

  one_loan : (a b : LoanReply) → IsLoanReply k r asked told a → IsLoanReply k q asked told b
      → (reply_text (reply.Checkout a) ≡ reply_text (reply.Checkout b))
      × (reply_text (reply.Renew a) ≡ reply_text (reply.Renew b))
  one_loan a b is so =
      loan_texts a b a.outcome b.outcome (is.date ∙ (date ∙ sym so.date))
      (is.institution ∙ sym so.institution)
      (is.patron ∙ (value patron ∙ sym so.patron)) (is.copy ∙ (value copy ∙ sym so.copy))
      (loan_is k asked told a.outcome is.outcome ∙ sym (loan_is k asked told b.outcome so.outcome))

  one_checkout : (a : LoanReply) (b : Reply) → IsLoanReply k r asked told a
      → IsReply k kind.Checkout q asked told b
      → reply_text (reply.Checkout a) ≡ reply_text b
  one_checkout a (reply.Checkout b) is so = (one_loan a b is so).0
  one_checkout a _ is so = absurd so

  one_renewal : (a : LoanReply) (b : Reply) → IsLoanReply k r asked told a
      → IsReply k kind.Renew q asked told b
      → reply_text (reply.Renew a) ≡ reply_text b
  one_renewal a (reply.Renew b) is so = (one_loan a b is so).1
  one_renewal a _ is so = absurd so

  one_checkin : (a : CheckinReply) (b : Reply) → IsReply k kind.Checkin r asked told (reply.Checkin a)
      → IsReply k kind.Checkin q asked told b → reply_text (reply.Checkin a) ≡ reply_text b
  one_checkin a (reply.Checkin b) is so =
      checkin_texts a b a.outcome b.outcome (is.date ∙ (date ∙ sym so.date))
      (is.institution ∙ sym so.institution)
      (is.copy ∙ (value copy ∙ sym so.copy))
      (checkin_is k asked told a.outcome is.outcome ∙ sym (checkin_is k asked told b.outcome so.outcome))
  one_checkin a _ is so = absurd so

  one_hold : (a : HoldReply) (b : Reply) → IsReply k kind.Hold r asked told (reply.Hold a)
      → IsReply k kind.Hold q asked told b
      → reply_text (reply.Hold a) ≡ reply_text b
  one_hold a (reply.Hold b) is so =
      hold_texts a b a.outcome b.outcome (is.date ∙ (date ∙ sym so.date))
      (is.institution ∙ sym so.institution)
      (is.patron ∙ (value patron ∙ sym so.patron)) (is.copy ∙ (copy ∙ sym so.copy))
      (hold_is k (option_copied r.title) asked told a.outcome is.outcome
      ∙ (ap (λ (own : Name). hold_told k own asked told) title
      ∙ sym (hold_is k (option_copied q.title) asked told b.outcome so.outcome)))
  one_hold a _ is so = absurd so

  one_item : (a : ItemReply) (b : Reply) → IsReply k kind.Item r asked told (reply.Item a)
      → IsReply k kind.Item q asked told b
      → reply_text (reply.Item a) ≡ reply_text b
  one_item a (reply.Item b) is so =
      item_texts a b a.outcome b.outcome (is.date ∙ (date ∙ sym so.date))
      (is.copy ∙ (value copy ∙ sym so.copy))
      (item_is k asked told a.outcome is.outcome ∙ sym (item_is k asked told b.outcome so.outcome))
  one_item a _ is so = absurd so

  -- has one text
  pub one_text : (of : DeskKind) (a b : Reply) → IsReply k of r asked told a → IsReply k of q asked told b
      → reply_text a ≡ reply_text b
  one_text kind.Checkout (reply.Checkout a) b is so = one_checkout a b is so
  one_text kind.Checkin (reply.Checkin a) b is so = one_checkin a b is so
  one_text kind.Hold (reply.Hold a) b is so = one_hold a b is so
  one_text kind.Renew (reply.Renew a) b is so = one_renewal a b is so
  one_text kind.Item (reply.Item a) b is so = one_item a b is so
  one_text _ _ b is so = absurd is
