-- What each command asks, and what it then does (§ The commands).
use Rattle.std.specs.Prelude.{◌+◌, Bool, true, false, ◌||◌, ◌==◌, nat_lt, nat_le, Option, Some, None, List}
use Rattle.std.specs.Prelude.{[], ◌∷◌, ◌++◌, if◌then◌else◌, unwrap_or}
use Rattle.hd_rules.specs.Words.{Hold, HoldKind, Loan, CopyState, Shelf, OnLoan, OnHoldShelf, InTransit}
use Rattle.hd_rules.specs.Words.{CopyCell, HoldCell, Change, ValueOf, Choice, Room, Position, OnShelf, Reply}
use Rattle.hd_rules.specs.Words.{LentOrRenewed, Returned, Held, Deleted, Action, Command}
use Rattle.hd_rules.specs.declared.replies.Refusal.TheVariants as refusal
use Rattle.hd_rules.specs.declared.commands.Action.TheVariants as action
use Rattle.hd_rules.specs.Numbers.{BranchNo, TitleNo, CopyNo, PatronNo, Day, CommandNo}
use Rattle.hd_rules.specs.Facts.{Facts, last_number}
use Rattle.hd_rules.specs.Same.{real_changes}
use Rattle.hd_rules.specs.Choose.{has_expired, admits}
use Rattle.hd_rules.specs.Ask.{Plan, Ask, Refuse, Accept}
use Rattle.hd_rules.specs.Settle.{settle, allot, tied_to, copy_becomes, hold_becomes, with_copy}

-- no number is given above the last one (§ All commands)
abbrev pub accept : Facts → CommandNo → List Change → Reply → Plan
accept k n changes reply =
    if nat_lt (last_number k) n then Refuse refusal.JournalFull
    else Accept (record { changes = real_changes changes; reply = reply })

-- the last day that a due day may be: 9999-12-31
abbrev pub last_day : Day
last_day = 3652424

-- the transaction day and the title's loan days (§ Checkout)
abbrev pub due_day : Facts → CopyNo → Day → Day
due_day k c day = day + k.loan_days (k.title_of c)

-- a loan of a copy that the patron may have, where there is room and the day is well (§ Checkout)
abbrev pub lend : Facts → PatronNo → CopyNo → Day → Plan → Plan
lend k p c day rest = Ask (Room p) (λ room.
    if room
    then (if nat_lt last_day (due_day k c day) then Refuse refusal.DueRange else rest)
    else Refuse refusal.LoanLimit)

-- the copy's first hold is another patron's
abbrev pub is_wanted : PatronNo → Option Hold → Bool
is_wanted p None = false
is_wanted p (Some h) = if h.patron == p then false else true

-- renewed as often as may be, or wanted by another (§ Renew)
abbrev pub cannot_renew : Facts → PatronNo → CopyNo → Loan → Option Hold → Bool
cannot_renew k p c l chosen = nat_le (k.renewals (k.title_of c)) l.renewals || is_wanted p chosen

-- Lending and renewing: the command n, the patron p, the copy c, the transaction day.
module _ (k : Facts) (n : CommandNo) (p : PatronNo) (c : CopyNo) (day : Day) where
  -- the copy is lent, and these holds end (§ Checkout)
  abbrev pub make_loan : CopyState → List Change → Plan
  make_loan old ends = accept k n
      (copy_becomes c old (OnLoan (record { patron = p; due = due_day k c day; renewals = 0 })) ∷ ends)
      (LentOrRenewed (k.title_of c) (due_day k c day) false)

  -- the same, where the patron's hold ends by it
  abbrev pub lend_held : CopyState → Plan
  lend_held old = lend k p c day (Ask (ValueOf (HoldCell (k.title_of c) p)) (λ held.
      make_loan old (hold_becomes (k.title_of c) p held None ∷ [])))

  -- a copy from the open shelf: nobody's hold comes first, or the patron's own, which then ends
  abbrev pub lend_from_shelf : CopyState → Option Hold → Plan
  lend_from_shelf old None = lend k p c day (make_loan old [])
  lend_from_shelf old (Some h) = if h.patron == p then lend_held old else Refuse refusal.KeptForAnother

  -- a loan of the patron, renewed (§ Renew)
  abbrev pub renew_loan : Loan → Plan
  renew_loan l = Ask (Choice c (k.home c) day) (λ chosen.
      if cannot_renew k p c l chosen then Refuse refusal.NotRenewable
      else if nat_lt last_day (due_day k c day) then Refuse refusal.DueRange
      else accept k n
      (copy_becomes c (OnLoan l)
      (OnLoan (record { patron = p; due = due_day k c day; renewals = l.renewals + 1 })) ∷ [])
      (LentOrRenewed (k.title_of c) (due_day k c day) true))

  -- a renewal, by where the copy is (§ Renew)
  abbrev pub renew_at : CopyState → Plan
  renew_at (OnLoan l) = if l.patron == p then renew_loan l else Refuse refusal.NotOnLoan
  renew_at _ = Refuse refusal.NotOnLoan

-- a checkout, by where the copy is (§ Checkout)
abbrev pub checkout_at : Facts → CommandNo → PatronNo → CopyNo → Bool → Day → CopyState → Plan
checkout_at k n p c may_renew day (Shelf b) =
    Ask (Choice c (k.home c) day) (λ chosen. lend_from_shelf k n p c day (Shelf b) chosen)
checkout_at k n p c may_renew day (OnLoan l) =
    if l.patron == p
    then (if may_renew then renew_loan k n p c day l else Refuse refusal.OnLoan)
    else Refuse refusal.OnLoan
checkout_at k n p c may_renew day (OnHoldShelf s) =
    if s.patron == p then lend_held k n p c day (OnHoldShelf s) else Refuse refusal.KeptForAnother
checkout_at k n p c may_renew day (InTransit t) = Refuse refusal.InTransit

-- What an off-line loan of the copy does to holds (§ Off-line checkout).
module _ (k : Facts) (c : CopyNo) where
  -- the hold of a patron that an off-line loan ends has the copy, or admits it and has none
  abbrev pub ends_with : Hold → Option CopyNo → Bool
  ends_with h None = admits k h.kind h.pickup c
  ends_with h (Some x) = x == c

  -- the hold that the off-line loan ends
  abbrev pub end_of_hold : PatronNo → Option Hold → List Change
  end_of_hold p None = []
  end_of_hold p (Some h) = if ends_with h h.copy then hold_becomes (k.title_of c) p (Some h) None ∷ [] else []

  -- the hold that an off-line loan takes the copy from
  abbrev pub release_of_hold : PatronNo → Option Hold → List Change
  release_of_hold q None = []
  release_of_hold q (Some h) = hold_becomes (k.title_of c) q (Some h) (Some (with_copy None h)) ∷ []

-- A loan that the terminal made on its own, until the day that its message says (§ Off-line checkout).
module _ (k : Facts) (n : CommandNo) (p : PatronNo) (c : CopyNo) (due : Day) where
  -- the copy is on loan until then
  abbrev pub lend_off_line : CopyState → List Change → Plan
  lend_off_line old holds = accept k n
      (copy_becomes c old (OnLoan (record { patron = p; due = due; renewals = 0 })) ∷ holds)
      (LentOrRenewed (k.title_of c) due false)

  -- the copy was tied to nobody, or to a patron
  abbrev pub off_line_at : CopyState → Option Hold → Option PatronNo → Plan
  off_line_at old held None = lend_off_line old (end_of_hold k c p held)
  off_line_at old held (Some q) =
      if q == p then lend_off_line old (end_of_hold k c p held)
      else Ask (ValueOf (HoldCell (k.title_of c) q))
      (λ other. lend_off_line old (end_of_hold k c p held ++ release_of_hold k c q other))

  -- wherever the copy was
  abbrev pub off_line : Plan
  off_line = Ask (ValueOf (CopyCell c)) (λ old. Ask (ValueOf (HoldCell (k.title_of c) p)) (λ held.
      off_line_at old held (tied_to old)))

-- what was kept for a hold that ends (§ Hold delete)
abbrev pub release : Facts → CopyNo → Day → CopyState → (List Change → Plan) → Plan
release k c day (InTransit t) rest =
    rest (copy_becomes c (InTransit t) (InTransit (record { from = t.from; to = t.to; patron = None })) ∷ [])
release k c day (OnHoldShelf s) rest = Ask (Choice c s.branch day) (λ chosen.
    allot k c s.branch (Some s.place) chosen (λ new gets. rest (copy_becomes c (OnHoldShelf s) new ∷ gets)))
release k c day _ rest = rest []

-- the hold with what the message gives (§ Hold change)
abbrev pub changed_hold : Option HoldKind → Option BranchNo → Option Day → Hold → Hold
changed_hold kind pickup expiry h = record h {
  kind = unwrap_or kind h.kind;
  pickup = unwrap_or pickup h.pickup;
  expiry = elim expiry as (λ _. Option Day) [ None ↦ h.expiry | Some day ↦ Some day ];
}

-- The other commands, with the number n.
module _ (k : Facts) (n : CommandNo) where
  -- a return of the copy at the branch (§ Checkin)
  abbrev pub checkin : CopyNo → BranchNo → Day → Plan
  checkin c b day = Ask (ValueOf (CopyCell c)) (λ old.
      settle k c b day old (tied_to old) (λ new gets.
      accept k n (copy_becomes c old new ∷ gets) (Returned (k.title_of c) (k.home c) new)))

  -- a new hold, with the command's number as its stamp (§ Hold add)
  abbrev pub add : Hold → TitleNo → Day → Option Hold → Plan
  add h t day (Some old) = Refuse refusal.HoldExists
  add h t day None =
      if has_expired h.expiry day then Refuse refusal.ExpiryPassed
      else Ask (Position t n) (λ place. Ask (OnShelf t h.kind h.pickup) (λ available.
      accept k n (hold_becomes t h.patron None (Some h) ∷ []) (Held t available place h)))

  -- A patron's hold of a title.
  module _ (t : TitleNo) (p : PatronNo) where
    -- the hold ends, and so does what was kept for it
    abbrev pub delete_with : Day → Hold → Option CopyNo → Plan
    delete_with day h None = accept k n (hold_becomes t p (Some h) None ∷ []) (Deleted t)
    delete_with day h (Some c) = Ask (ValueOf (CopyCell c)) (λ old.
        release k c day old (λ gets. accept k n (hold_becomes t p (Some h) None ∷ gets) (Deleted t)))

    -- the hold, deleted (§ Hold delete)
    abbrev pub delete : Day → Option Hold → Plan
    delete day None = Refuse refusal.NoSuchHold
    delete day (Some h) = delete_with day h h.copy

    -- a hold becomes another with the same stamp, while it has no copy
    abbrev pub change_to : Option Day → Day → Hold → Hold → Option CopyNo → Plan
    change_to expiry day h new (Some c) = Refuse refusal.HoldHasCopy
    change_to expiry day h new None =
        if has_expired expiry day then Refuse refusal.ExpiryPassed
        else Ask (Position t h.stamp) (λ place. Ask (OnShelf t new.kind new.pickup) (λ available.
        accept k n (hold_becomes t p (Some h) (Some new) ∷ []) (Held t available place new)))

    -- the hold, changed (§ Hold change)
    abbrev pub change : Option HoldKind → Option BranchNo → Option Day → Day → Option Hold → Plan
    change kind pickup expiry day None = Refuse refusal.NoSuchHold
    change kind pickup expiry day (Some h) = change_to expiry day h (changed_hold kind pickup expiry h) h.copy

  -- what each action asks and does on a day (§ The commands)
  abbrev pub plan_of : Day → Action → Plan
  plan_of day (action.Checkout p c may_renew) =
      Ask (ValueOf (CopyCell c)) (λ old. checkout_at k n p c may_renew day old)
  plan_of day (action.OffLine p c due) = off_line k n p c due
  plan_of day (action.Checkin c b) = checkin c b day
  plan_of day (action.Add p t kind pickup expiry) = Ask (ValueOf (HoldCell t p)) (λ old.
      add (record { patron = p; stamp = n; kind = kind; pickup = pickup; expiry = expiry; copy = None }) t
      day old)
  plan_of day (action.Delete p t) = Ask (ValueOf (HoldCell t p)) (λ old. delete t p day old)
  plan_of day (action.Change p t kind pickup expiry) =
      Ask (ValueOf (HoldCell t p)) (λ old. change t p kind pickup expiry day old)
  plan_of day (action.Renewal p c) = Ask (ValueOf (CopyCell c)) (λ old. renew_at k n p c day old)

  -- the command with this number
  abbrev pub plan : Command → Plan
  plan command = plan_of command.day command.action
