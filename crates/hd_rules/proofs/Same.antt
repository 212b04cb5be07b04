-- A value is the same as itself.
use Rattle.std.proofs.Common.{◌≡◌, ◌≢◌, refl, sym, ◌∙◌, ap, ℕ, Bool, true, false, List, [], ◌∷◌, Option, Some}
use Rattle.std.proofs.Common.{None}
use Rattle.hd_rules.specs.Words.{Answer, Action, Cancel, Asked, Hold, HoldKind, Any, One, AtBranch, CopyState}
use Rattle.hd_rules.specs.Words.{Shelf, OnLoan, OnHoldShelf}
use Rattle.hd_rules.specs.Words.{InTransit, Value, CopyHas, HoldHas, Refusal, Reply, LentOrRenewed, Returned}
use Rattle.hd_rules.specs.Words.{Held, Deleted, TurnReply}
use Rattle.hd_rules.specs.declared.replies.Refusal.TheVariants as refusal
use Rattle.hd_rules.specs.declared.replies.TurnReply.TheVariants.{Done as Accepted, Refused, Cancelled, Item}
use Rattle.hd_rules.specs.declared.questions.Answer.TheVariants as answers
use Rattle.hd_rules.specs.declared.commands.Action.TheVariants as action
use Rattle.hd_rules.specs.declared.commands.Cancel.TheVariants as cancel
use Rattle.hd_rules.specs.declared.turns.Asked.TheVariants as ask
use Rattle.hd_rules.specs.Same.{same_bool, same_number, same_option, same_kind, same_hold, same_place}
use Rattle.hd_rules.specs.Same.{same_value, same_answer, same_action}
use Rattle.hd_rules.specs.Same.{same_cancel, same_asked, same_line, same_refusal, same_reply, same_turn_reply}
use Rattle.hd_rules.proofs.Tests.{both_true, number_self}

option_self : {A : Type 0} (same : A → A → Bool) → ((x : A) → same x x ≡ true) → (o : Option A)
    → same_option same o o ≡ true
option_self same h None = refl
option_self same h (Some x) = h x

kind_self : (a : HoldKind) → same_kind a a ≡ true
kind_self Any = refl
kind_self (One c) = number_self c
kind_self AtBranch = refl

hold_self : (h : Hold) → same_hold h h ≡ true
hold_self h =
    both_true _ _ (number_self h.patron)
    (both_true _ _ (number_self h.stamp)
    (both_true _ _ (kind_self h.kind) (both_true _ _ (number_self h.pickup)
    (both_true _ _ (option_self _ (λ d. number_self d) h.expiry)
    (option_self _ (λ c. number_self c) h.copy)))))

place_self : (s : CopyState) → same_place s s ≡ true
place_self (Shelf b) = number_self b
place_self (OnLoan l) =
    both_true _ _ (number_self l.patron) (both_true _ _ (number_self l.due) (number_self l.renewals))
place_self (OnHoldShelf s) =
    both_true _ _ (number_self s.branch) (both_true _ _ (number_self s.place) (number_self s.patron))
place_self (InTransit t) =
    both_true _ _ (number_self t.from)
    (both_true _ _ (number_self t.to) (option_self _ (λ p. number_self p) t.patron))

pub value_self : (v : Value) → same_value v v ≡ true
value_self (CopyHas s) = place_self s
value_self (HoldHas h) = option_self same_hold hold_self h

-- what the test tells apart differs
pub differs : (v w : Value) → same_value v w ≡ false → v ≢ w
differs v w h e = let t : true ≡ false = sym (value_self v) ∙ ap (λ (x : Value). same_value v x) e ∙ h in cc

bool_self : (b : Bool) → same_bool b b ≡ true
bool_self true = refl
bool_self false = refl

pub answer_self : (a : Answer) → same_answer a a ≡ true
answer_self (answers.Value v) = value_self v
answer_self (answers.Choice h) = option_self same_hold hold_self h
answer_self (answers.Place n) = number_self n
answer_self (answers.Room b) = bool_self b
answer_self (answers.Position n) = number_self n
answer_self (answers.OnShelf b) = bool_self b

action_self : (a : Action) → same_action a a ≡ true
action_self (action.Checkout p c may_renew) =
    both_true _ _ (number_self p) (both_true _ _ (number_self c) (bool_self may_renew))
action_self (action.OffLine p c due) =
    both_true _ _ (number_self p) (both_true _ _ (number_self c) (number_self due))
action_self (action.Checkin c b) = both_true _ _ (number_self c) (number_self b)
action_self (action.Add p t kind pickup expiry) = both_true _ _ (number_self p) (both_true _ _ (number_self t)
    (both_true _ _ (kind_self kind)
    (both_true _ _ (number_self pickup) (option_self same_number number_self expiry))))
action_self (action.Delete p t) = both_true _ _ (number_self p) (number_self t)
action_self (action.Change p t kind pickup expiry) =
    both_true _ _ (number_self p) (both_true _ _ (number_self t)
    (both_true _ _ (option_self same_kind kind_self kind)
    (both_true _ _ (option_self same_number number_self pickup)
    (option_self same_number number_self expiry))))
action_self (action.Renewal p c) = both_true _ _ (number_self p) (number_self c)

cancel_self : (w : Cancel) → same_cancel w w ≡ true
cancel_self (cancel.Checkout c) = number_self c
cancel_self (cancel.Checkin c) = number_self c
cancel_self (cancel.Renewal c) = number_self c
cancel_self (cancel.Add p t) = both_true _ _ (number_self p) (number_self t)
cancel_self (cancel.Delete p t) = both_true _ _ (number_self p) (number_self t)
cancel_self (cancel.Change p t) = both_true _ _ (number_self p) (number_self t)

pub asked_self : (a : Asked) → same_asked a a ≡ true
asked_self (ask.Command c) = both_true _ _ (number_self c.day) (action_self c.action)
asked_self (ask.Cancel w) = cancel_self w
asked_self (ask.Item c) = number_self c

pub line_self : (xs : List ℕ) → same_line xs xs ≡ true
line_self [] = refl
line_self (x ∷ xs) = both_true _ _ (number_self x) (line_self xs)

refusal_self : (r : Refusal) → same_refusal r r ≡ true
refusal_self refusal.NotLoggedIn = refl
refusal_self refusal.Unreadable = refl
refusal_self refusal.BadDate = refl
refusal_self refusal.UnknownPatron = refl
refusal_self refusal.UnknownItem = refl
refusal_self refusal.UnknownTitle = refl
refusal_self refusal.UnknownBranch = refl
refusal_self refusal.HoldExists = refl
refusal_self refusal.NoSuchHold = refl
refusal_self refusal.HoldHasCopy = refl
refusal_self refusal.ExpiryPassed = refl
refusal_self refusal.OnLoan = refl
refusal_self refusal.KeptForAnother = refl
refusal_self refusal.InTransit = refl
refusal_self refusal.LoanLimit = refl
refusal_self refusal.NotOnLoan = refl
refusal_self refusal.NotRenewable = refl
refusal_self refusal.DueRange = refl
refusal_self refusal.JournalFull = refl
refusal_self refusal.NothingToCancel = refl
refusal_self (refusal.Depends n) = number_self n

reply_self : (r : Reply) → same_reply r r ≡ true
reply_self (LentOrRenewed t due renewal) =
    both_true _ _ (number_self t) (both_true _ _ (number_self due) (bool_self renewal))
reply_self (Returned t home now) =
    both_true _ _ (number_self t) (both_true _ _ (number_self home) (place_self now))
reply_self (Held t available position h) =
    both_true _ _ (number_self t)
    (both_true _ _ (bool_self available) (both_true _ _ (number_self position) (hold_self h)))
reply_self (Deleted t) = number_self t

pub turn_reply_self : (r : TurnReply) → same_turn_reply r r ≡ true
turn_reply_self (Accepted n r) = both_true _ _ (number_self n) (reply_self r)
turn_reply_self (Refused r) = refusal_self r
turn_reply_self (Cancelled n) = number_self n
turn_reply_self (Item v) = both_true _ _ (place_self v.state) (number_self v.holds)
