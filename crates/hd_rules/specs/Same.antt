-- Whether two values are one: a change to the value that is there already is no change.
use Rattle.std.specs.Prelude.{ℕ, Bool, true, false, ◌&&◌, ◌==◌, not, filter, Option, Some, None, List, []}
use Rattle.std.specs.Prelude.{◌∷◌}
use Rattle.hd_rules.specs.Words.{Answer, Action, Cancel, Asked, Hold, HoldKind, Any, One, AtBranch, CopyState}
use Rattle.hd_rules.specs.Words.{Shelf, OnLoan, OnHoldShelf, InTransit, Value, CopyHas, HoldHas, Change}
use Rattle.hd_rules.specs.Words.{Refusal, Reply, LentOrRenewed, Returned, Held, Deleted, ItemView, TurnReply}
use Rattle.hd_rules.specs.declared.replies.Refusal.TheVariants as refusal
use Rattle.hd_rules.specs.declared.replies.TurnReply.TheVariants.{Done as Accepted, Refused, Cancelled, Item}
use Rattle.hd_rules.specs.declared.questions.Answer.TheVariants as answers
use Rattle.hd_rules.specs.declared.commands.Action.TheVariants as action
use Rattle.hd_rules.specs.declared.commands.Cancel.TheVariants as cancel
use Rattle.hd_rules.specs.declared.turns.Asked.TheVariants as ask

-- whether they are equal, for each kind of value
abbrev pub same_bool : Bool → Bool → Bool
same_bool true b = b
same_bool false b = not b

-- numbers
abbrev pub same_number : ℕ → ℕ → Bool
same_number m n = m == n

-- a value or none
abbrev pub same_option : {A : Type 0} → (A → A → Bool) → Option A → Option A → Bool
same_option same None None = true
same_option same (Some x) (Some y) = same x y
same_option same _ _ = false

-- kinds of holds
abbrev pub same_kind : HoldKind → HoldKind → Bool
same_kind Any Any = true
same_kind (One c) (One x) = c == x
same_kind AtBranch AtBranch = true
same_kind _ _ = false

-- holds
abbrev pub same_hold : Hold → Hold → Bool
same_hold g h =
    (g.patron == h.patron) && ((g.stamp == h.stamp) && (same_kind g.kind h.kind && ((g.pickup == h.pickup)
    && (same_option same_number g.expiry h.expiry && same_option same_number g.copy h.copy))))

-- where copies are
abbrev pub same_place : CopyState → CopyState → Bool
same_place (Shelf b) (Shelf x) = b == x
same_place (OnLoan l) (OnLoan m) = (l.patron == m.patron) && ((l.due == m.due) && (l.renewals == m.renewals))
same_place (OnHoldShelf s) (OnHoldShelf t) =
    (s.branch == t.branch) && ((s.place == t.place) && (s.patron == t.patron))
same_place (InTransit s) (InTransit t) =
    (s.from == t.from) && ((s.to == t.to) && same_option same_number s.patron t.patron)
same_place _ _ = false

-- what cells have
abbrev pub same_value : Value → Value → Bool
same_value (CopyHas s) (CopyHas t) = same_place s t
same_value (HoldHas g) (HoldHas h) = same_option same_hold g h
same_value _ _ = false

-- answers
abbrev pub same_answer : Answer → Answer → Bool
same_answer (answers.Value v) (answers.Value w) = same_value v w
same_answer (answers.Choice g) (answers.Choice h) = same_option same_hold g h
same_answer (answers.Place m) (answers.Place n) = m == n
same_answer (answers.Room a) (answers.Room b) = same_bool a b
same_answer (answers.Position m) (answers.Position n) = m == n
same_answer (answers.OnShelf a) (answers.OnShelf b) = same_bool a b
same_answer _ _ = false

-- what commands do
abbrev pub same_action : Action → Action → Bool
same_action (action.Checkout p c may_renew) (action.Checkout q x might) =
    (p == q) && ((c == x) && same_bool may_renew might)
same_action (action.OffLine p c due) (action.OffLine q x day) = (p == q) && ((c == x) && (due == day))
same_action (action.Checkin c b) (action.Checkin x a) = (c == x) && (b == a)
same_action (action.Add p t kind pickup expiry) (action.Add q u sort branch day) =
    (p == q)
    && ((t == u) && (same_kind kind sort && ((pickup == branch) && same_option same_number expiry day)))
same_action (action.Delete p t) (action.Delete q u) = (p == q) && (t == u)
same_action (action.Change p t kind pickup expiry) (action.Change q u sort branch day) =
    (p == q) && ((t == u) && (same_option same_kind kind sort
    && (same_option same_number pickup branch && same_option same_number expiry day)))
same_action (action.Renewal p c) (action.Renewal q x) = (p == q) && (c == x)
same_action _ _ = false

-- cancellations
abbrev pub same_cancel : Cancel → Cancel → Bool
same_cancel (cancel.Checkout c) (cancel.Checkout x) = c == x
same_cancel (cancel.Checkin c) (cancel.Checkin x) = c == x
same_cancel (cancel.Renewal c) (cancel.Renewal x) = c == x
same_cancel (cancel.Add p t) (cancel.Add q u) = (p == q) && (t == u)
same_cancel (cancel.Delete p t) (cancel.Delete q u) = (p == q) && (t == u)
same_cancel (cancel.Change p t) (cancel.Change q u) = (p == q) && (t == u)
same_cancel _ _ = false

-- what is asked
abbrev pub same_asked : Asked → Asked → Bool
same_asked (ask.Command c) (ask.Command x) = (c.day == x.day) && same_action c.action x.action
same_asked (ask.Cancel w) (ask.Cancel x) = same_cancel w x
same_asked (ask.Item c) (ask.Item x) = c == x
same_asked _ _ = false

-- refusals
abbrev pub same_refusal : Refusal → Refusal → Bool
same_refusal refusal.NotLoggedIn refusal.NotLoggedIn = true
same_refusal refusal.Unreadable refusal.Unreadable = true
same_refusal refusal.BadDate refusal.BadDate = true
same_refusal refusal.UnknownPatron refusal.UnknownPatron = true
same_refusal refusal.UnknownItem refusal.UnknownItem = true
same_refusal refusal.UnknownTitle refusal.UnknownTitle = true
same_refusal refusal.UnknownBranch refusal.UnknownBranch = true
same_refusal refusal.HoldExists refusal.HoldExists = true
same_refusal refusal.NoSuchHold refusal.NoSuchHold = true
same_refusal refusal.HoldHasCopy refusal.HoldHasCopy = true
same_refusal refusal.ExpiryPassed refusal.ExpiryPassed = true
same_refusal refusal.OnLoan refusal.OnLoan = true
same_refusal refusal.KeptForAnother refusal.KeptForAnother = true
same_refusal refusal.InTransit refusal.InTransit = true
same_refusal refusal.LoanLimit refusal.LoanLimit = true
same_refusal refusal.NotOnLoan refusal.NotOnLoan = true
same_refusal refusal.NotRenewable refusal.NotRenewable = true
same_refusal refusal.DueRange refusal.DueRange = true
same_refusal refusal.JournalFull refusal.JournalFull = true
same_refusal refusal.NothingToCancel refusal.NothingToCancel = true
same_refusal (refusal.Depends m) (refusal.Depends n) = m == n
same_refusal _ _ = false

-- replies to commands
abbrev pub same_reply : Reply → Reply → Bool
same_reply (LentOrRenewed t due renewal) (LentOrRenewed u day renewed) =
    (t == u) && ((due == day) && same_bool renewal renewed)
same_reply (Returned t home now) (Returned u branch place) =
    (t == u) && ((home == branch) && same_place now place)
same_reply (Held t available position h) (Held u some_there spot g) =
    (t == u) && (same_bool available some_there && ((position == spot) && same_hold h g))
same_reply (Deleted t) (Deleted u) = t == u
same_reply _ _ = false

-- what queries show
abbrev pub same_item : ItemView → ItemView → Bool
same_item v w = same_place v.state w.state && (v.holds == w.holds)

-- replies of turns
abbrev pub same_turn_reply : TurnReply → TurnReply → Bool
same_turn_reply (Accepted m r) (Accepted n s) = (m == n) && same_reply r s
same_turn_reply (Refused r) (Refused s) = same_refusal r s
same_turn_reply (Cancelled m) (Cancelled n) = m == n
same_turn_reply (Item v) (Item w) = same_item v w
same_turn_reply _ _ = false

-- lines, byte by byte
abbrev pub same_line : List ℕ → List ℕ → Bool
same_line [] [] = true
same_line (x ∷ xs) (y ∷ ys) = (x == y) && same_line xs ys
same_line _ _ = false

-- the changes that change something (§ All commands)
unfoldable pub real_changes : List Change → List Change
real_changes changes = filter (λ (c : Change). not (same_value c.old c.new)) changes
