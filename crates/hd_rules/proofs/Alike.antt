-- Values that the test takes for one are one.
use Rattle.std.proofs.Common.{ℕ, ◌≡◌, refl, ap, Bool, true, false, List, [], ◌∷◌, Option, Some, None}
use Rattle.std.proofs.lemmas.Bool.{eqb-true}
use Rattle.hd_rules.specs.Words.{Answer, Action, Cancel, Asked, Hold, HoldKind, Any, One, AtBranch, CopyState}
use Rattle.hd_rules.specs.Words.{Shelf, OnLoan, OnHoldShelf}
use Rattle.hd_rules.specs.Words.{InTransit, Value, CopyHas, HoldHas, Refusal, Reply, LentOrRenewed, Returned}
use Rattle.hd_rules.specs.Words.{Held, Deleted, ItemView}
use Rattle.hd_rules.specs.Words.{TurnReply}
use Rattle.hd_rules.specs.declared.replies.Refusal.TheVariants as refusal
use Rattle.hd_rules.specs.declared.replies.TurnReply.TheVariants.{Done as Accepted, Refused, Cancelled, Item}
use Rattle.hd_rules.specs.declared.questions.Answer.TheVariants as answers
use Rattle.hd_rules.specs.declared.commands.Action.TheVariants as action
use Rattle.hd_rules.specs.declared.commands.Cancel.TheVariants as cancel
use Rattle.hd_rules.specs.declared.turns.Asked.TheVariants as ask
use Rattle.hd_rules.specs.Same.{same_bool, same_number, same_option, same_kind, same_hold, same_place}
use Rattle.hd_rules.specs.Same.{same_value, same_answer, same_action}
use Rattle.hd_rules.specs.Same.{same_cancel, same_asked, same_line, same_refusal, same_reply, same_item}
use Rattle.hd_rules.specs.Same.{same_turn_reply}
use Rattle.hd_rules.proofs.Tests.{and_left, and_right, number_is}

option_is : {A : Type 0} (same : A → A → Bool) → ((x y : A) → same x y ≡ true → x ≡ y) → (o v : Option A)
    → same_option same o v ≡ true → o ≡ v
option_is same ok None None is = refl
option_is same ok (Some x) (Some y) is = ap Some (ok x y is)
option_is same ok None (Some y) is = cc
option_is same ok (Some x) None is = cc

kind_is : (a b : HoldKind) → same_kind a b ≡ true → a ≡ b
kind_is Any Any is = refl
kind_is Any (One x) is = cc
kind_is Any AtBranch is = cc
kind_is (One c) (One x) is = ap One (number_is c x is)
kind_is (One c) Any is = cc
kind_is (One c) AtBranch is = cc
kind_is AtBranch AtBranch is = refl
kind_is AtBranch Any is = cc
kind_is AtBranch (One x) is = cc

hold_is : (g h : Hold) → same_hold g h ≡ true → g ≡ h
hold_is g h is =
    let patron : g.patron ≡ h.patron = number_is g.patron h.patron (and_left _ _ is) in
    let one = and_right _ _ is in
    let stamp : g.stamp ≡ h.stamp = eqb-true g.stamp h.stamp (and_left _ _ one) in
    let two = and_right _ _ one in
    let kind : g.kind ≡ h.kind = kind_is g.kind h.kind (and_left _ _ two) in
    let three = and_right _ _ two in
    let pickup : g.pickup ≡ h.pickup = number_is g.pickup h.pickup (and_left _ _ three) in
    let four = and_right _ _ three in
    let expiry : g.expiry ≡ h.expiry =
    option_is same_number number_is g.expiry h.expiry (and_left _ _ four) in
    let copy : g.copy ≡ h.copy = option_is same_number number_is g.copy h.copy (and_right _ _ four) in
    λ i. record {
      patron = patron i;
      stamp = stamp i;
      kind = kind i;
      pickup = pickup i;
      expiry = expiry i;
      copy = copy i;
    }

place_is : (s t : CopyState) → same_place s t ≡ true → s ≡ t
place_is (Shelf b) (Shelf x) is = ap Shelf (number_is b x is)
place_is (OnLoan l) (OnLoan m) is =
    let patron : l.patron ≡ m.patron = number_is l.patron m.patron (and_left _ _ is) in
    let rest = and_right _ _ is in
    let due : l.due ≡ m.due = number_is l.due m.due (and_left _ _ rest) in
    let renewals : l.renewals ≡ m.renewals = eqb-true l.renewals m.renewals (and_right _ _ rest) in
    λ i. OnLoan (record { patron = patron i; due = due i; renewals = renewals i })
place_is (OnHoldShelf s) (OnHoldShelf t) is =
    let branch : s.branch ≡ t.branch = number_is s.branch t.branch (and_left _ _ is) in
    let rest = and_right _ _ is in
    let place : s.place ≡ t.place = eqb-true s.place t.place (and_left _ _ rest) in
    let patron : s.patron ≡ t.patron = number_is s.patron t.patron (and_right _ _ rest) in
    λ i. OnHoldShelf (record { branch = branch i; place = place i; patron = patron i })
place_is (InTransit s) (InTransit t) is =
    let start : s.from ≡ t.from = number_is s.from t.from (and_left _ _ is) in
    let rest = and_right _ _ is in
    let to : s.to ≡ t.to = number_is s.to t.to (and_left _ _ rest) in
    let patron : s.patron ≡ t.patron =
    option_is same_number number_is s.patron t.patron (and_right _ _ rest) in
    λ i. InTransit (record { from = start i; to = to i; patron = patron i })
place_is (Shelf b) (OnLoan m) is = cc
place_is (Shelf b) (OnHoldShelf t) is = cc
place_is (Shelf b) (InTransit t) is = cc
place_is (OnLoan l) (Shelf x) is = cc
place_is (OnLoan l) (OnHoldShelf t) is = cc
place_is (OnLoan l) (InTransit t) is = cc
place_is (OnHoldShelf s) (Shelf x) is = cc
place_is (OnHoldShelf s) (OnLoan m) is = cc
place_is (OnHoldShelf s) (InTransit t) is = cc
place_is (InTransit s) (Shelf x) is = cc
place_is (InTransit s) (OnLoan m) is = cc
place_is (InTransit s) (OnHoldShelf t) is = cc

pub value_is : (v w : Value) → same_value v w ≡ true → v ≡ w
value_is (CopyHas s) (CopyHas t) is = ap CopyHas (place_is s t is)
value_is (HoldHas g) (HoldHas h) is = ap HoldHas (option_is same_hold hold_is g h is)
value_is (CopyHas s) (HoldHas h) is = cc
value_is (HoldHas g) (CopyHas t) is = cc

bool_is : (a b : Bool) → same_bool a b ≡ true → a ≡ b
bool_is true true is = refl
bool_is true false is = cc
bool_is false true is = cc
bool_is false false is = refl

pub answer_is : (a b : Answer) → same_answer a b ≡ true → a ≡ b
answer_is (answers.Value v) (answers.Value w) is = ap answers.Value (value_is v w is)
answer_is (answers.Choice g) (answers.Choice h) is = ap answers.Choice (option_is same_hold hold_is g h is)
answer_is (answers.Place m) (answers.Place n) is = ap answers.Place (number_is m n is)
answer_is (answers.Room a) (answers.Room b) is = ap answers.Room (bool_is a b is)
answer_is (answers.Position m) (answers.Position n) is = ap answers.Position (number_is m n is)
answer_is (answers.OnShelf a) (answers.OnShelf b) is = ap answers.OnShelf (bool_is a b is)
answer_is _ _ is = cc

pub action_is : (a b : Action) → same_action a b ≡ true → a ≡ b
action_is (action.Checkout p c may_renew) (action.Checkout q x might) is =
    let patron : p ≡ q = number_is p q (and_left _ _ is) in
    let rest = and_right _ _ is in
    let copy : c ≡ x = number_is c x (and_left _ _ rest) in
    let may : may_renew ≡ might = bool_is may_renew might (and_right _ _ rest) in
    λ i. action.Checkout (patron i) (copy i) (may i)
action_is (action.OffLine p c due) (action.OffLine q x day) is =
    let patron : p ≡ q = number_is p q (and_left _ _ is) in
    let rest = and_right _ _ is in
    let copy : c ≡ x = number_is c x (and_left _ _ rest) in
    let on_day : due ≡ day = number_is due day (and_right _ _ rest) in
    λ i. action.OffLine (patron i) (copy i) (on_day i)
action_is (action.Checkin c b) (action.Checkin x a) is =
    let copy : c ≡ x = number_is c x (and_left _ _ is) in
    let branch : b ≡ a = number_is b a (and_right _ _ is) in
    λ i. action.Checkin (copy i) (branch i)
action_is (action.Add p t kind pickup expiry) (action.Add q u sort branch day) is =
    let patron : p ≡ q = number_is p q (and_left _ _ is) in
    let one = and_right _ _ is in
    let title : t ≡ u = number_is t u (and_left _ _ one) in
    let two = and_right _ _ one in
    let of_kind : kind ≡ sort = kind_is kind sort (and_left _ _ two) in
    let three = and_right _ _ two in
    let at : pickup ≡ branch = number_is pickup branch (and_left _ _ three) in
    let until : expiry ≡ day = option_is same_number number_is expiry day (and_right _ _ three) in
    λ i. action.Add (patron i) (title i) (of_kind i) (at i) (until i)
action_is (action.Delete p t) (action.Delete q u) is =
    let patron : p ≡ q = number_is p q (and_left _ _ is) in
    let title : t ≡ u = number_is t u (and_right _ _ is) in
    λ i. action.Delete (patron i) (title i)
action_is (action.Change p t kind pickup expiry) (action.Change q u sort branch day) is =
    let patron : p ≡ q = number_is p q (and_left _ _ is) in
    let one = and_right _ _ is in
    let title : t ≡ u = number_is t u (and_left _ _ one) in
    let two = and_right _ _ one in
    let of_kind : kind ≡ sort = option_is same_kind kind_is kind sort (and_left _ _ two) in
    let three = and_right _ _ two in
    let at : pickup ≡ branch = option_is same_number number_is pickup branch (and_left _ _ three) in
    let until : expiry ≡ day = option_is same_number number_is expiry day (and_right _ _ three) in
    λ i. action.Change (patron i) (title i) (of_kind i) (at i) (until i)
action_is (action.Renewal p c) (action.Renewal q x) is =
    let patron : p ≡ q = number_is p q (and_left _ _ is) in
    let copy : c ≡ x = number_is c x (and_right _ _ is) in
    λ i. action.Renewal (patron i) (copy i)
action_is _ _ is = cc

cancel_is : (v w : Cancel) → same_cancel v w ≡ true → v ≡ w
cancel_is (cancel.Checkout c) (cancel.Checkout x) is = ap cancel.Checkout (number_is c x is)
cancel_is (cancel.Checkin c) (cancel.Checkin x) is = ap cancel.Checkin (number_is c x is)
cancel_is (cancel.Renewal c) (cancel.Renewal x) is = ap cancel.Renewal (number_is c x is)
cancel_is (cancel.Add p t) (cancel.Add q u) is =
    let patron : p ≡ q = number_is p q (and_left _ _ is) in
    let title : t ≡ u = number_is t u (and_right _ _ is) in
    λ i. cancel.Add (patron i) (title i)
cancel_is (cancel.Delete p t) (cancel.Delete q u) is =
    let patron : p ≡ q = number_is p q (and_left _ _ is) in
    let title : t ≡ u = number_is t u (and_right _ _ is) in
    λ i. cancel.Delete (patron i) (title i)
cancel_is (cancel.Change p t) (cancel.Change q u) is =
    let patron : p ≡ q = number_is p q (and_left _ _ is) in
    let title : t ≡ u = number_is t u (and_right _ _ is) in
    λ i. cancel.Change (patron i) (title i)
cancel_is _ _ is = cc

pub asked_is : (a b : Asked) → same_asked a b ≡ true → a ≡ b
asked_is (ask.Command c) (ask.Command x) is =
    let day : c.day ≡ x.day = number_is c.day x.day (and_left _ _ is) in
    let does : c.action ≡ x.action = action_is c.action x.action (and_right _ _ is) in
    λ i. ask.Command (record { day = day i; action = does i })
asked_is (ask.Cancel v) (ask.Cancel w) is = ap ask.Cancel (cancel_is v w is)
asked_is (ask.Item c) (ask.Item x) is = ap ask.Item (number_is c x is)
asked_is _ _ is = cc

pub line_is : (xs ys : List ℕ) → same_line xs ys ≡ true → xs ≡ ys
line_is [] [] is = refl
line_is (x ∷ xs) (y ∷ ys) is =
    let first : x ≡ y = number_is x y (and_left _ _ is) in
    let rest : xs ≡ ys = line_is xs ys (and_right _ _ is) in
    λ i. first i ∷ rest i
line_is [] (y ∷ ys) is = cc
line_is (x ∷ xs) [] is = cc

refusal_is : (a b : Refusal) → same_refusal a b ≡ true → a ≡ b
refusal_is refusal.NotLoggedIn refusal.NotLoggedIn is = refl
refusal_is refusal.Unreadable refusal.Unreadable is = refl
refusal_is refusal.BadDate refusal.BadDate is = refl
refusal_is refusal.UnknownPatron refusal.UnknownPatron is = refl
refusal_is refusal.UnknownItem refusal.UnknownItem is = refl
refusal_is refusal.UnknownTitle refusal.UnknownTitle is = refl
refusal_is refusal.UnknownBranch refusal.UnknownBranch is = refl
refusal_is refusal.HoldExists refusal.HoldExists is = refl
refusal_is refusal.NoSuchHold refusal.NoSuchHold is = refl
refusal_is refusal.HoldHasCopy refusal.HoldHasCopy is = refl
refusal_is refusal.ExpiryPassed refusal.ExpiryPassed is = refl
refusal_is refusal.OnLoan refusal.OnLoan is = refl
refusal_is refusal.KeptForAnother refusal.KeptForAnother is = refl
refusal_is refusal.InTransit refusal.InTransit is = refl
refusal_is refusal.LoanLimit refusal.LoanLimit is = refl
refusal_is refusal.NotOnLoan refusal.NotOnLoan is = refl
refusal_is refusal.NotRenewable refusal.NotRenewable is = refl
refusal_is refusal.DueRange refusal.DueRange is = refl
refusal_is refusal.JournalFull refusal.JournalFull is = refl
refusal_is refusal.NothingToCancel refusal.NothingToCancel is = refl
refusal_is (refusal.Depends m) (refusal.Depends n) is = ap refusal.Depends (number_is m n is)
refusal_is _ _ is = cc

reply_is : (a b : Reply) → same_reply a b ≡ true → a ≡ b
reply_is (LentOrRenewed t due renewal) (LentOrRenewed u day renewed) is =
    let title : t ≡ u = number_is t u (and_left _ _ is) in
    let rest = and_right _ _ is in
    let on_day : due ≡ day = number_is due day (and_left _ _ rest) in
    let as_renewal : renewal ≡ renewed = bool_is renewal renewed (and_right _ _ rest) in
    λ i. LentOrRenewed (title i) (on_day i) (as_renewal i)
reply_is (Returned t home now) (Returned u branch place) is =
    let title : t ≡ u = number_is t u (and_left _ _ is) in
    let rest = and_right _ _ is in
    let at : home ≡ branch = number_is home branch (and_left _ _ rest) in
    let where_now : now ≡ place = place_is now place (and_right _ _ rest) in
    λ i. Returned (title i) (at i) (where_now i)
reply_is (Held t available position h) (Held u some_there spot g) is =
    let title : t ≡ u = number_is t u (and_left _ _ is) in
    let one = and_right _ _ is in
    let some : available ≡ some_there = bool_is available some_there (and_left _ _ one) in
    let two = and_right _ _ one in
    let at : position ≡ spot = number_is position spot (and_left _ _ two) in
    let its_hold : h ≡ g = hold_is h g (and_right _ _ two) in
    λ i. Held (title i) (some i) (at i) (its_hold i)
reply_is (Deleted t) (Deleted u) is = ap Deleted (number_is t u is)
reply_is _ _ is = cc

item_is : (v w : ItemView) → same_item v w ≡ true → v ≡ w
item_is v w is =
    let state : v.state ≡ w.state = place_is v.state w.state (and_left _ _ is) in
    let holds : v.holds ≡ w.holds = number_is v.holds w.holds (and_right _ _ is) in
    λ i. record { state = state i; holds = holds i }

pub turn_reply_is : (a b : TurnReply) → same_turn_reply a b ≡ true → a ≡ b
turn_reply_is (Accepted m r) (Accepted n s) is =
    let number : m ≡ n = number_is m n (and_left _ _ is) in
    let reply : r ≡ s = reply_is r s (and_right _ _ is) in
    λ i. Accepted (number i) (reply i)
turn_reply_is (Refused r) (Refused s) is = ap Refused (refusal_is r s is)
turn_reply_is (Cancelled m) (Cancelled n) is = ap Cancelled (number_is m n is)
turn_reply_is (Item v) (Item w) is = ap Item (item_is v w is)
turn_reply_is _ _ is = cc
