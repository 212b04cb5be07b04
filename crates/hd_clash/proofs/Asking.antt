-- What the commands ask: a walk over their plans, whatever is to hold of each question.
use Rattle.std.proofs.Common.{◌≡◌, refl, sym, ◌∙◌, subst, ℕ, Bool, true, false, ◌==◌, if◌then◌else◌, List, []}
use Rattle.std.proofs.Common.{Option, Some, None, inl, inr}
use Rattle.std.specs.Prelude.{nat_lt}
use Rattle.hd_rules.specs.declared.holds.Hold.{Hold}
use Rattle.hd_rules.specs.declared.holds.HoldKind.{HoldKind}
use Rattle.hd_rules.specs.declared.copies.Loan.{Loan}
use Rattle.hd_rules.specs.declared.copies.CopyState.{CopyState}
use Rattle.hd_rules.specs.declared.copies.CopyState.TheVariants.{Shelf, OnLoan, OnHoldShelf, InTransit}
use Rattle.hd_rules.specs.declared.cells.Cell.TheVariants.{Copy as CopyCell, Hold as HoldCell}
use Rattle.hd_rules.specs.declared.cells.Change.{Change}
use Rattle.hd_rules.specs.declared.questions.Question.{Question}
use Rattle.hd_rules.specs.declared.questions.Question.TheVariants.{Value as ValueOf, Choice, Place, Room}
use Rattle.hd_rules.specs.declared.questions.Question.TheVariants.{Position, OnShelf}
use Rattle.hd_rules.specs.declared.commands.Action.{Action}
use Rattle.hd_rules.specs.declared.commands.Action.TheVariants as action
use Rattle.hd_rules.specs.declared.commands.Command.{Command}
use Rattle.hd_rules.specs.declared.replies.Refusal.{Refusal}
use Rattle.hd_rules.specs.declared.replies.Reply.{Reply}
use Rattle.hd_rules.specs.Facts.{Facts, last_number}
use Rattle.hd_rules.specs.Desk.{Desk}
use Rattle.hd_rules.specs.Choose.{has_expired}
use Rattle.hd_rules.specs.Ask.{Plan, Ask, Refuse, Accept, AnswerTo, answer, asks}
use Rattle.hd_rules.specs.Settle.{tied_to, place_at, keep, allot, settle_tied, settle}
use Rattle.hd_rules.specs.Step.{accept, due_day, last_day, lend, lend_held, lend_from_shelf, cannot_renew}
use Rattle.hd_rules.specs.Step.{renew_loan, checkout_at}
use Rattle.hd_rules.specs.Step.{off_line_at, checkin, add, release, delete_with, delete, changed_hold}
use Rattle.hd_rules.specs.Step.{change_to, change, renew_at, plan_of}
use Rattle.hd_rules.specs.Step.{plan}
use Rattle.hd_rules.specs.Run.{IsAmong}

abbrev AllAsked : (Question → Type 0) → Facts → Desk → Plan → Type 0
AllAsked P k d (Ask q rest) = P q × AllAsked P k d (rest (answer k d q))
AllAsked P k d (Refuse r) = Unit {0}
AllAsked P k d (Accept done) = Unit {0}

-- as a record, so that antt finds the plan that a lemma speaks of
record Asked (P : Question → Type 0) (k : Facts) (d : Desk) (plan : Plan) : Type 0 where
  pub all : AllAsked P k d plan

-- what may be asked of a copy, and of a title
pub record OfCopy (P : Question → Type 0) (k : Facts) (c : ℕ) : Type 0 where
  pub value : P (ValueOf (CopyCell c))
  pub choice : (b day : ℕ) → P (Choice c b day)
  pub hold : (p : ℕ) → P (ValueOf (HoldCell (k.title_of c) p))

pub record OfTitle (P : Question → Type 0) (t : ℕ) : Type 0 where
  pub hold : (p : ℕ) → P (ValueOf (HoldCell t p))
  pub position : (stamp : ℕ) → P (Position t stamp)
  pub shelf : (kind : HoldKind) (pickup : ℕ) → P (OnShelf t kind pickup)

-- and of the copy that a hold has
abbrev pub OfItsCopy : (Question → Type 0) → Facts → Option Hold → Type 0
OfItsCopy P k o = (h : Hold) (c : ℕ) → o ≡ Some h → h.copy ≡ Some c → OfCopy P k c

-- what an action may ask
abbrev pub OfAction : (Question → Type 0) → Facts → Desk → Action → Type 0
OfAction P k d (action.Checkout p c may_renew) = OfCopy P k c × P (Room p)
OfAction P k d (action.OffLine p c due) = OfCopy P k c
OfAction P k d (action.Checkin c b) = OfCopy P k c × P (Place b)
OfAction P k d (action.Add p t kind pickup expiry) = OfTitle P t
OfAction P k d (action.Delete p t) = OfTitle P t × OfItsCopy P k (d.hold t p)
OfAction P k d (action.Change p t kind pickup expiry) = OfTitle P t
OfAction P k d (action.Renewal p c) = OfCopy P k c

asked : {P : Question → Type 0} {k : Facts} {d : Desk} {q : Question} {rest : AnswerTo q → Plan} → P q
    → ((a : AnswerTo q) → answer k d q ≡ a → Asked P k d (rest a)) → Asked P k d (Ask q rest)
asked {P} {k} {d} {q} this h = record { all = (this, (h (answer k d q) refl).all) }

refused : {P : Question → Type 0} {k : Facts} {d : Desk} {r : Refusal} → Asked P k d (Refuse r)
refused = record { all = tt }

either : (P : Question → Type 0) (k : Facts) (d : Desk) (b : Bool) (x y : Plan) → Asked P k d x
    → Asked P k d y → Asked P k d (if b then x else y)
either P k d true x y h g = h
either P k d false x y h g = g

accepted : (P : Question → Type 0) (k : Facts) (d : Desk) (n : ℕ) (cs : List Change) (r : Reply)
    → Asked P k d (accept k n cs r)
accepted P k d n cs r = either P k d (nat_lt (last_number k) n) _ _ refused (record { all = tt })

-- checkouts and renewals
lend_asks : (P : Question → Type 0) (k : Facts) (d : Desk) (p c day : ℕ) (rest : Plan) → P (Room p)
    → Asked P k d rest → Asked P k d (lend k p c day rest)
lend_asks P k d p c day rest room ok =
    asked room (λ has told.
    either P k d has _ _ (either P k d (nat_lt last_day (due_day k c day)) _ _ refused ok) refused)

lend_held_asks : (P : Question → Type 0) (k : Facts) (d : Desk) (n p c day : ℕ) (old : CopyState)
    → OfCopy P k c → P (Room p) → Asked P k d (lend_held k n p c day old)
lend_held_asks P k d n p c day old of room =
    lend_asks P k d p c day _ room (asked (of.hold p) (λ held told. accepted P k d n _ _))

from_shelf_asks : (P : Question → Type 0) (k : Facts) (d : Desk) (n p c day : ℕ) (old : CopyState)
    (chosen : Option Hold) → OfCopy P k c → P (Room p) → Asked P k d (lend_from_shelf k n p c day old chosen)
from_shelf_asks P k d n p c day old None of room = lend_asks P k d p c day _ room (accepted P k d n _ _)
from_shelf_asks P k d n p c day old (Some h) of room =
    either P k d (h.patron == p) _ _ (lend_held_asks P k d n p c day old of room) refused

renew_loan_asks : (P : Question → Type 0) (k : Facts) (d : Desk) (n p c day : ℕ) (l : Loan) → OfCopy P k c
    → Asked P k d (renew_loan k n p c day l)
renew_loan_asks P k d n p c day l of = asked (of.choice (k.home c) day) (λ chosen told.
    either P k d (cannot_renew k p c l chosen) _ _ refused
    (either P k d (nat_lt last_day (due_day k c day)) _ _ refused (accepted P k d n _ _)))

checkout_asks : (P : Question → Type 0) (k : Facts) (d : Desk) (n p c : ℕ) (may : Bool) (day : ℕ)
    (old : CopyState) → OfCopy P k c → P (Room p) → Asked P k d (checkout_at k n p c may day old)
checkout_asks P k d n p c may day (Shelf b) of room =
    asked (of.choice (k.home c) day) (λ chosen told. from_shelf_asks P k d n p c day (Shelf b) chosen of room)
checkout_asks P k d n p c may day (OnLoan l) of room =
    either P k d (l.patron == p) _ _
    (either P k d may _ _ (renew_loan_asks P k d n p c day l of) refused) refused
checkout_asks P k d n p c may day (OnHoldShelf s) of room =
    either P k d (s.patron == p) _ _ (lend_held_asks P k d n p c day (OnHoldShelf s) of room) refused
checkout_asks P k d n p c may day (InTransit t) of room = refused

renew_asks : (P : Question → Type 0) (k : Facts) (d : Desk) (n p c day : ℕ) (old : CopyState) → OfCopy P k c
    → Asked P k d (renew_at k n p c day old)
renew_asks P k d n p c day (OnLoan l) of =
    either P k d (l.patron == p) _ _ (renew_loan_asks P k d n p c day l of) refused
renew_asks P k d n p c day (Shelf b) of = refused
renew_asks P k d n p c day (OnHoldShelf s) of = refused
renew_asks P k d n p c day (InTransit t) of = refused

-- off-line loans
off_line_asks : (P : Question → Type 0) (k : Facts) (d : Desk) (n p c due : ℕ)
    (old : CopyState) (held : Option Hold) (tied : Option ℕ) → OfCopy P k c
    → Asked P k d (off_line_at k n p c due old held tied)
off_line_asks P k d n p c due old held None of = accepted P k d n _ _
off_line_asks P k d n p c due old held (Some q) of =
    either P k d (q == p) _ _ (accepted P k d n _ _) (asked (of.hold q) (λ other told. accepted P k d n _ _))

-- settling: the branch's places are asked only where the copy has none
abbrev OfPlace : (Question → Type 0) → ℕ → Option ℕ → Type 0
OfPlace P b None = P (Place b)
OfPlace P b (Some spot) = Unit {0}

keep_asks : (P : Question → Type 0) (k : Facts) (d : Desk) (b : ℕ) (h : Hold) (at : Option ℕ)
    (rest : CopyState → Plan) → OfPlace P b at → ((new : CopyState) → Asked P k d (rest new))
    → Asked P k d (keep b h at rest)
keep_asks P k d b h None rest place ok =
    either P k d (h.pickup == b) _ _ (asked place (λ spot told. ok _)) (ok _)
keep_asks P k d b h (Some spot) rest place ok = ok _

allot_asks : (P : Question → Type 0) (k : Facts) (d : Desk) (c b : ℕ) (at : Option ℕ)
    (chosen : Option Hold) (rest : CopyState → List Change → Plan) → OfCopy P k c
    → OfPlace P b at → ((new : CopyState) (gets : List Change) → Asked P k d (rest new gets))
    → Asked P k d (allot k c b at chosen rest)
allot_asks P k d c b at None rest of place ok = ok _ []
allot_asks P k d c b at (Some h) rest of place ok =
    asked (of.hold h.patron) (λ held told. keep_asks P k d b h at _ place (λ new. ok new _))

some_place : (P : Question → Type 0) (b : ℕ) (at : Option ℕ) → P (Place b) → OfPlace P b at
some_place P b None place = place
some_place P b (Some spot) place = tt

settle_asks : (P : Question → Type 0) (k : Facts) (d : Desk) (c b day : ℕ) (old : CopyState)
    (tied : Option ℕ) (rest : CopyState → List Change → Plan) → OfCopy P k c
    → P (Place b) → ((new : CopyState) (gets : List Change) → Asked P k d (rest new gets))
    → Asked P k d (settle k c b day old tied rest)
settle_asks P k d c b day old (Some p) rest of place ok = asked (of.hold p) (λ held told. tied_one held)
  where
    tied_one : (held : Option Hold) → Asked P k d (settle_tied k c b old held rest)
    tied_one None = ok _ []
    tied_one (Some h) =
        keep_asks P k d b h (place_at b old) _ (some_place P b (place_at b old) place) (λ new. ok new [])
settle_asks P k d c b day old None rest of place ok =
    asked (of.choice b day) (λ chosen told. allot_asks P k d c b None chosen rest of place ok)

checkin_asks : (P : Question → Type 0) (k : Facts) (d : Desk) (n c b day : ℕ) → OfCopy P k c → P (Place b)
    → Asked P k d (checkin k n c b day)
checkin_asks P k d n c b day of place =
    asked of.value (λ old told. settle_asks P k d c b day old (tied_to old) _ of place
    (λ new gets. accepted P k d n _ _))

-- holds
add_asks : (P : Question → Type 0) (k : Facts) (d : Desk) (n : ℕ) (h : Hold) (t day : ℕ) (old : Option Hold)
    → OfTitle P t → Asked P k d (add k n h t day old)
add_asks P k d n h t day (Some old) of = refused
add_asks P k d n h t day None of = either P k d (has_expired h.expiry day) _ _ refused
    (asked (of.position n)
    (λ spot told. asked (of.shelf h.kind h.pickup) (λ available heard. accepted P k d n _ _)))

release_asks : (P : Question → Type 0) (k : Facts) (d : Desk) (c day : ℕ) (old : CopyState)
    (rest : List Change → Plan) → OfCopy P k c → ((gets : List Change) → Asked P k d (rest gets))
    → Asked P k d (release k c day old rest)
release_asks P k d c day (Shelf b) rest of ok = ok []
release_asks P k d c day (OnLoan l) rest of ok = ok []
release_asks P k d c day (InTransit t) rest of ok = ok _
release_asks P k d c day (OnHoldShelf s) rest of ok = asked (of.choice s.branch day) (λ chosen told.
    allot_asks P k d c s.branch (Some s.place) chosen _ of tt (λ new gets. ok _))

delete_asks : (P : Question → Type 0) (k : Facts) (d : Desk) (n t p day : ℕ) (old : Option Hold)
    → OfItsCopy P k old → Asked P k d (delete k n t p day old)
delete_asks P k d n t p day None of = refused
delete_asks P k d n t p day (Some h) of = by_copy h.copy refl
  where
    by_copy : (o : Option ℕ) → h.copy ≡ o → Asked P k d (delete_with k n t p day h o)
    by_copy None is = accepted P k d n _ _
    by_copy (Some c) is = asked (of h c refl is).value (λ old told.
        release_asks P k d c day old _ (of h c refl is) (λ gets. accepted P k d n _ _))

change_to_asks : (P : Question → Type 0) (k : Facts) (d : Desk) (n t p : ℕ) (expiry : Option ℕ) (day : ℕ)
    (h new : Hold) (o : Option ℕ) → OfTitle P t → Asked P k d (change_to k n t p expiry day h new o)
change_to_asks P k d n t p expiry day h new (Some c) of = refused
change_to_asks P k d n t p expiry day h new None of = either P k d (has_expired expiry day) _ _ refused
    (asked (of.position h.stamp)
    (λ spot told. asked (of.shelf new.kind new.pickup) (λ available heard. accepted P k d n _ _)))

change_asks : (P : Question → Type 0) (k : Facts) (d : Desk) (n t p : ℕ) (kind : Option HoldKind)
    (pickup expiry : Option ℕ) (day : ℕ) (old : Option Hold) → OfTitle P t
    → Asked P k d (change k n t p kind pickup expiry day old)
change_asks P k d n t p kind pickup expiry day None of = refused
change_asks P k d n t p kind pickup expiry day (Some h) of =
    change_to_asks P k d n t p expiry day h (changed_hold kind pickup expiry h) h.copy of

-- the hold that the answer tells of
its_copy : (P : Question → Type 0) (k : Facts) (o old : Option Hold) → o ≡ old → OfItsCopy P k o
    → OfItsCopy P k old
its_copy P k o old told of h c is has = of h c (told ∙ is) has

plan_asks : (P : Question → Type 0) (k : Facts) (d : Desk) (n day : ℕ) (act : Action) → OfAction P k d act
    → Asked P k d (plan_of k n day act)
plan_asks P k d n day (action.Checkout p c may_renew) of =
    asked of.0.value (λ old told. checkout_asks P k d n p c may_renew day old of.0 of.1)
plan_asks P k d n day (action.OffLine p c due) of =
    asked of.value (λ old told. asked (of.hold p) (λ held heard.
    off_line_asks P k d n p c due old held (tied_to old) of))
plan_asks P k d n day (action.Checkin c b) of = checkin_asks P k d n c b day of.0 of.1
plan_asks P k d n day (action.Add p t kind pickup expiry) of =
    asked (of.hold p) (λ old told. add_asks P k d n _ t day old of)
plan_asks P k d n day (action.Delete p t) of =
    asked (of.0.hold p)
    (λ old told. delete_asks P k d n t p day old (its_copy P k (d.hold t p) old told of.1))
plan_asks P k d n day (action.Change p t kind pickup expiry) of =
    asked (of.hold p) (λ old told. change_asks P k d n t p kind pickup expiry day old of)
plan_asks P k d n day (action.Renewal p c) of = asked of.value (λ old told. renew_asks P k d n p c day old of)

each_asked : (P : Question → Type 0) (k : Facts) (d : Desk) (p : Plan) (q : Question) → AllAsked P k d p
    → IsAmong q (asks k d p) → P q
each_asked P k d (Ask x rest) q h (inl e) = subst P (sym e) h.0
each_asked P k d (Ask x rest) q h (inr among) = each_asked P k d (rest (answer k d x)) q h.1 among
each_asked P k d (Refuse r) q h among = absurd among
each_asked P k d (Accept done) q h among = absurd among

-- what holds of each question that the action may ask holds of each that the command asks at the desk
pub asked_of : (P : Question → Type 0) (k : Facts) (d : Desk) (n : ℕ) (command : Command)
    → OfAction P k d command.action → (q : Question) → IsAmong q (asks k d (plan k n command)) → P q
asked_of P k d n command of q among =
    each_asked P k d (plan k n command) q (plan_asks P k d n command.day command.action of).all among
