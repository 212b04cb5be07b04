-- What the reply to an accepted command tells of.
use Rattle.std.proofs.Common.{◌≡◌, subst, ℕ, Bool, true, false, ◌==◌, if◌then◌else◌, List, [], Option, Some}
use Rattle.std.proofs.Common.{None, Ok}
use Rattle.std.specs.Prelude.{nat_lt}
use Rattle.hd_rules.specs.Words.{Hold, HoldKind, Loan, CopyState, Shelf, OnLoan, OnHoldShelf, InTransit}
use Rattle.hd_rules.specs.Words.{Change, Question, Action, Refusal}
use Rattle.hd_rules.specs.Words.{Reply}
use Rattle.hd_rules.specs.declared.commands.Action.TheVariants as action
use Rattle.hd_rules.specs.Facts.{Facts, last_number}
use Rattle.hd_rules.specs.Desk.{Desk}
use Rattle.hd_rules.specs.Choose.{has_expired}
use Rattle.hd_rules.specs.Ask.{Plan, Ask, Refuse, Accept, Done, AnswerTo, answer, outcome}
use Rattle.hd_rules.specs.Settle.{tied_to, place_at, keep, allot, settle_tied, settle}
use Rattle.hd_rules.specs.Step.{accept, due_day, last_day, lend, lend_held, lend_from_shelf, cannot_renew}
use Rattle.hd_rules.specs.Step.{renew_loan, checkout_at}
use Rattle.hd_rules.specs.Step.{off_line_at, checkin, add, release, delete_with, delete, change_to, change}
use Rattle.hd_rules.specs.Step.{renew_at, plan_of}
use Rattle.hd_rules.specs.Replies.{TellsOf}
use Rattle.hd_rules.proofs.Tests.{done_is}

-- whatever is answered, the plan accepts with a reply that tells of the action
abbrev AllTell : Action → Plan → Type 0
AllTell a (Ask q rest) = (x : AnswerTo q) → AllTell a (rest x)
AllTell a (Refuse r) = Unit {0}
AllTell a (Accept done) = TellsOf a done.reply

-- as a record, so that antt finds the plan that a lemma speaks of
record Tells (a : Action) (plan : Plan) : Type 0 where
  pub all : AllTell a plan

asked : {a : Action} {q : Question} {rest : AnswerTo q → Plan} → ((x : AnswerTo q) → Tells a (rest x))
    → Tells a (Ask q rest)
asked h = record { all = λ x. (h x).all }

refused : {a : Action} {r : Refusal} → Tells a (Refuse r)
refused = record { all = tt }

either : (a : Action) (b : Bool) (x y : Plan) → Tells a x → Tells a y → Tells a (if b then x else y)
either a true x y h g = h
either a false x y h g = g

accepted : (a : Action) (k : Facts) (n : ℕ) (cs : List Change) (r : Reply) → TellsOf a r
    → Tells a (accept k n cs r)
accepted a k n cs r h = either a (nat_lt (last_number k) n) _ _ refused (record { all = h })

lend_tells : (a : Action) (k : Facts) (p c day : ℕ) (rest : Plan) → Tells a rest
    → Tells a (lend k p c day rest)
lend_tells a k p c day rest h =
    asked (λ room. either a room _ _ (either a (nat_lt last_day (due_day k c day)) _ _ refused h) refused)

module _ (p c : ℕ) (may_renew : Bool) where
  abbrev out : Action
  out = action.Checkout p c may_renew

  held_tells : (k : Facts) (n day : ℕ) (old : CopyState) → Tells out (lend_held k n p c day old)
  held_tells k n day old = lend_tells out k p c day _ (asked (λ held. accepted out k n _ _ tt))

  shelf_tells : (k : Facts) (n day : ℕ) (old : CopyState) (chosen : Option Hold)
      → Tells out (lend_from_shelf k n p c day old chosen)
  shelf_tells k n day old None = lend_tells out k p c day _ (accepted out k n _ _ tt)
  shelf_tells k n day old (Some h) = either out (h.patron == p) _ _ (held_tells k n day old) refused

  loan_tells : (k : Facts) (n day : ℕ) (l : Loan) → Tells out (renew_loan k n p c day l)
  loan_tells k n day l = asked (λ chosen. either out (cannot_renew k p c l chosen) _ _ refused
      (either out (nat_lt last_day (due_day k c day)) _ _ refused (accepted out k n _ _ tt)))

  out_tells : (k : Facts) (n : ℕ) (may : Bool) (day : ℕ) (old : CopyState)
      → Tells out (checkout_at k n p c may day old)
  out_tells k n may day (Shelf b) = asked (λ chosen. shelf_tells k n day (Shelf b) chosen)
  out_tells k n may day (OnLoan l) =
      either out (l.patron == p) _ _ (either out may _ _ (loan_tells k n day l) refused) refused
  out_tells k n may day (OnHoldShelf s) =
      either out (s.patron == p) _ _ (held_tells k n day (OnHoldShelf s)) refused
  out_tells k n may day (InTransit t) = refused

renewed_tells : (p c : ℕ) (k : Facts) (n day : ℕ) (l : Loan)
    → Tells (action.Renewal p c) (renew_loan k n p c day l)
renewed_tells p c k n day l =
    asked (λ chosen. either (action.Renewal p c) (cannot_renew k p c l chosen) _ _ refused
    (either (action.Renewal p c) (nat_lt last_day (due_day k c day)) _ _ refused
    (accepted (action.Renewal p c) k n _ _ tt)))

renew_tells : (p c : ℕ) (k : Facts) (n day : ℕ) (old : CopyState)
    → Tells (action.Renewal p c) (renew_at k n p c day old)
renew_tells p c k n day (OnLoan l) =
    either (action.Renewal p c) (l.patron == p) _ _ (renewed_tells p c k n day l) refused
renew_tells p c k n day (Shelf b) = refused
renew_tells p c k n day (OnHoldShelf s) = refused
renew_tells p c k n day (InTransit t) = refused

off_line_tells : (p c due : ℕ) (k : Facts) (n : ℕ) (old : CopyState) (held : Option Hold) (tied : Option ℕ)
    → Tells (action.OffLine p c due) (off_line_at k n p c due old held tied)
off_line_tells p c due k n old held None = accepted (action.OffLine p c due) k n _ _ tt
off_line_tells p c due k n old held (Some q) = either (action.OffLine p c due) (q == p) _ _
    (accepted (action.OffLine p c due) k n _ _ tt)
    (asked (λ other. accepted (action.OffLine p c due) k n _ _ tt))

keep_tells : (a : Action) (b : ℕ) (h : Hold) (at : Option ℕ) (rest : CopyState → Plan)
    → ((new : CopyState) → Tells a (rest new)) → Tells a (keep b h at rest)
keep_tells a b h None rest all = either a (h.pickup == b) _ _ (asked (λ spot. all _)) (all _)
keep_tells a b h (Some spot) rest all = all _

allot_tells : (a : Action) (k : Facts) (c b : ℕ) (at : Option ℕ)
    (chosen : Option Hold) (rest : CopyState → List Change → Plan)
    → ((new : CopyState) (gets : List Change) → Tells a (rest new gets))
    → Tells a (allot k c b at chosen rest)
allot_tells a k c b at None rest all = all _ []
allot_tells a k c b at (Some h) rest all = asked (λ held. keep_tells a b h at _ (λ new. all new _))

settle_tells : (a : Action) (k : Facts) (c b day : ℕ) (old : CopyState)
    (tied : Option ℕ) (rest : CopyState → List Change → Plan)
    → ((new : CopyState) (gets : List Change) → Tells a (rest new gets))
    → Tells a (settle k c b day old tied rest)
settle_tells a k c b day old (Some p) rest all = asked (λ held. by_hold held)
  where
    by_hold : (held : Option Hold) → Tells a (settle_tied k c b old held rest)
    by_hold None = all _ []
    by_hold (Some h) = keep_tells a b h (place_at b old) _ (λ new. all new [])
settle_tells a k c b day old None rest all = asked (λ chosen. allot_tells a k c b None chosen rest all)

checkin_tells : (c b : ℕ) (k : Facts) (n day : ℕ) → Tells (action.Checkin c b) (checkin k n c b day)
checkin_tells c b k n day =
    asked (λ old. settle_tells (action.Checkin c b) k c b day old (tied_to old) _
    (λ new gets. accepted (action.Checkin c b) k n _ _ tt))

add_tells : (p t : ℕ) (kind : HoldKind) (pickup : ℕ) (expiry : Option ℕ) (k : Facts) (n : ℕ) (h : Hold)
    (day : ℕ) (old : Option Hold) → Tells (action.Add p t kind pickup expiry) (add k n h t day old)
add_tells p t kind pickup expiry k n h day (Some old) = refused
add_tells p t kind pickup expiry k n h day None =
    either (action.Add p t kind pickup expiry) (has_expired h.expiry day) _ _ refused
    (asked (λ spot. asked (λ available. accepted (action.Add p t kind pickup expiry) k n _ _ tt)))

release_tells : (a : Action) (k : Facts) (c day : ℕ) (old : CopyState) (rest : List Change → Plan)
    → ((gets : List Change) → Tells a (rest gets)) → Tells a (release k c day old rest)
release_tells a k c day (Shelf b) rest all = all []
release_tells a k c day (OnLoan l) rest all = all []
release_tells a k c day (InTransit t) rest all = all _
release_tells a k c day (OnHoldShelf s) rest all =
    asked (λ chosen. allot_tells a k c s.branch (Some s.place) chosen _ (λ new gets. all _))

delete_tells : (p t : ℕ) (k : Facts) (n day : ℕ) (old : Option Hold)
    → Tells (action.Delete p t) (delete k n t p day old)
delete_tells p t k n day None = refused
delete_tells p t k n day (Some h) = by_copy h.copy
  where
    by_copy : (o : Option ℕ) → Tells (action.Delete p t) (delete_with k n t p day h o)
    by_copy None = accepted (action.Delete p t) k n _ _ tt
    by_copy (Some c) = asked (λ old. release_tells (action.Delete p t) k c day old _
        (λ gets. accepted (action.Delete p t) k n _ _ tt))

change_tells : (p t : ℕ) (kind : Option HoldKind)
    (pickup expiry : Option ℕ) (k : Facts) (n day : ℕ) (old : Option Hold)
    → Tells (action.Change p t kind pickup expiry) (change k n t p kind pickup expiry day old)
change_tells p t kind pickup expiry k n day None = refused
change_tells p t kind pickup expiry k n day (Some h) = by_copy h.copy _
  where
    by_copy : (o : Option ℕ) (new : Hold)
        → Tells (action.Change p t kind pickup expiry) (change_to k n t p expiry day h new o)
    by_copy (Some c) new = refused
    by_copy None new = either (action.Change p t kind pickup expiry) (has_expired expiry day) _ _ refused
        (asked (λ spot. asked (λ available. accepted (action.Change p t kind pickup expiry) k n _ _ tt)))

plan_tells : (k : Facts) (n day : ℕ) (a : Action) → Tells a (plan_of k n day a)
plan_tells k n day (action.Checkout p c may_renew) =
    asked (λ old. out_tells p c may_renew k n may_renew day old)
plan_tells k n day (action.OffLine p c due) =
    asked (λ old. asked (λ held. off_line_tells p c due k n old held (tied_to old)))
plan_tells k n day (action.Checkin c b) = checkin_tells c b k n day
plan_tells k n day (action.Add p t kind pickup expiry) =
    asked (λ old. add_tells p t kind pickup expiry k n _ day old)
plan_tells k n day (action.Delete p t) = asked (λ old. delete_tells p t k n day old)
plan_tells k n day (action.Change p t kind pickup expiry) =
    asked (λ old. change_tells p t kind pickup expiry k n day old)
plan_tells k n day (action.Renewal p c) = asked (λ old. renew_tells p c k n day old)

ends_telling : (a : Action) (k : Facts) (d : Desk) (p : Plan) → AllTell a p → (done : Done)
    → outcome k d p ≡ Ok done → TellsOf a done.reply
ends_telling a k d (Ask q rest) h done is =
    ends_telling a k d (rest (answer k d q)) (h (answer k d q)) done is
ends_telling a k d (Refuse r) h done is = cc
ends_telling a k d (Accept x) h done is = subst (λ (y : Done). TellsOf a y.reply) (done_is x done is) h

-- the reply to an accepted command tells of what it did
pub done_tells : (k : Facts) (d : Desk) (n day : ℕ) (a : Action) (done : Done)
    → outcome k d (plan_of k n day a) ≡ Ok done → TellsOf a done.reply
done_tells k d n day a done is = ends_telling a k d (plan_of k n day a) (plan_tells k n day a).all done is
