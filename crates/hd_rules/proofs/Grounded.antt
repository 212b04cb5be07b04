-- Each change that a command makes is of a cell whose value it asked, and has that value as the old one.
use Rattle.std.proofs.Common.{◌≡◌, refl, ℕ, zero, suc, Bool, true, false, if◌then◌else◌, List, [], ◌∷◌, ◌++◌}
use Rattle.std.proofs.Common.{Option, Some, None, inl, inr}
use Rattle.std.proofs.Common.{◌⊎◌}
use Rattle.hd_rules.specs.Words.{Hold, HoldKind, Loan, CopyState, Shelf, OnLoan, OnHoldShelf, InTransit, Cell}
use Rattle.hd_rules.specs.Words.{CopyCell, HoldCell, Value}
use Rattle.hd_rules.specs.Words.{CopyHas, HoldHas, Change, Question, ValueOf, Choice, Place, Room, Position}
use Rattle.hd_rules.specs.Words.{OnShelf, Refusal, Reply}
use Rattle.hd_rules.specs.Words.{Action, Command}
use Rattle.hd_rules.specs.declared.replies.Refusal.TheVariants as refusal
use Rattle.std.specs.Prelude.{nat_lt}
use Rattle.hd_rules.specs.declared.commands.Action.TheVariants as action
use Rattle.hd_rules.specs.Facts.{Facts, last_number}
use Rattle.hd_rules.specs.Ask.{Plan, Ask, Refuse, Accept, AnswerTo}
use Rattle.hd_rules.specs.Settle.{settle, settle_tied, allot, keep, tied_to, copy_becomes, hold_becomes}
use Rattle.hd_rules.specs.Step.{accept, lend, lend_held, lend_from_shelf, cannot_renew, renew_loan}
use Rattle.hd_rules.specs.Step.{checkout_at, ends_with, end_of_hold, release_of_hold}
use Rattle.hd_rules.specs.Step.{lend_off_line, off_line_at, checkin, add, release, delete_with, delete}
use Rattle.hd_rules.specs.Step.{change_to, change, renew_at}
use Rattle.hd_rules.specs.Step.{plan_of, plan}
use Rattle.hd_rules.specs.Same.{real_changes}
use Rattle.std.specs.Prelude.{filter}

-- the answer tells what this cell has
abbrev pub Told : (q : Question) → AnswerTo q → Cell → Value → Type 0
Told (ValueOf (CopyCell c)) a x v = (x ≡ CopyCell c) × (v ≡ CopyHas a)
Told (ValueOf (HoldCell t p)) a x v = (x ≡ HoldCell t p) × (v ≡ HoldHas a)
Told (Choice c b day) a x v = ⊥
Told (Place b) a x v = ⊥
Told (Room p) a x v = ⊥
Told (Position t s) a x v = ⊥
Told (OnShelf t kind pickup) a x v = ⊥

-- at most so many changes, each of a cell whose old value is known
abbrev pub EachKnown : ℕ → (Cell → Value → Type 0) → List Change → Type 0
EachKnown most known [] = Unit {0}
EachKnown zero known (c ∷ cs) = ⊥
EachKnown (suc most) known (c ∷ cs) = known c.cell c.old × EachKnown most known cs

abbrev pub EachGrounded : (Cell → Value → Type 0) → Plan → Type 0
EachGrounded known (Ask q rest) = (a : AnswerTo q) → EachGrounded (λ x v. known x v ⊎ Told q a x v) (rest a)
EachGrounded known (Refuse r) = Unit {0}
EachGrounded known (Accept done) = EachKnown 4 known done.changes

-- as a record, so that antt finds the plan that a lemma speaks of
pub record Grounded (known : Cell → Value → Type 0) (plan : Plan) : Type 0 where
  pub each : EachGrounded known plan

pub each_known_more : (most : ℕ) (P Q : Cell → Value → Type 0) → ((x : Cell) (v : Value) → P x v → Q x v)
    → (cs : List Change) → EachKnown most P cs → EachKnown most Q cs
each_known_more most P Q more [] h = tt
each_known_more zero P Q more (c ∷ cs) h = h
each_known_more (suc most) P Q more (c ∷ cs) h = (more c.cell c.old h.0, each_known_more most P Q more cs h.1)

-- so many are at most one more
one_more : (most : ℕ) (P : Cell → Value → Type 0) (cs : List Change) → EachKnown most P cs
    → EachKnown (suc most) P cs
one_more most P [] h = tt
one_more zero P (c ∷ cs) h = absurd h
one_more (suc most) P (c ∷ cs) h = (h.0, one_more most P cs h.1)

more_or : (P Q R : Cell → Value → Type 0) → ((x : Cell) (v : Value) → P x v → Q x v) → (x : Cell) (v : Value)
    → P x v ⊎ R x v → Q x v
    ⊎ R x v
more_or P Q R more x v (inl h) = inl (more x v h)
more_or P Q R more x v (inr h) = inr h

each_grounded_more : (P Q : Cell → Value → Type 0) → ((x : Cell) (v : Value) → P x v → Q x v) → (plan : Plan)
    → EachGrounded P plan → EachGrounded Q plan
each_grounded_more P Q more (Ask q rest) h =
    λ a. each_grounded_more (λ x v. P x v ⊎ Told q a x v) (λ x v. Q x v ⊎ Told q a x v)
    (more_or P Q (Told q a) more) (rest a) (h a)
each_grounded_more P Q more (Refuse r) h = tt
each_grounded_more P Q more (Accept done) h = each_known_more 4 P Q more done.changes h

grounded_more : (P Q : Cell → Value → Type 0) → ((x : Cell) (v : Value) → P x v → Q x v) → (plan : Plan)
    → Grounded P plan → Grounded Q plan
grounded_more P Q more plan h = record { each = each_grounded_more P Q more plan h.each }

asked : {P : Cell → Value → Type 0} {q : Question} {rest : AnswerTo q → Plan}
    → ((a : AnswerTo q) → Grounded (λ x v. P x v ⊎ Told q a x v) (rest a)) → Grounded P (Ask q rest)
asked h = record { each = λ a. (h a).each }

refused : {P : Cell → Value → Type 0} {r : Refusal} → Grounded P (Refuse r)
refused = record { each = tt }

either : (P : Cell → Value → Type 0) (b : Bool) (x y : Plan) → Grounded P x → Grounded P y
    → Grounded P (if b then x else y)
either P true x y h g = h
either P false x y h g = g

known_filter : (most : ℕ) (P : Cell → Value → Type 0) (keep_it : Change → Bool) (cs : List Change)
    → EachKnown most P cs → EachKnown most P (filter keep_it cs)
known_filter most P keep_it [] h = tt
known_filter zero P keep_it (c ∷ cs) h = absurd h
known_filter (suc most) P keep_it (c ∷ cs) h = known_at (keep_it c) refl (known_filter most P keep_it cs h.1)
  where
    known_at : (b : Bool) → keep_it c ≡ b → EachKnown most P (filter keep_it cs)
        → EachKnown (suc most) P (filter keep_it (c ∷ cs))
    known_at true is rest = rw is (h.0, rest)
    known_at false is rest = rw is (one_more most P (filter keep_it cs) rest)

known_real : (P : Cell → Value → Type 0) (cs : List Change) → EachKnown 4 P cs
    → EachKnown 4 P (real_changes cs)
unfolding real_changes
known_real P cs h = known_filter 4 P _ cs h

accept_grounded : (P : Cell → Value → Type 0) (k : Facts) (n : ℕ) (cs : List Change) (r : Reply)
    → EachKnown 4 P cs → Grounded P (accept k n cs r)
accept_grounded P k n cs r h =
    either P (nat_lt (last_number k) n) (Refuse refusal.JournalFull)
    (Accept (record { changes = real_changes cs; reply = r })) refused
    (record { each = known_real P cs h })

-- how a plan goes on, wherever more is known
IsGrounded : (Cell → Value → Type 0) → (CopyState → List Change → Plan) → Type 1
IsGrounded P rest =
    (Q : Cell → Value → Type 0) → ((x : Cell) (v : Value) → P x v → Q x v)
    → (new : CopyState) (gets : List Change) → EachKnown 2 Q gets
    → Grounded Q (rest new gets)

keep_grounded : (P : Cell → Value → Type 0) (b : ℕ) (h : Hold) (at : Option ℕ) (rest : CopyState → Plan)
    → ((new : CopyState) → Grounded P (rest new)) → Grounded P (keep b h at rest)
keep_grounded P b h None rest ok =
    either P _ _ _ (asked (λ a. grounded_more P _ (λ x v known. inl known) _ (ok _))) (ok _)
keep_grounded P b h (Some place) rest ok = ok _

allot_grounded : (P : Cell → Value → Type 0) (k : Facts) (c : ℕ) (b : ℕ) (at : Option ℕ)
    (chosen : Option Hold) (rest : CopyState → List Change → Plan) → IsGrounded P rest
    → Grounded P (allot k c b at chosen rest)
unfolding IsGrounded
allot_grounded P k c b at None rest ok = ok P (λ x v known. known) _ _ tt
allot_grounded P k c b at (Some h) rest ok = asked (λ held.
    keep_grounded _ b h at _ (λ new. ok _ (λ x v known. inl known) new _ (inr (refl, refl), tt)))

settle_tied_grounded : (P : Cell → Value → Type 0) (k : Facts) (c : ℕ) (b : ℕ) (old : CopyState)
    (held : Option Hold) (rest : CopyState → List Change → Plan) → IsGrounded P rest
    → Grounded P (settle_tied k c b old held rest)
unfolding IsGrounded
settle_tied_grounded P k c b old None rest ok = ok P (λ x v known. known) _ _ tt
settle_tied_grounded P k c b old (Some h) rest ok =
    keep_grounded P b h _ _ (λ new. ok P (λ x v known. known) new _ tt)

-- what is grounded stays so where more is known
grounded_on : (P Q : Cell → Value → Type 0) (rest : CopyState → List Change → Plan)
    → ((x : Cell) (v : Value) → P x v → Q x v) → IsGrounded P rest → IsGrounded Q rest
unfolding IsGrounded
grounded_on P Q rest more ok = λ R above. ok R (λ x v known. above x v (more x v known))

settle_grounded : (P : Cell → Value → Type 0) (k : Facts) (c : ℕ) (b : ℕ) (day : ℕ)
    (old : CopyState) (tied : Option ℕ) (rest : CopyState → List Change → Plan) → IsGrounded P rest
    → Grounded P (settle k c b day old tied rest)
settle_grounded P k c b day old (Some p) rest ok = asked (λ held.
    settle_tied_grounded _ k c b old held rest (grounded_on P _ rest (λ x v known. inl known) ok))
settle_grounded P k c b day old None rest ok = asked (λ chosen.
    allot_grounded _ k c b None chosen rest (grounded_on P _ rest (λ x v known. inl known) ok))

lend_grounded : (P : Cell → Value → Type 0) (k : Facts) (p : ℕ) (c : ℕ) (day : ℕ) (rest : Plan)
    → Grounded P rest → Grounded P (lend k p c day rest)
lend_grounded P k p c day rest ok = asked (λ room.
    either _ room _ _ (either _ _ _ _ refused (grounded_more P _ (λ x v h. inl h) rest ok)) refused)

lend_held_grounded : (P : Cell → Value → Type 0) (k : Facts) (n : ℕ) (p : ℕ) (c : ℕ) (day : ℕ)
    (old : CopyState) → P (CopyCell c) (CopyHas old) → Grounded P (lend_held k n p c day old)
lend_held_grounded P k n p c day old known = lend_grounded P k p c day _ (asked (λ held.
    accept_grounded _ k n _ _ (inl known, (inr (refl, refl), tt))))

copy_grounded : (P : Cell → Value → Type 0) (k : Facts) (n : ℕ) (c : ℕ) (old new : CopyState) (r : Reply)
    → P (CopyCell c) (CopyHas old) → Grounded P (accept k n (copy_becomes c old new ∷ []) r)
copy_grounded P k n c old new r known = accept_grounded P k n _ r (known, tt)

renew_loan_grounded : (P : Cell → Value → Type 0) (k : Facts) (n : ℕ) (p : ℕ) (c : ℕ) (day : ℕ) (l : Loan)
    → P (CopyCell c) (CopyHas (OnLoan l)) → Grounded P (renew_loan k n p c day l)
renew_loan_grounded P k n p c day l known = asked (λ chosen.
    either _ (cannot_renew k p c l chosen) _ _ refused
    (either _ _ _ _ refused (copy_grounded _ k n c (OnLoan l) _ _ (inl known))))

lend_from_shelf_grounded : (P : Cell → Value → Type 0) (k : Facts) (n : ℕ) (p : ℕ) (c : ℕ)
    (day : ℕ) (old : CopyState) (chosen : Option Hold) → P (CopyCell c) (CopyHas old)
    → Grounded P (lend_from_shelf k n p c day old chosen)
lend_from_shelf_grounded P k n p c day old None known =
    lend_grounded P k p c day _ (accept_grounded P k n _ _ (known, tt))
lend_from_shelf_grounded P k n p c day old (Some h) known =
    either P _ _ _ (lend_held_grounded P k n p c day old known) refused

checkout_grounded : (P : Cell → Value → Type 0) (k : Facts) (n : ℕ) (p : ℕ) (c : ℕ) (may : Bool) (day : ℕ)
    (old : CopyState) → P (CopyCell c) (CopyHas old) → Grounded P (checkout_at k n p c may day old)
checkout_grounded P k n p c may day (Shelf b) known =
    asked (λ chosen. lend_from_shelf_grounded _ k n p c day (Shelf b) chosen (inl known))
checkout_grounded P k n p c may day (OnLoan l) known =
    either P _ _ _ (either P may _ _ (renew_loan_grounded P k n p c day l known) refused) refused
checkout_grounded P k n p c may day (OnHoldShelf s) known =
    either P _ _ _ (lend_held_grounded P k n p c day _ known) refused
checkout_grounded P k n p c may day (InTransit t) known = refused

-- the changes of holds that an off-line loan makes: at most one of its patron's, and one of another's
ended_known : (P : Cell → Value → Type 0) (k : Facts) (c : ℕ) (p : ℕ) (held : Option Hold)
    → P (HoldCell (k.title_of c) p) (HoldHas held) → EachKnown 1 P (end_of_hold k c p held)
ended_known P k c p None known = tt
ended_known P k c p (Some h) known = by_test (ends_with k c h h.copy)
  where
    by_test : (b : Bool) → EachKnown 1 P (if b then hold_becomes (k.title_of c) p (Some h) None ∷ [] else [])
    by_test true = (known, tt)
    by_test false = tt

freed_known : (P : Cell → Value → Type 0) (k : Facts) (c : ℕ) (q : ℕ) (other : Option Hold)
    → P (HoldCell (k.title_of c) q) (HoldHas other) → EachKnown 1 P (release_of_hold k c q other)
freed_known P k c q None known = tt
freed_known P k c q (Some h) known = (known, tt)

known_both : (P : Cell → Value → Type 0) (cs gs : List Change) → EachKnown 1 P cs → EachKnown 1 P gs
    → EachKnown 2 P (cs ++ gs)
known_both P [] gs h g = one_more 1 P gs g
known_both P (c ∷ []) gs h g = (h.0, g)
known_both P (c ∷ b ∷ cs) gs h g = absurd h.1

lend_off_line_grounded : (P : Cell → Value → Type 0) (k : Facts) (n : ℕ) (p : ℕ) (c : ℕ) (due : ℕ)
    (old : CopyState) (holds : List Change) → P (CopyCell c) (CopyHas old) → EachKnown 2 P holds
    → Grounded P (lend_off_line k n p c due old holds)
lend_off_line_grounded P k n p c due old holds known ok =
    accept_grounded P k n _ _ (known, one_more 2 P holds ok)

off_line_at_grounded : (P : Cell → Value → Type 0) (k : Facts) (n : ℕ) (p : ℕ) (c : ℕ) (due : ℕ)
    (old : CopyState) (held : Option Hold) (tied : Option ℕ) → P (CopyCell c) (CopyHas old)
    → P (HoldCell (k.title_of c) p) (HoldHas held) → Grounded P (off_line_at k n p c due old held tied)
off_line_at_grounded P k n p c due old held None copy hold =
    lend_off_line_grounded P k n p c due old _ copy
    (one_more 1 P (end_of_hold k c p held) (ended_known P k c p held hold))
off_line_at_grounded P k n p c due old held (Some q) copy hold =
    either P _ _ _ (lend_off_line_grounded P k n p c due old _ copy
    (one_more 1 P (end_of_hold k c p held) (ended_known P k c p held hold)))
    (asked (λ other. lend_off_line_grounded _ k n p c due old _ (inl copy)
    (known_both _ (end_of_hold k c p held) _ (ended_known _ k c p held (inl hold))
    (freed_known _ k c q other (inr (refl, refl))))))

checkin_grounded : (P : Cell → Value → Type 0) (k : Facts) (n : ℕ) (c : ℕ) (b : ℕ) (day : ℕ)
    → Grounded P (checkin k n c b day)
unfolding IsGrounded
checkin_grounded P k n c b day = asked (λ old.
    settle_grounded _ k c b day old (tied_to old) _ (λ Q more new gets ok.
    accept_grounded Q k n _ _ (more _ _ (inr (refl, refl)), one_more 2 Q gets ok)))

add_grounded : (P : Cell → Value → Type 0) (k : Facts) (n : ℕ) (h : Hold) (t : ℕ) (day : ℕ)
    (old : Option Hold) → P (HoldCell t h.patron) (HoldHas old) → Grounded P (add k n h t day old)
add_grounded P k n h t day (Some old) known = refused
add_grounded P k n h t day None known =
    either P _ _ _ refused
    (asked (λ place. asked (λ available. accept_grounded _ k n _ _ (inl (inl known), tt))))

release_grounded : (P : Cell → Value → Type 0) (k : Facts) (c : ℕ) (day : ℕ)
    (old : CopyState) (rest : List Change → Plan) → P (CopyCell c) (CopyHas old)
    → ((Q : Cell → Value → Type 0) → ((x : Cell) (v : Value) → P x v → Q x v) → (gets : List Change)
    → EachKnown 3 Q gets → Grounded Q (rest gets)) → Grounded P (release k c day old rest)
unfolding IsGrounded
release_grounded P k c day (Shelf b) rest known ok = ok P (λ x v h. h) [] tt
release_grounded P k c day (OnLoan l) rest known ok = ok P (λ x v h. h) [] tt
release_grounded P k c day (InTransit t) rest known ok = ok P (λ x v h. h) _ (known, tt)
release_grounded P k c day (OnHoldShelf s) rest known ok = asked (λ chosen.
    allot_grounded _ k c s.branch (Some s.place) chosen _ (λ Q more new gets all.
    ok Q (λ x v h. more x v (inl h)) _ (more _ _ (inl known), all)))

delete_with_grounded : (P : Cell → Value → Type 0) (k : Facts) (n : ℕ) (t : ℕ) (p : ℕ) (day : ℕ) (h : Hold)
    (c : Option ℕ) → P (HoldCell t p) (HoldHas (Some h)) → Grounded P (delete_with k n t p day h c)
delete_with_grounded P k n t p day h None known = accept_grounded P k n _ _ (known, tt)
delete_with_grounded P k n t p day h (Some c) known =
    asked (λ old.
    release_grounded _ k c day old _ (inr (refl, refl))
    (λ Q more gets all. accept_grounded Q k n _ _ (more _ _ (inl known), all)))

delete_grounded : (P : Cell → Value → Type 0) (k : Facts) (n : ℕ) (t : ℕ) (p : ℕ) (day : ℕ)
    (old : Option Hold) → P (HoldCell t p) (HoldHas old) → Grounded P (delete k n t p day old)
delete_grounded P k n t p day None known = refused
delete_grounded P k n t p day (Some h) known = delete_with_grounded P k n t p day h h.copy known

change_to_grounded : (P : Cell → Value
    → Type 0) (k : Facts) (n : ℕ) (t : ℕ) (p : ℕ) (expiry : Option ℕ) (day : ℕ) (h new : Hold) (c : Option ℕ)
    → P (HoldCell t p) (HoldHas (Some h)) → Grounded P (change_to k n t p expiry day h new c)
change_to_grounded P k n t p expiry day h new (Some c) known = refused
change_to_grounded P k n t p expiry day h new None known =
    either P _ _ _ refused
    (asked (λ place. asked (λ available. accept_grounded _ k n _ _ (inl (inl known), tt))))

change_grounded : (P : Cell → Value → Type 0) (k : Facts) (n : ℕ) (t : ℕ) (p : ℕ) (kind : Option HoldKind)
    (pickup : Option ℕ) (expiry : Option ℕ) (day : ℕ)
    (old : Option Hold) → P (HoldCell t p) (HoldHas old)
    → Grounded P (change k n t p kind pickup expiry day old)
change_grounded P k n t p kind pickup expiry day None known = refused
change_grounded P k n t p kind pickup expiry day (Some h) known =
    change_to_grounded P k n t p expiry day h _ h.copy known

renew_grounded : (P : Cell → Value → Type 0) (k : Facts) (n : ℕ) (p : ℕ) (c : ℕ) (day : ℕ) (old : CopyState)
    → P (CopyCell c) (CopyHas old) → Grounded P (renew_at k n p c day old)
renew_grounded P k n p c day (OnLoan l) known =
    either P _ _ _ (renew_loan_grounded P k n p c day l known) refused
renew_grounded P k n p c day (Shelf b) known = refused
renew_grounded P k n p c day (OnHoldShelf s) known = refused
renew_grounded P k n p c day (InTransit t) known = refused

abbrev pub nothing_known : Cell → Value → Type 0
nothing_known x v = ⊥

plan_of_grounded : (k : Facts) (n : ℕ) (day : ℕ) (a : Action) → Grounded nothing_known (plan_of k n day a)
plan_of_grounded k n day (action.Checkout p c may_renew) =
    asked (λ old. checkout_grounded _ k n p c may_renew day old (inr (refl, refl)))
plan_of_grounded k n day (action.OffLine p c due) =
    asked (λ old. asked (λ held. off_line_at_grounded _ k n p c due old held (tied_to old)
    (inl (inr (refl, refl))) (inr (refl, refl))))
plan_of_grounded k n day (action.Checkin c b) = checkin_grounded _ k n c b day
plan_of_grounded k n day (action.Add p t kind pickup expiry) =
    asked (λ old. add_grounded _ k n _ t day old (inr (refl, refl)))
plan_of_grounded k n day (action.Delete p t) =
    asked (λ old. delete_grounded _ k n t p day old (inr (refl, refl)))
plan_of_grounded k n day (action.Change p t kind pickup expiry) =
    asked (λ old. change_grounded _ k n t p kind pickup expiry day old (inr (refl, refl)))
plan_of_grounded k n day (action.Renewal p c) =
    asked (λ old. renew_grounded _ k n p c day old (inr (refl, refl)))

-- every change is of a cell that was asked, and has its value as the old one
pub plan_grounded : (k : Facts) (n : ℕ) (c : Command) → Grounded nothing_known (plan k n c)
plan_grounded k n c = plan_of_grounded k n c.day c.action
