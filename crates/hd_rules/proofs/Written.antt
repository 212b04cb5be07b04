-- An accepted command writes at most four cells, each of which it asked, and its changes begin from what
-- those have.
use Rattle.std.proofs.Common.{arith, ◌≡◌, sym, ◌∙◌, ap, subst, ℕ, ◌≤◌, zero, suc, ◌⊎◌, inl, inr, List, []}
use Rattle.std.proofs.Common.{◌∷◌, length, Ok}
use Rattle.hd_rules.specs.Words.{CopyState, Cell, CopyCell, HoldCell, Value, CopyHas, HoldHas, Change}
use Rattle.hd_rules.specs.Words.{Question, ValueOf, Choice, Place}
use Rattle.hd_rules.specs.Words.{Room, Position, OnShelf, Command}
use Rattle.hd_rules.specs.Facts.{Facts}
use Rattle.hd_rules.specs.Desk.{Desk, value}
use Rattle.hd_rules.specs.Ask.{Plan, Ask, Refuse, Accept, Done, AnswerTo, answer, outcome, asks}
use Rattle.hd_rules.specs.Step.{plan}
use Rattle.hd_rules.specs.Run.{IsAmong}
use Rattle.hd_rules.specs.Depends.{AnsweredAlike}
use Rattle.hd_rules.proofs.Grounded.{Told, EachKnown, EachGrounded, each_known_more, nothing_known}
use Rattle.hd_rules.proofs.Grounded.{plan_grounded}
use Rattle.hd_rules.proofs.Tests.{done_is}

-- the plan asks the cell at this desk, which has the value there
pub record Written (k : Facts) (d : Desk) (p : Plan) (x : Cell) (v : Value) : Type 0 where
  pub asked : IsAmong (ValueOf x) (asks k d p)
  pub has : value d x ≡ v

told_written : (k : Facts) (d : Desk) (q : Question) (rest : AnswerTo q → Plan) (x : Cell) (v : Value)
    → Told q (answer k d q) x v → Written k d (Ask q rest) x v
told_written k d (ValueOf (CopyCell c)) rest x v told =
    record { asked = inl (ap ValueOf told.0); has = ap (value d) told.0 ∙ sym told.1 }
told_written k d (ValueOf (HoldCell t p)) rest x v told =
    record { asked = inl (ap ValueOf told.0); has = ap (value d) told.0 ∙ sym told.1 }
told_written k d (Choice c b day) rest x v told = absurd told
told_written k d (Place b) rest x v told = absurd told
told_written k d (Room p) rest x v told = absurd told
told_written k d (Position t s) rest x v told = absurd told
told_written k d (OnShelf t kind pickup) rest x v told = absurd told

known_written : (k : Facts) (d : Desk) (P : Cell → Value → Type 0) (p : Plan) → EachGrounded P p
    → (done : Done) → outcome k d p ≡ Ok done → EachKnown 4 (λ x v. P x v ⊎ Written k d p x v) done.changes
known_written k d P (Ask q rest) grounded done is =
    each_known_more 4 (λ x v. (P x v ⊎ Told q (answer k d q) x v) ⊎ Written k d (rest (answer k d q)) x v)
    (λ x v. P x v
    ⊎ Written k d (Ask q rest) x v) sorted done.changes
    (known_written k d (λ x v. P x v ⊎ Told q (answer k d q) x v) (rest (answer k d q))
    (grounded (answer k d q)) done is)
  where
    sorted : (x : Cell) (v : Value)
        → (P x v ⊎ Told q (answer k d q) x v) ⊎ Written k d (rest (answer k d q)) x v → P x v
        ⊎ Written k d (Ask q rest) x v
    sorted x v (inl (inl known)) = inl known
    sorted x v (inl (inr told)) = inr (told_written k d q rest x v told)
    sorted x v (inr later) = inr (record { asked = inr later.asked; has = later.has })
known_written k d P (Refuse r) grounded done is = cc
known_written k d P (Accept a) grounded done is =
    subst (λ (x : Done). EachKnown 4 (λ y v. P y v ⊎ Written k d (Accept a) y v) x.changes)
    (done_is a done is)
    (each_known_more 4 P (λ x v. P x v ⊎ Written k d (Accept a) x v)
    (λ x v known. inl known) a.changes grounded)

pub plan_written : (k : Facts) (d : Desk) (n : ℕ) (command : Command) (done : Done)
    → outcome k d (plan k n command) ≡ Ok done → EachKnown 4 (Written k d (plan k n command)) done.changes
plan_written k d n command done is =
    each_known_more 4 (λ x v. nothing_known x v ⊎ Written k d (plan k n command) x v)
    (Written k d (plan k n command)) sure done.changes
    (known_written k d nothing_known (plan k n command) (plan_grounded k n command).each done is)
  where
    sure : (x : Cell) (v : Value) → nothing_known x v ⊎ Written k d (plan k n command) x v
        → Written k d (plan k n command) x v
    sure x v (inl none) = absurd none
    sure x v (inr written) = written

so_many : (most : ℕ) (P : Cell → Value → Type 0) (cs : List Change) → EachKnown most P cs → length cs ≤ most
so_many most P [] h = omega arith
so_many zero P (c ∷ cs) h = absurd h
so_many (suc most) P (c ∷ cs) h = let rest : length cs ≤ most = so_many most P cs h.1 in omega arith

known_among : (most : ℕ) (P : Cell → Value → Type 0) (cs : List Change) (change : Change)
    → EachKnown most P cs → IsAmong change cs → P change.cell change.old
known_among most P [] change h among = absurd among
known_among zero P (c ∷ cs) change h among = absurd h
known_among (suc most) P (c ∷ cs) change h (inl e) = subst (λ (x : Change). P x.cell x.old) (sym e) h.0
known_among (suc most) P (c ∷ cs) change h (inr among) = known_among most P cs change h.1 among

pub at_most_four : (k : Facts) (d : Desk) (n : ℕ) (command : Command) (done : Done)
    → outcome k d (plan k n command) ≡ Ok done → length done.changes ≤ 4
at_most_four k d n command done is =
    so_many 4 (Written k d (plan k n command)) done.changes (plan_written k d n command done is)

pub each_written : (k : Facts) (d : Desk) (n : ℕ) (command : Command) (done : Done)
    → outcome k d (plan k n command) ≡ Ok done → (change : Change) → IsAmong change done.changes
    → IsAmong (ValueOf change.cell) (asks k d (plan k n command)) × (value d change.cell ≡ change.old)
each_written k d n command done is change among =
    let w : Written k d (plan k n command) change.cell change.old =
    known_among 4 (Written k d (plan k n command)) done.changes change
    (plan_written k d n command done is) among in
    (w.asked, w.has)

-- what is asked and answered alike
pub alike_among : (k : Facts) (d e : Desk) (p : Plan) (q : Question) → AnsweredAlike k d e p
    → IsAmong q (asks k d p) → answer k d q ≡ answer k e q
alike_among k d e (Ask r rest) q alike (inl is) =
    subst (λ (x : Question). answer k d x ≡ answer k e x) (sym is) alike.0
alike_among k d e (Ask r rest) q alike (inr among) = alike_among k d e (rest (answer k d r)) q alike.1 among
alike_among k d e (Refuse r) q alike among = absurd among
alike_among k d e (Accept done) q alike among = absurd among

value_alike : (k : Facts) (d e : Desk) (x : Cell) → answer k d (ValueOf x) ≡ answer k e (ValueOf x)
    → value d x ≡ value e x
value_alike k d e (CopyCell c) same = ap (λ (s : CopyState). CopyHas s) same
value_alike k d e (HoldCell t p) same = ap HoldHas same

-- a cell that is written has one value at both desks
pub value_both : (k : Facts) (d e : Desk) (p : Plan) (x : Cell) → AnsweredAlike k d e p
    → IsAmong (ValueOf x) (asks k d p) → value d x ≡ value e x
value_both k d e p x alike among = value_alike k d e x (alike_among k d e p (ValueOf x) alike among)
